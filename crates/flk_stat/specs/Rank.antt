-- Ranks in a list, counted from the greatest. No list is put in order for it.
use Rattle.std.specs.Prelude.{ℕ, ◌*◌, ◌<◌, ◌≤◌, Bool, not, List, pos, ◌*ℤ◌, int_lt}
use Rattle.std.specs.Int.{div_ceil}
use Rattle.std.specs.List.{Contains, count_by}
use Rattle.flk_exact.specs.Fraction.{Fraction}

-- By the order `less`, v has rank k from the greatest: it is one of the list, fewer than k of the list are greater, and at least k are v or
-- greater.
pub record HasRank {A : Type 0} (less : A → A → Bool) (k : ℕ) (xs : List A) (v : A) : Type 0 where
  pub member : Contains xs v
  pub few_above : count_by (λ x. less v x) xs < k
  pub enough_at : k ≤ count_by (λ x. not (less x v)) xs

-- the order of fractions, as a test
abbrev pub is_less : Fraction → Fraction → Bool
is_less p q = int_lt (p.num *ℤ pos q.den) (q.num *ℤ pos p.den)

-- the rank of the percentile that is exceeded during k tenths of a percent of n levels: `k * n / 1000`, rounded up
abbrev pub rank_of : (k n : ℕ) → ℕ
rank_of k n = div_ceil (k * n) 1000
