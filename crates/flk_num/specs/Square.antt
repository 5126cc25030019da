-- Squares of the numbers of an interval.
use Rattle.std.specs.Prelude.{◌≡◌, ℕ, suc, ◌*◌, max, List, sum_by, ℤ, pos, negsuc, ◌*ℤ◌}
use Rattle.std.specs.Int.RustNames.{unsigned_abs}
use Rattle.flk_exact.specs.Rounding.{IsBetween}
use Rattle.flk_num.specs.declared.interval.Interval.{Interval}

-- least and greatest are the least and the greatest square of a whole number from lo to hi
pub record AreSquares (lo hi least greatest : ℤ) : Type 0 where
  pub bounds : (z : ℤ) → IsBetween lo hi z → IsBetween least greatest (z *ℤ z)
  pub least_met : (z : ℤ) × IsBetween lo hi z × (z *ℤ z ≡ least)
  pub greatest_met : (z : ℤ) × IsBetween lo hi z × (z *ℤ z ≡ greatest)

-- the least size of a number from lo to hi: 0 where 0 lies between them
abbrev pub least_size : ℤ → ℤ → ℕ
least_size (pos a) hi = a
least_size (negsuc a) (pos b) = 0
least_size (negsuc a) (negsuc b) = suc b

-- the greatest size of a number from lo to hi
abbrev pub greatest_size : ℤ → ℤ → ℕ
greatest_size lo hi = max (unsigned_abs lo) (unsigned_abs hi)

-- the sums of the least and of the greatest squares of some intervals
abbrev pub least_squares : List Interval → ℕ
least_squares vs = sum_by (λ v. least_size v.lo v.hi * least_size v.lo v.hi) vs

abbrev pub greatest_squares : List Interval → ℕ
greatest_squares vs = sum_by (λ v. greatest_size v.lo v.hi * greatest_size v.lo v.hi) vs
