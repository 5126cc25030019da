-- The short-term flicker severity of IEC 61000-4-15 (Pst), in billionths. The rule of ranks, the rounding up to billionths and the cap are
-- the project's own.
use Rattle.std.specs.Prelude.{◌≡◌, ◌⊎◌, ℕ, ◌^◌, List, [], ◌∷◌, length, map, ℤ, pos, ◌*ℤ◌, ◌≤ℤ◌, ◌<ℤ◌}
use Rattle.std.specs.List.{AllZip}
use Rattle.flk_exact.specs.Fraction.{Fraction, ◌≤ℚ◌, ◌+ℚ◌, ◌*ℚ◌, whole, units}
use Rattle.flk_stat.specs.declared.severity.Share.{Share}
use Rattle.flk_stat.specs.Rank.{HasRank, is_less, rank_of}

abbrev pub share : ℕ → ℕ → Share
share k n = record { tenths = k; weight = n }

-- The levels that are exceeded during these tenths of a percent of the time, and how much each counts, in parts of 30000. These are the
-- standard's 0.0314 P0.1 + 0.0525 P1s + 0.0657 P3s + 0.28 P10s + 0.08 P50s, where P1s is the mean of P0.7, P1 and P1.5, P3s that of P2.2, P3
-- and P4, P10s that of P6, P8, P10, P13 and P17, and P50s that of P30, P50 and P80.
abbrev pub shares : List Share
shares =
    share 1 942
    ∷ share 7 525 ∷ share 10 525 ∷ share 15 525
    ∷ share 22 657 ∷ share 30 657 ∷ share 40 657
    ∷ share 60 1680 ∷ share 80 1680 ∷ share 100 1680 ∷ share 130 1680 ∷ share 170 1680
    ∷ share 300 800 ∷ share 500 800 ∷ share 800 800
    ∷ []

-- v is exceeded during k tenths of a percent of the time
abbrev pub IsPercentile : List Fraction → ℕ → Fraction → Type 0
IsPercentile levels k v = HasRank is_less (rank_of k (length levels)) levels v

-- one percentile for each share
abbrev pub ArePercentiles : List Share → (levels vs : List Fraction) → Type 0
ArePercentiles ss levels vs = AllZip (λ s v. IsPercentile levels s.tenths v) ss vs

-- the sum of the percentiles, each times its weight
abbrev pub weighted : List Share → List Fraction → Fraction
weighted (s ∷ ss) (v ∷ vs) = whole (pos s.weight) *ℚ v +ℚ weighted ss vs
weighted _ _ = whole (pos 0)

-- `30000 * w^2 >= 10^18 * S`: w is at least the root of `S / 30000`, in billionths
abbrev pub Reaches : Fraction → ℤ → Type 0
Reaches S w = (whole (pos 1000000000000000000) *ℚ S) ≤ℚ whole (pos 30000 *ℤ (w *ℤ w))

-- w is the lesser of the cap and the least whole number of 0 or more that reaches
pub record IsCappedLeast (Reach : ℤ → Type 0) (cap w : ℤ) : Type 0 where
  pub natural : pos 0 ≤ℤ w
  pub capped : w ≤ℤ cap
  pub reaches : (w ≡ cap) ⊎ Reach w
  pub least : (z : ℤ) → pos 0 ≤ℤ z → Reach z → w ≤ℤ z

-- 1000, in billionths
abbrev pub cap : ℤ
cap = pos 1000000000000

-- w is the short-term severity of the levels of one interval, in any order
pub record IsSeverity (levels : List Fraction) (w : ℤ) : Type 0 where
  pub percentiles : List Fraction
  pub are_percentiles : ArePercentiles shares levels percentiles
  pub is_least : IsCappedLeast (Reaches (weighted shares percentiles)) cap w

-- the same of levels in units of 2^-48
abbrev pub IsSeverityOfEnds : List ℤ → ℤ → Type 0
IsSeverityOfEnds levels w = IsSeverity (map units levels) w

-- an end of a level, in units of 2^-48, is from 0 to below 2^93
pub record IsLevelEnd (z : ℤ) : Type 0 where
  pub low : pos 0 ≤ℤ z
  pub high : z <ℤ pos (2 ^ 93)
