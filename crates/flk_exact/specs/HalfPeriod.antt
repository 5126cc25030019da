-- The value of a half-period of a run, in billionths of nominal: its r.m.s. voltage over half a nominal period, rounded
-- down. IEC 61000-3-3, clause 3, judges voltage changes by such values.
use Rattle.std.specs.Prelude.{ℕ, ◌*◌, ◌^◌, List, [], ◌∷◌, ℤ, pos, ◌*ℤ◌, ◌≤ℤ◌}
use Rattle.std.specs.List.{AllZip}
use Rattle.flk_exact.specs.Fraction.{Fraction, ◌≤ℚ◌, ◌+ℚ◌, ◌*ℚ◌, whole}
use Rattle.flk_exact.specs.Cut.{half_periods}

abbrev pub sum_of_squares : List Fraction → Fraction
sum_of_squares [] = whole (pos 0)
sum_of_squares (u ∷ us) = u *ℚ u +ℚ sum_of_squares us

-- `w^2 * half <= 10^18 * (the sum of the squares of the voltages)`
abbrev pub IsReached : ℕ → List Fraction → ℤ → Type 0
IsReached half voltages w = whole (w *ℤ w *ℤ pos half) ≤ℚ (whole (pos (10 ^ 18)) *ℚ sum_of_squares voltages)

-- w is the greatest whole number that is reached
pub record IsHalfPeriodValue (half : ℕ) (voltages : List Fraction) (w : ℤ) : Type 0 where
  pub reached : IsReached half voltages w
  pub greatest : (z : ℤ) → IsReached half voltages z → z ≤ℤ w

-- one value for each half-period of a run
abbrev pub AreHalfPeriodValues : ℕ → List ℕ → List Fraction → List ℤ → Type 0
AreHalfPeriodValues half cuts run values = AllZip (IsHalfPeriodValue half) (half_periods cuts run) values

-- how wide the interval of a half-period's value may be, in billionths, where each voltage's is at most
-- `2 * delta` wide
abbrev pub half_period_width : Fraction → Fraction
half_period_width delta = whole (pos (3 * 10 ^ 9)) *ℚ delta +ℚ whole (pos 3)
