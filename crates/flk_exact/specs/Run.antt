-- A run: one exact voltage for each sample, relative to nominal, within the declared uncertainty of the recorded one.
use Rattle.std.specs.Prelude.{ℕ, ◌*◌, ◌<◌, List, pos}
use Rattle.std.specs.List.{AllZip}
use Rattle.std.proofs.Math.Nat.{mul-pos}
use Rattle.flk_exact.specs.Fraction.{Fraction, ◌≤ℚ◌, ◌+ℚ◌, ◌*ℚ◌, whole, units}

-- u is an exact voltage, relative to nominal, that a recorded voltage admits: nominal times u differs
-- from it by at most the uncertainty. All three are in microvolts.
pub record IsAdmitted (nominal uncertainty : ℕ) (recorded u : Fraction) : Type 0 where
  pub not_above : (whole (pos nominal) *ℚ u) ≤ℚ (recorded +ℚ whole (pos uncertainty))
  pub not_below : recorded ≤ℚ (whole (pos nominal) *ℚ u +ℚ whole (pos uncertainty))

-- The run has one exact voltage for each recorded one, which admits it.
abbrev pub IsAdmittedRun : ℕ → ℕ → List Fraction → List Fraction → Type 0
IsAdmittedRun nominal uncertainty recorded run = AllZip (IsAdmitted nominal uncertainty) recorded run

-- a recorded voltage itself, relative to nominal
abbrev pub relative_to : (nominal : ℕ) → 0 < nominal → Fraction → Fraction
relative_to nominal positive recorded =
    record { num = recorded.num; den = recorded.den * nominal; positive = mul-pos recorded.positive positive }

-- delta is at least the uncertainty relative to nominal, and two units for the rounding of a voltage's interval
pub record CoversDoubt (nominal uncertainty : ℕ) (delta : Fraction) : Type 0 where
  pub covers : (whole (pos uncertainty) +ℚ whole (pos nominal) *ℚ units (pos 2)) ≤ℚ (whole (pos nominal) *ℚ delta)
