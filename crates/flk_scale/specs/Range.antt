-- Which of a recording's voltages are over range. The voltages are in microvolts, in the order of time, and nominal is
-- in millivolts.
use Rattle.std.specs.Prelude.{ℕ, ◌<◌, List, length, slice_index_or, pos}
use Rattle.flk_exact.specs.Fraction.{Fraction, whole}
use Rattle.flk_scale.specs.Voltage.{IsOverRange}

-- the k-th voltage, from 0
abbrev pub voltage_at : List Fraction → ℕ → Fraction
voltage_at recorded k = slice_index_or recorded k (whole (pos 0))

-- voltage i is over range, and none before it
pub record IsFirstOver (nominal : ℕ) (recorded : List Fraction) (i : ℕ) : Type 0 where
  pub there : i < length recorded
  pub over : IsOverRange nominal (voltage_at recorded i)
  pub first : (k : ℕ) → k < i → ¬ IsOverRange nominal (voltage_at recorded k)

-- no voltage is over range
abbrev pub IsWithinRange : ℕ → List Fraction → Type 0
IsWithinRange nominal recorded = (k : ℕ) → k < length recorded → ¬ IsOverRange nominal (voltage_at recorded k)
