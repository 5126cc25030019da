-- The voltage that a sample records, and the interval of the exact voltages that it admits, in units of 2^-48 of
-- nominal. A sample x of an analog channel stands for `a * x + b` of the channel's units (IEEE C37.111-1999, clause
-- 5.3); a, b are kept in units of 10^-24.
use Rattle.std.specs.Prelude.{◌≡◌, ◌⊎◌, ℕ, ◌*◌, ◌^◌, ◌<◌, Bool, true, cond, List, codes, ℤ, pos, ◌+ℤ◌, ◌-ℤ◌, ◌*ℤ◌}
use Rattle.std.specs.Int.{is_negative}
use Rattle.std.specs.Int.RustNames.{unsigned_abs}
use Rattle.std.specs.Str.{str_eq_ignore_ascii_case}
use Rattle.std.proofs.Common.{lit<}
use Rattle.flk_exact.specs.Fraction.{Fraction, ◌≈ℚ◌, ◌*ℚ◌, whole}
use Rattle.flk_exact.specs.Rounding.{IsFloor, IsCeil}
use Rattle.flk_num.specs.declared.interval.Interval.{Interval}
use Rattle.flk_cfg.specs.declared.config.Analog.{Analog}

-- the unit's text is `V` or `kV`, in letters of any case
abbrev pub IsVoltageUnit : List ℕ → Type 0
IsVoltageUnit text =
    (str_eq_ignore_ascii_case text (codes "V") ≡ true) ⊎ (str_eq_ignore_ascii_case text (codes "kV") ≡ true)

-- the microvolts of one unit of voltage: of a kilovolt, or of a volt
abbrev pub microvolts_in : List ℕ → ℕ
microvolts_in text = cond (str_eq_ignore_ascii_case text (codes "kV")) (10 ^ 9) (10 ^ 6)

-- `a * x + b` units of so many microvolts each, in microvolts
abbrev pub voltage_on_line : (a b : ℤ) → ℕ → ℤ → Fraction
voltage_on_line a b unit x = record { num = (x *ℤ a +ℤ b) *ℤ pos unit; den = 10 ^ 24; positive = lit< tt }

-- the voltage that sample x of a channel records, in microvolts
abbrev pub recorded_voltage : Analog → ℤ → Fraction
recorded_voltage channel x = voltage_on_line channel.a.n channel.b.n (microvolts_in channel.uu) x

-- the voltage is below 0
abbrev pub is_below_zero : Fraction → Bool
is_below_zero v = is_negative v.num

-- the voltage is above four times nominal in size (nominal in millivolts, the voltage in microvolts)
abbrev pub IsOverRange : ℕ → Fraction → Type 0
IsOverRange nominal v = 4 * (1000 * nominal) * v.den < unsigned_abs v.num

-- v runs from the recorded voltage less the uncertainty, rounded down, to the recorded voltage and the uncertainty,
-- rounded up, both over nominal (nominal in millivolts, uncertainty and voltage in microvolts)
pub record IsVoltageInterval (nominal uncertainty : ℕ) (recorded : Fraction) (v : Interval) : Type 0 where
  pub down : IsFloor ((recorded.num -ℤ pos (uncertainty * recorded.den)) *ℤ pos (2 ^ 48))
      (pos (1000 * nominal * recorded.den)) v.lo
  pub up : IsCeil ((recorded.num +ℤ pos (uncertainty * recorded.den)) *ℤ pos (2 ^ 48))
      (pos (1000 * nominal * recorded.den)) v.hi

-- u is the recorded voltage itself, relative to nominal
abbrev pub IsRelative : (nominal : ℕ) → (recorded u : Fraction) → Type 0
IsRelative nominal recorded u = (whole (pos (1000 * nominal)) *ℚ u) ≈ℚ recorded

-- the greatest size of an end of such an interval: 4.01 times nominal, in units of 2^-48, rounded up
abbrev pub greatest_voltage : ℕ
greatest_voltage = 1128714656609731
