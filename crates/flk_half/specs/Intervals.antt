-- The intervals of the values of a recording's half-periods, in the order of time.
use Rattle.std.specs.Prelude.{ℕ, ◌*◌, ◌^◌, ◌≤◌, Bool, List, ◌-ℤ◌}
use Rattle.std.specs.Int.RustNames.{unsigned_abs}
use Rattle.std.specs.List.{AllZip}
use Rattle.flk_exact.specs.Cut.{half_periods}
use Rattle.flk_exact.specs.Fraction.{Fraction, ◌≤ℚ◌, whole}
use Rattle.flk_exact.specs.HalfPeriod.{half_period_width}
use Rattle.flk_num.specs.declared.interval.Interval.{Interval}
use Rattle.flk_half.specs.Cutter.{IsHalfPeriodInterval, Stands}
use Rattle.flk_half.specs.declared.cutter.Cutter.{Cutter}

-- one interval for each half-period, made of the intervals of its voltages
abbrev pub AreHalfPeriodIntervals : ℕ → List ℕ → List Interval → List Interval → Type 0
AreHalfPeriodIntervals half cuts voltages halves = AllZip (IsHalfPeriodInterval half)
    (half_periods cuts voltages) halves

-- the ends of a voltage's interval are at most five times nominal in size, in units of 2^-48
pub record IsWithinFive (voltage : Interval) : Type 0 where
  pub low : unsigned_abs voltage.lo ≤ 5 * 2 ^ 48
  pub high : unsigned_abs voltage.hi ≤ 5 * 2 ^ 48

-- the interval of a half-period's value is at most `3 * 10^9 * delta + 3` wide
abbrev pub IsNarrowHalfPeriod : Fraction → Interval → Type 0
IsNarrowHalfPeriod delta h = whole (h.hi -ℤ h.lo) ≤ℚ half_period_width delta

-- the state stands for samples with these signs and voltages, whose half-periods have these intervals
pub record HasCut (c : Cutter) (half : ℕ) (negative : List Bool) (voltages halves : List Interval) : Type 0 where
  pub cuts : List ℕ
  pub stands : Stands c half negative voltages cuts
  pub are_intervals : AreHalfPeriodIntervals half cuts voltages halves
