-- The levels of a recording: how many half-periods it has, and intervals that hold the least and the greatest of their
-- values.
use Rattle.std.specs.Prelude.{◌≡◌, ℕ, ◌+◌, ◌*◌, List, [], ◌∷◌, ◌++◌, length, map, Option, Some, None, ℤ, pos, ◌≤ℤ◌}
use Rattle.std.specs.List.{AllZip}
use Rattle.flk_exact.specs.Fraction.{Fraction}
use Rattle.flk_exact.specs.Rounding.{IsBetween}
use Rattle.flk_exact.specs.Run.{IsAdmittedRun, CoversDoubt}
use Rattle.flk_exact.specs.Cut.{AreCuts}
use Rattle.flk_exact.specs.HalfPeriod.{AreHalfPeriodValues}
use Rattle.flk_exact.specs.Extreme.{IsLeast, IsGreatest}
use Rattle.flk_num.specs.declared.interval.Interval.{Interval}
use Rattle.flk_num.specs.Interval.{lows, highs}
use Rattle.flk_scale.specs.Voltage.{is_below_zero, IsVoltageInterval}
use Rattle.flk_half.specs.Intervals.{AreHalfPeriodIntervals, IsNarrowHalfPeriod}
use Rattle.flk_top.specs.declared.measure.Levels.{Levels}
use Rattle.flk_top.specs.declared.measure.Extremes.{Extremes}

-- The recorded voltages are in microvolts, in the order of time, one for each sample.

-- The interval holds the least (or the greatest) half-period value of every exact run whose voltages lie within the
-- uncertainty of the recorded ones. (nominal in millivolts, uncertainty in microvolts)
abbrev pub HoldsEveryExtreme : (List ℤ → ℤ → Type 0) → ℕ → ℕ → ℕ → List Fraction → List ℕ → Interval → Type 0
HoldsEveryExtreme IsExtreme half nominal uncertainty recorded cuts v =
    (run : List Fraction) (values : List ℤ) (m : ℤ) → IsAdmittedRun (1000 * nominal) uncertainty recorded run
    → AreHalfPeriodValues half cuts run values → IsExtreme values m → IsBetween v.lo v.hi m

-- it is at most `3 * 10^9 * delta + 3` wide, for every delta of at least `uncertainty / nominal + 2^-47`
abbrev pub KeepsWidth : ℕ → ℕ → Interval → Type 0
KeepsWidth nominal uncertainty v =
    (delta : Fraction) → CoversDoubt (1000 * nominal) uncertainty delta → IsNarrowHalfPeriod delta v

-- it runs from the least lo to the least hi of some intervals (or from the greatest lo to the greatest hi)
pub record IsExtremeInterval (IsExtreme : List ℤ → ℤ → Type 0) (intervals : List Interval) (v : Interval) : Type 0 where
  pub low : IsExtreme (lows intervals) v.lo
  pub high : IsExtreme (highs intervals) v.hi

-- these two are the extreme intervals of a list of intervals
pub record AreExtremeIntervals (intervals : List Interval) (e : Extremes) : Type 0 where
  pub least_is : IsExtremeInterval IsLeast intervals e.least
  pub greatest_is : IsExtremeInterval IsGreatest intervals e.greatest

-- the list has them exactly where it is not empty
abbrev pub AreExtremeIntervalsIfAny : List Interval → Option Extremes → Type 0
AreExtremeIntervalsIfAny intervals None = length intervals ≡ 0
AreExtremeIntervalsIfAny intervals (Some e) = AreExtremeIntervals intervals e

-- For each list that has the old extremes, the new ones are those of the list with one interval more.
abbrev pub Widens : Option Extremes → Interval → Extremes → Type 0
Widens old v new =
    (intervals : List Interval) → AreExtremeIntervalsIfAny intervals old → AreExtremeIntervals (intervals ++ v ∷ []) new

-- the levels with one half-period more, where one ended
abbrev pub Gains : Levels → Option Interval → Levels → Type 0
Gains old None new = new ≡ old
Gains old (Some v) new =
    (new.count ≡ old.count + 1) × (e : Extremes) × (new.extremes ≡ Some e) × Widens old.extremes v e

-- What the two intervals promise. They hold every run, keep the width and are of natural numbers; and their ends are
-- those of the recorded voltages' own intervals, so that the recorded voltages have one such pair.
pub record AreExtremes (half nominal uncertainty : ℕ) (recorded : List Fraction) (cuts : List ℕ)
    (e : Extremes) : Type 0 where
  pub least_holds : HoldsEveryExtreme IsLeast half nominal uncertainty recorded cuts e.least
  pub greatest_holds : HoldsEveryExtreme IsGreatest half nominal uncertainty recorded cuts e.greatest
  pub least_width : KeepsWidth nominal uncertainty e.least
  pub greatest_width : KeepsWidth nominal uncertainty e.greatest
  pub least_natural : pos 0 ≤ℤ e.least.lo
  pub greatest_natural : pos 0 ≤ℤ e.greatest.lo
  pub voltages : List Interval
  pub intervals : List Interval
  pub are_voltages : AllZip (IsVoltageInterval nominal uncertainty) recorded voltages
  pub are_intervals : AreHalfPeriodIntervals half cuts voltages intervals
  pub least_is : IsExtremeInterval IsLeast intervals e.least
  pub greatest_is : IsExtremeInterval IsGreatest intervals e.greatest

-- there are two intervals exactly where there is a half-period
abbrev pub AreExtremesIfAny : ℕ → ℕ → ℕ → List Fraction → List ℕ → Option Extremes → Type 0
AreExtremesIfAny half nominal uncertainty recorded cuts None = length cuts ≡ 0
AreExtremesIfAny half nominal uncertainty recorded cuts (Some e) = AreExtremes half nominal uncertainty recorded cuts e

-- the levels of these recorded voltages, with so many samples in half a nominal period
pub record AreHalfPeriodLevels (half nominal uncertainty : ℕ) (recorded : List Fraction)
    (levels : Levels) : Type 0 where
  pub cuts : List ℕ
  pub are_cuts : AreCuts half (map is_below_zero recorded) cuts
  pub count : levels.count ≡ length cuts
  pub extremes : AreExtremesIfAny half nominal uncertainty recorded cuts levels.extremes
