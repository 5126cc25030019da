-- The digits of a result: the one family of whole numbers that the recorded voltages of a channel have by
-- docs/PROFILE.md. Lists are in the order of time; the filters' relations have the newest value first.
use Rattle.std.specs.Prelude.{◌≡◌, ℕ, ◌<◌, ◌≤◌, List, length, map, reverse, Option, Some, None}
use Rattle.std.specs.List.{AllZip}
use Rattle.flk_exact.specs.Fraction.{Fraction}
use Rattle.flk_exact.specs.Cut.{AreCuts}
use Rattle.flk_num.specs.declared.interval.Interval.{Interval}
use Rattle.flk_num.specs.Interval.{lows, highs}
use Rattle.flk_num.specs.Rate.{adaptor_exponent, smoothing_number}
use Rattle.flk_scale.specs.Voltage.{is_below_zero, IsVoltageInterval}
use Rattle.flk_half.specs.Intervals.{AreHalfPeriodIntervals}
use Rattle.flk_change.specs.declared.flag.Flag.{Flag}
use Rattle.flk_change.specs.Steady.{AreFlags}
use Rattle.flk_change.specs.Resolutions.{IsSummary}
use Rattle.flk_front.specs.declared.point.Point.{Point}
use Rattle.flk_front.specs.Rounded.{ArePoints}
use Rattle.flk_section.specs.Answer.{AreAnswers}
use Rattle.flk_stat.specs.Rounded.{AreLevelIntervals}
use Rattle.flk_stat.specs.Severity.{IsSeverityOfEnds}
use Rattle.flk_stat.specs.LongTerm.{IsLongTerm}
use Rattle.flk_result.specs.declared.result.PhaseResult.{PhaseResult}
use Rattle.flk_result.specs.Conditions.{Conditions, half_in, window_in, of_interval}
use Rattle.flk_result.specs.PhaseResult.{pst_at, zero_interval}

-- The whole numbers of each step for these recorded voltages, in microvolts.
pub record AreSteps (c : Conditions) (recorded : List Fraction) (halves : List Interval) (flags : List Flag)
    (levels : List Interval) : Type 0 where
  pub voltages : List Interval
  pub cuts : List ℕ
  pub points : List Point
  pub answers : List Point
  pub are_voltages : AllZip (IsVoltageInterval c.nominal c.uncertainty) recorded voltages
  pub are_cuts : AreCuts (half_in c) (map is_below_zero recorded) cuts
  pub are_halves : AreHalfPeriodIntervals (half_in c) cuts voltages halves
  pub are_flags : AreFlags (window_in c) halves flags
  pub are_points : ArePoints (adaptor_exponent c.rate) (reverse voltages) points
  pub are_answers : AreAnswers c.filter points answers
  pub are_levels : AreLevelIntervals (smoothing_number c.rate) answers (reverse levels)

-- from the severity of the lower ends of some levels to that of the upper ones
pub record IsSeverityInterval (levels : List Interval) (v : Interval) : Type 0 where
  pub low : IsSeverityOfEnds (lows levels) v.lo
  pub high : IsSeverityOfEnds (highs levels) v.hi

-- from the Plt of the lower ends of twelve severities to that of the upper ones
pub record IsLongTermInterval (severities : List Interval) (v : Interval) : Type 0 where
  pub low : IsLongTerm (lows severities) v.lo
  pub high : IsLongTerm (highs severities) v.hi

-- Plt stands exactly where twelve intervals are judged
abbrev pub IsLongTermEnds : (count : ℕ) → List Interval → Option Interval → Type 0
IsLongTermEnds count severities None = count < 12
IsLongTermEnds count severities (Some v) = (count ≡ 12) × IsLongTermInterval severities v

-- The result of these recorded voltages: the summary of the half-periods with their flags, and each Pst and Plt end
-- by end.
pub record IsPhaseResult (c : Conditions) (recorded : List Fraction) (r : PhaseResult) : Type 0 where
  pub halves : List Interval
  pub flags : List Flag
  pub levels : List Interval
  pub steps : AreSteps c recorded halves flags levels
  pub halves_is : r.halves ≡ length halves
  pub changes_are : IsSummary (window_in c) halves flags r.changes
  pub count_is : r.count ≡ c.count
  pub severities_are : (i : ℕ) → i < c.count → IsSeverityInterval (of_interval c i levels) (pst_at r i)
  pub none_after : (i : ℕ) → c.count ≤ i → i < 12 → pst_at r i ≡ zero_interval
  pub long_term_is : IsLongTermEnds c.count r.pst r.plt
