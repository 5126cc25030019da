-- What the state of the flickermeter of a channel stands for: its blocks 1 to 4, sample by sample. Lists have the
-- newest value first.
use Rattle.std.specs.Prelude.{List, [], ◌++◌}
use Rattle.flk_num.specs.declared.interval.Interval.{Interval}
use Rattle.flk_num.specs.declared.rate.Rate.{Rate}
use Rattle.flk_num.specs.Rate.{adaptor_exponent, smoothing_number}
use Rattle.flk_front.specs.declared.point.Point.{Point}
use Rattle.flk_front.specs.Front.{Stands as FrontStands}
use Rattle.flk_front.specs.Rounded.{ArePoints}
use Rattle.flk_section.specs.declared.whole.Whole.{Whole}
use Rattle.flk_section.specs.Whole.{numbers_of}
use Rattle.flk_section.specs.Answer.{whole_in, CascadeStands, AreAnswers}
use Rattle.flk_stat.specs.Smooth.{Stands as SmoothStands, rate_of as rate_of_smooth}
use Rattle.flk_stat.specs.Rounded.{AreLevelIntervals}
use Rattle.flk_phase.specs.declared.meter.Meter.{Meter}

-- the sampling rate
abbrev pub rate_of : Meter → Rate
rate_of m = rate_of_smooth m.smooth

-- the bound that the weighting filter was made with
abbrev pub whole_of : Meter → Whole
whole_of m = whole_in m.cascade

-- The state stands for samples with these voltages, of which the newest have points that wait for the weighting
-- filter, and the others these levels: the adaptor stands for the voltages, the weighting filter for the adaptor's
-- points that don't wait, and the smoothing for the filter's answers.
pub record StandsAhead (m : Meter) (voltages : List Interval) (waiting : List Point) (levels : List Interval)
    : Type 0 where
  pub points : List Point
  pub answers : List Point
  pub front : FrontStands m.front voltages
  pub are_points : ArePoints (adaptor_exponent (rate_of m)) voltages (waiting ++ points)
  pub cascade : CascadeStands m.cascade points
  pub are_answers : AreAnswers (numbers_of (whole_of m)) points answers
  pub smooth : SmoothStands m.smooth answers
  pub are_levels : AreLevelIntervals (smoothing_number (rate_of m)) answers levels

-- the same with no point that waits: each voltage has its level
abbrev pub StandsFor : Meter → (voltages levels : List Interval) → Type 0
StandsFor m voltages levels = StandsAhead m voltages [] levels
