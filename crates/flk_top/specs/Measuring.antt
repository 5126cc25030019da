-- What the state of a measurement stands for.
use Rattle.std.specs.Prelude.{◌≡◌, ℕ, List, length, map, slice_index_or, pos}
use Rattle.std.specs.List.{AllZip}
use Rattle.flk_exact.specs.Fraction.{Fraction}
use Rattle.flk_num.specs.Rate.{half_at}
use Rattle.flk_num.specs.declared.interval.Interval.{Interval}
use Rattle.flk_scale.specs.Voltage.{is_below_zero, IsVoltageInterval}
use Rattle.flk_scale.specs.Scale.{voltage_of, nominal_of, uncertainty_of}
use Rattle.flk_half.specs.Intervals.{HasCut}
use Rattle.flk_dat.specs.Records.{DataRecord}
use Rattle.flk_scale.specs.Range.{IsWithinRange}
use Rattle.flk_top.specs.Levels.{AreExtremeIntervalsIfAny}
use Rattle.flk_cfg.specs.declared.config.Analog.{Analog}
use Rattle.flk_cfg.specs.declared.config.Config.{Config}
use Rattle.flk_scale.specs.Scale.{IsScaleOf}
use Rattle.flk_top.specs.Matching.{Matches}
use Rattle.flk_top.specs.declared.command.LevelsCommand.{LevelsCommand}
use Rattle.flk_top.specs.declared.matching.Matched.{Matched}
use Rattle.flk_top.specs.declared.measure.Measure.{Measure}

-- the voltage that a record tells of the channel that is measured (`channel` counts from 0)
abbrev pub told_voltage : Measure → DataRecord → Fraction
told_voltage m r = voltage_of m.matched.scale (slice_index_or r.analog m.channel (pos 0))

-- the samples of half a nominal period
abbrev pub half_of : Matched → ℕ
half_of m = half_at m.lamp m.rate

-- The state stands for these recorded voltages, none of which is over range: the cutter stands for their signs and
-- intervals, whose half-periods have so many intervals with these extremes.
pub record HasMeasured (m : Measure) (recorded : List Fraction) : Type 0 where
  pub voltages : List Interval
  pub intervals : List Interval
  pub are_voltages : AllZip (IsVoltageInterval (nominal_of m.matched.scale) (uncertainty_of m.matched.scale))
      recorded voltages
  pub cut : HasCut m.cutter (half_of m.matched) (map is_below_zero recorded) voltages intervals
  pub count : m.levels.count ≡ length intervals
  pub extremes : AreExtremeIntervalsIfAny intervals m.levels.extremes
  pub within : IsWithinRange (nominal_of m.matched.scale) recorded
  pub taken : m.taken ≡ length recorded

-- what the measurement of one channel is made for stays
pub record IsSameMeasurement (old new : Measure) : Type 0 where
  pub matched : new.matched ≡ old.matched
  pub channel : new.channel ≡ old.channel

-- the channel that levels are asked of can be measured, and this is how
pub record IsMatched (c : Config) (command : LevelsCommand) (a : Analog) (m : Matched) : Type 0 where
  pub matches : Matches c command.channel a m.lamp
  pub scale : IsScaleOf a command.supply m.scale
  pub rate : m.rate ≡ c.rate
