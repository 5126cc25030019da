-- What the state of a phase stands for. Samples, voltages and levels are lists in the order of time; points that wait
-- for the weighting filter have the newest first.
use Rattle.std.specs.Prelude.{◌≡◌, ℕ, ◌+◌, List, [], length, map, reverse, slice_index_or, Option, None, ℤ, pos}
use Rattle.std.specs.List.{AllZip}
use Rattle.flk_exact.specs.Fraction.{Fraction}
use Rattle.flk_num.specs.declared.interval.Interval.{Interval}
use Rattle.flk_scale.specs.declared.scale.Scale.{Scale}
use Rattle.flk_scale.specs.Scale.{voltage_of, nominal_of, uncertainty_of}
use Rattle.flk_scale.specs.Voltage.{is_below_zero, IsVoltageInterval}
use Rattle.flk_scale.specs.Range.{IsWithinRange}
use Rattle.flk_front.specs.declared.point.Point.{Point}
use Rattle.flk_section.specs.declared.whole.Whole.{Whole}
use Rattle.flk_section.specs.Whole.{numbers_of}
use Rattle.flk_dat.specs.Records.{DataRecord}
use Rattle.flk_result.specs.declared.result.Setup.{Setup}
use Rattle.flk_result.specs.Conditions.{Conditions, conditions_for}
use Rattle.flk_result.specs.Promise.{IsFilterOf}
use Rattle.flk_phase.specs.declared.phase.Phase.{Phase}
use Rattle.flk_phase.specs.Halves.{spare_of as spare_of_halves, StandsFor as HalvesStandFor}
use Rattle.flk_phase.specs.Meter.{whole_of as whole_of_meter, StandsAhead as MeterStandsAhead}
use Rattle.flk_phase.specs.Severities.{StandsFor as SeveritiesStandFor}

-- the scale of its channel
abbrev pub scale_of : Phase → Scale
scale_of p = p.scale

-- the channel, from 0
abbrev pub channel_of : Phase → ℕ
channel_of p = p.channel

-- the bound that its weighting filter was made with
abbrev pub whole_of : Phase → Whole
whole_of p = whole_of_meter p.meter

-- what its result depends on beside the samples
abbrev pub conditions_of : Phase → Conditions
conditions_of p = conditions_for p.setup (numbers_of (whole_of p)) (nominal_of p.scale) (uncertainty_of p.scale)

-- how many samples it took
abbrev pub taken_of : Phase → ℕ
taken_of p = p.taken

-- for how many samples there is room
abbrev pub spare_of : Phase → ℕ
spare_of p = spare_of_halves p.halves

-- the position of the first record whose sample was over range, counted from 1 over all records
abbrev pub over_of : Phase → Option ℕ
over_of p = p.over

-- the voltages that samples record on a scale, in microvolts
abbrev pub told_by : Scale → List ℤ → List Fraction
told_by scale samples = map (voltage_of scale) samples

-- the samples of a channel, from 0, in some records
abbrev pub column_of : ℕ → List DataRecord → List ℤ
column_of channel records = map (λ r. slice_index_or r.analog channel (pos 0)) records

-- it was made for these, and took nothing
pub record IsMadeFor (p : Phase) (scale : Scale) (channel : ℕ) (setup : Setup) (whole : Whole) : Type 0 where
  pub scale_is : scale_of p ≡ scale
  pub channel_is : channel_of p ≡ channel
  pub whole_is : whole_of p ≡ whole
  pub conditions_are : conditions_of p
      ≡ conditions_for setup (numbers_of whole) (nominal_of scale) (uncertainty_of scale)
  pub nothing : taken_of p ≡ 0
  pub room : spare_of p ≡ 0
  pub none_over : over_of p ≡ None

-- The state stands for these samples of its channel, none of which records a voltage over range: the half-periods stand
-- for the signs and the intervals of the recorded voltages, the flickermeter for the intervals, and the severities for
-- the flickermeter's levels. The newest samples have points that wait for the weighting filter, and no level yet.
pub record StandsAhead (p : Phase) (samples : List ℤ) (waiting : List Point) : Type 0 where
  pub filter : IsFilterOf (conditions_of p) (whole_of p)
  pub within : IsWithinRange (nominal_of p.scale) (told_by p.scale samples)
  pub voltages : List Interval
  pub levels : List Interval
  pub are_voltages : AllZip (IsVoltageInterval (nominal_of p.scale) (uncertainty_of p.scale))
      (told_by p.scale samples) voltages
  pub halves : HalvesStandFor p.halves (map is_below_zero (told_by p.scale samples)) voltages
  pub meter : MeterStandsAhead p.meter (reverse voltages) waiting (reverse levels)
  pub severities : SeveritiesStandFor p.severities p.setup.run_in p.setup.interval p.setup.count levels
  pub level_each : length levels + length waiting ≡ length samples
  pub taken : p.taken ≡ length samples

-- the same with no point that waits: each sample has its level
abbrev pub Stands : Phase → (samples : List ℤ) → Type 0
Stands p samples = StandsAhead p samples []
