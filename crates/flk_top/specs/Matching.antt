-- Which channels of a configuration `levels` can measure, and the voltages that they record. A channel's number counts
-- from 1.
use Rattle.std.specs.Prelude.{◌⊎◌, ℕ, ◌-◌, List, map, slice_index_or, ℤ, pos}
use Rattle.flk_exact.specs.Fraction.{Fraction}
use Rattle.flk_num.specs.declared.lamp.Lamp.{Lamp}
use Rattle.flk_cfg.specs.declared.config.Analog.{Analog}
use Rattle.flk_cfg.specs.declared.config.Config.{Config}
use Rattle.flk_scale.specs.Channel.{IsChannel, IsFrequencyOf}
use Rattle.flk_scale.specs.Matching.{CanBeMeasured, IsChannelFault, IsFrequencyFault}
use Rattle.flk_scale.specs.Scale.{HasScale}
use Rattle.flk_scale.specs.Voltage.{recorded_voltage}
use Rattle.flk_scale.specs.declared.fault.MatchFault.{MatchFault}
use Rattle.flk_dat.specs.Records.{DataRecord}

-- The channel is there and can be measured, and the line frequency is that of the lamp's supply.
pub record Matches (c : Config) (channel : ℕ) (a : Analog) (lamp : Lamp) : Type 0 where
  pub there : IsChannel c channel a
  pub scale : HasScale a
  pub frequency : IsFrequencyOf lamp c.lf.n

-- the first test that fails: those of the channel come before that of the line frequency
abbrev pub IsChannelMatchFault : Config → ℕ → MatchFault → Type 0
IsChannelMatchFault c channel f = IsChannelFault c channel f ⊎ (CanBeMeasured c channel × IsFrequencyFault c.lf f)

-- the sample of a channel in a record
abbrev pub sample_of : ℕ → DataRecord → ℤ
sample_of channel r = slice_index_or r.analog (channel - 1) (pos 0)

-- the voltages that a channel records in these records, in microvolts, in the order of time
abbrev pub recorded_voltages : Analog → ℕ → List DataRecord → List Fraction
recorded_voltages a channel rs = map (λ r. recorded_voltage a (sample_of channel r)) rs
