-- Whether a channel of a configuration can be measured, and the first test that fails. A channel's number counts
-- from 1.
use Rattle.std.specs.Prelude.{◌≡◌, ℕ, ◌<◌, length, ℤ}
use Rattle.flk_num.specs.declared.lamp.Lamp.{Lamp}
use Rattle.flk_text.specs.declared.decimals.DecimalValue.{DecimalValue}
use Rattle.flk_cfg.specs.declared.config.Analog.{Analog}
use Rattle.flk_cfg.specs.declared.config.Config.{Config}
use Rattle.flk_scale.specs.Voltage.{IsVoltageUnit}
use Rattle.flk_scale.specs.Scale.{HasSmallScale, HasScale}
use Rattle.flk_scale.specs.Channel.{IsChannel, IsFrequencyOf}
use Rattle.flk_scale.specs.declared.fault.MatchFault.{MatchFault}
use Rattle.flk_scale.specs.declared.fault.MatchFault.TheVariants as faults

-- the channel is there, its unit is one of voltage, and its a and b are at most 10000 in size
abbrev pub CanBeMeasured : Config → ℕ → Type 0
CanBeMeasured c channel = (a : Analog) × IsChannel c channel a × HasScale a

-- the first of these tests that fails, in this order
abbrev pub IsChannelFault : Config → ℕ → MatchFault → Type 0
IsChannelFault c channel (faults.Channel asked there) =
    (length c.analog < channel) × (asked ≡ channel) × (there ≡ length c.analog)
IsChannelFault c channel (faults.Unit number) =
    (number ≡ channel) × (a : Analog) × IsChannel c channel a × (¬ IsVoltageUnit a.uu)
IsChannelFault c channel (faults.Scale number) =
    (number ≡ channel) × (a : Analog) × IsChannel c channel a × IsVoltageUnit a.uu × (¬ HasSmallScale a)
IsChannelFault c channel _ = ⊥

-- so many units of 10^-24 of a hertz are the nominal frequency of no lamp's supply
abbrev pub IsOtherFrequency : ℤ → Type 0
IsOtherFrequency n = (lamp : Lamp) → ¬ IsFrequencyOf lamp n

-- the line frequency is neither of the two, which is told with 0 for the hertz that are asked for
abbrev pub IsFrequencyFault : DecimalValue → MatchFault → Type 0
IsFrequencyFault lf f = (f ≡ faults.Lamp 0 lf) × IsOtherFrequency lf.n
