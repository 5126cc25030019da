-- The channel of a configuration that a number names, and the line frequency of a lamp's supply.
use Rattle.std.specs.Prelude.{◌≡◌, ℕ, ◌-◌, ◌*◌, ◌^◌, ◌≤◌, length, slice_index_or, ℤ, pos}
use Rattle.flk_num.specs.Lamp.{hertz_of}
use Rattle.flk_num.specs.declared.lamp.Lamp.{Lamp}
use Rattle.flk_cfg.specs.declared.config.Analog.{Analog}
use Rattle.flk_cfg.specs.declared.config.Config.{Config}

-- the analog channel of this number, from 1
pub record IsChannel (c : Config) (channel : ℕ) (a : Analog) : Type 0 where
  pub from : 1 ≤ channel
  pub within : channel ≤ length c.analog
  pub is : (none : Analog) → slice_index_or c.analog (channel - 1) none ≡ a

-- so many units of 10^-24 of a hertz are the nominal frequency of the lamp's supply
abbrev pub IsFrequencyOf : Lamp → ℤ → Type 0
IsFrequencyOf lamp n = n ≡ pos (hertz_of lamp * 10 ^ 24)
