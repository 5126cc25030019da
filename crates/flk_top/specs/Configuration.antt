-- What the bytes under the name of a configuration hold: one configuration, or a first fault.
use Rattle.std.specs.Prelude.{◌≡◌, ℕ, ◌<◌, ◌≤◌, List, length}
use Rattle.flk_cfg.specs.File.{IsConfig, IsFirstFault}
use Rattle.flk_cfg.specs.Kinds.{kind_number}
use Rattle.flk_cfg.specs.declared.config.Config.{Config}
use Rattle.flk_field.specs.declared.kind.Kind.{Kind}
use Rattle.flk_field.specs.declared.kind.Kind.TheVariants.{Length}
use Rattle.flk_top.specs.Faults.{configuration_line}

-- the greatest configuration file, in bytes
abbrev pub configuration_limit : ℕ
configuration_limit = 1048576

-- the bytes are a configuration, which is this one, and keep the limit
pub record IsConfiguration (bytes : List ℕ) (c : Config) : Type 0 where
  pub small : length bytes ≤ configuration_limit
  pub writes : IsConfig bytes c

-- The bytes are no configuration, and this is the line of their first fault. The premises of the two rows exclude each
-- other.
pub data IsConfigurationFault (bytes : List ℕ) (line : List ℕ) : Type 0 where
  too_long : configuration_limit < length bytes → line ≡ configuration_line 0 0 (kind_number Length)
      → IsConfigurationFault bytes line
  first_fault : (number field : ℕ) (kind : Kind) → length bytes ≤ configuration_limit
      → IsFirstFault bytes number field kind
      → line ≡ configuration_line number field (kind_number kind) → IsConfigurationFault bytes line
