-- What `check` answers: the first fault of the configuration or of the data, or a summary of both.
use Rattle.std.specs.Prelude.{◌≡◌, ℕ, ◌+◌, List, [], length}
use Rattle.flk_cfg.specs.declared.config.Config.{Config}
use Rattle.flk_dat.specs.Records.{DataRecord, record_at, layout_of}
use Rattle.flk_dat.specs.DataFile.{IsAccepted, IsFaultAfter}
use Rattle.flk_dat.specs.Kinds.{data_kind_number as kind_number}
use Rattle.flk_dat.specs.declared.kind.Kind.{Kind}
use Rattle.flk_top.specs.Configuration.{IsConfiguration, IsConfigurationFault}
use Rattle.flk_top.specs.Faults.{data_line}
use Rattle.flk_top.specs.Outcome.{Outcome, completed, refusal}
use Rattle.flk_top.specs.Text.{check_text}

-- What is due for the data of a configuration, of which no channel is selected. The premises of the two rows exclude
-- each other.
pub data IsDueForSummary (c : Config) (bytes : List ℕ) (o : Outcome) : Type 0 where
  file_fault : (rs : List DataRecord) (field : ℕ) (kind : Kind) → IsFaultAfter (layout_of c []) bytes rs field kind
      → o ≡ refusal (data_line (length rs + 1) field (kind_number kind)) → IsDueForSummary c bytes o
  checked : (rs : List DataRecord) → IsAccepted (layout_of c []) bytes rs
      → o ≡ completed (check_text c (record_at rs 0).number) → IsDueForSummary c bytes o

-- What is due for the bytes of a configuration and of its data. The premises of the two rows exclude each other.
pub data IsDueForCheck (configuration bytes : List ℕ) (o : Outcome) : Type 0 where
  no_configuration : (line : List ℕ) → IsConfigurationFault configuration line → o ≡ refusal line
      → IsDueForCheck configuration bytes o
  read : (c : Config) → IsConfiguration configuration c → IsDueForSummary c bytes o
      → IsDueForCheck configuration bytes o
