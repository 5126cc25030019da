-- What `levels` answers: the first fault of the configuration, of its match or of the data, or the levels of the
-- recording.
use Rattle.std.specs.Prelude.{◌≡◌, ℕ, ◌+◌, List, [], ◌∷◌, length}
use Rattle.flk_num.specs.Rate.{half_at}
use Rattle.flk_num.specs.declared.lamp.Lamp.{Lamp}
use Rattle.flk_cfg.specs.declared.config.Analog.{Analog}
use Rattle.flk_cfg.specs.declared.config.Config.{Config}
use Rattle.flk_dat.specs.Records.{DataRecord, layout_of, ArePresent}
use Rattle.flk_dat.specs.DataFile.{AreFirst, IsAccepted, IsFaultAfter}
use Rattle.flk_dat.specs.Kinds.{data_kind_number as kind_number}
use Rattle.flk_dat.specs.declared.kind.Kind.{Kind}
use Rattle.flk_top.specs.Configuration.{IsConfiguration, IsConfigurationFault}
use Rattle.flk_top.specs.Faults.{match_line, data_line, range_line}
use Rattle.flk_scale.specs.Range.{IsFirstOver, IsWithinRange}
use Rattle.flk_top.specs.Levels.{AreHalfPeriodLevels}
use Rattle.flk_top.specs.Matching.{Matches, IsChannelMatchFault, recorded_voltages}
use Rattle.flk_top.specs.Outcome.{Outcome, completed, refusal}
use Rattle.flk_top.specs.Text.{levels_text}
use Rattle.flk_top.specs.declared.command.LevelsCommand.{LevelsCommand}
use Rattle.flk_scale.specs.declared.fault.MatchFault.{MatchFault}
use Rattle.flk_top.specs.declared.measure.Levels.{Levels}

-- What is due for the data of a channel that can be measured. The record with the least number is named, and in a
-- record its own form comes before its voltage. The premises of the three rows exclude each other. (nominal in
-- millivolts, uncertainty in microvolts)
pub data IsDueForRecording (channel nominal uncertainty : ℕ) (c : Config) (a : Analog) (lamp : Lamp)
    (bytes : List ℕ) (o : Outcome) : Type 0 where
  data_fault : (rs : List DataRecord) (field : ℕ) (kind : Kind)
      → IsFaultAfter (layout_of c (channel ∷ [])) bytes rs field kind
      → IsWithinRange nominal (recorded_voltages a channel rs)
      → o ≡ refusal (data_line (length rs + 1) field (kind_number kind))
      → IsDueForRecording channel nominal uncertainty c a lamp bytes o
  over_range : (rs : List DataRecord) (i : ℕ) → AreFirst (layout_of c (channel ∷ [])) bytes rs
      → ArePresent (layout_of c (channel ∷ [])) rs → IsFirstOver nominal (recorded_voltages a channel rs) i
      → o ≡ refusal (range_line (i + 1) channel)
      → IsDueForRecording channel nominal uncertainty c a lamp bytes o
  measured : (rs : List DataRecord) (levels : Levels) → IsAccepted (layout_of c (channel ∷ [])) bytes rs
      → IsWithinRange nominal (recorded_voltages a channel rs)
      → AreHalfPeriodLevels (half_at lamp c.rate) nominal uncertainty (recorded_voltages a channel rs) levels
      → o ≡ completed (levels_text channel levels)
      → IsDueForRecording channel nominal uncertainty c a lamp bytes o

-- What is due for the bytes of a configuration and of its data. The premises of the three rows exclude each other.
pub data IsDueForLevels (command : LevelsCommand) (configuration bytes : List ℕ) (o : Outcome) : Type 0 where
  no_configuration : (line : List ℕ) → IsConfigurationFault configuration line → o ≡ refusal line
      → IsDueForLevels command configuration bytes o
  no_match : (c : Config) (fault : MatchFault) → IsConfiguration configuration c
      → IsChannelMatchFault c command.channel fault → o ≡ refusal (match_line fault)
      → IsDueForLevels command configuration bytes o
  matched : (c : Config) (a : Analog) (lamp : Lamp) → IsConfiguration configuration c → Matches c command.channel a lamp
      → IsDueForRecording command.channel command.supply.nominal_mv command.supply.uncertainty_uv c a lamp bytes o
      → IsDueForLevels command configuration bytes o
