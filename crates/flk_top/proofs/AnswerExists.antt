-- Some answer is due: words and files have an outcome.
use Rattle.std.proofs.Common.{◌⊎◌, ℕ, ◌+◌, ◌<◌, ◌≤◌, List, [], ◌∷◌, length, map, refl, arith, inl, inr}
use Rattle.std.proofs.lemmas.Bool.{cases_lt}
use Rattle.flk_num.specs.Rate.{half_at}
use Rattle.flk_num.specs.declared.lamp.Lamp.{Lamp}
use Rattle.flk_num.specs.declared.rate.Rate.{Rate}
use Rattle.flk_num.proofs.RateLemmas.{half_some}
use Rattle.flk_cfg.specs.Kinds.{kind_number}
use Rattle.flk_cfg.specs.declared.config.Analog.{Analog}
use Rattle.flk_cfg.specs.declared.config.Config.{Config}
use Rattle.flk_cfg.proofs.ConfigCases.{config_or_first_fault}
use Rattle.flk_dat.specs.Kinds.{data_kind_number as record_kind}
use Rattle.flk_dat.specs.Records.{record_at, layout_of}
use Rattle.flk_dat.proofs.FileCases.{accepted_or_first_fault}
use Rattle.flk_top.specs.Answer.{IsDueFor, IsDue, usage, asked}
use Rattle.flk_top.specs.Certified.{lamp_fault_number}
use Rattle.flk_top.specs.CheckDue.{IsDueForSummary, file_fault, checked, IsDueForCheck, no_configuration as unread, read}
use Rattle.flk_top.specs.Command.{Asks, inputs_of, outputs_of, gen_configuration_name, gen_data_name, configuration_name, data_name, job_name, report_configuration_name, report_data_name}
use Rattle.flk_top.specs.Configuration.{configuration_limit, IsConfiguration, IsConfigurationFault, too_long, first_fault}
use Rattle.flk_top.specs.Faults.{usage_line, match_line, data_line, range_line, configuration_line, lamp_line}
use Rattle.flk_top.specs.GenDue.{gen_outcome}
use Rattle.flk_top.specs.LevelsDue.{IsDueForRecording, data_fault, over_range, measured, IsDueForLevels, no_configuration, no_match, matched}
use Rattle.flk_top.specs.Matching.{Matches, IsChannelMatchFault, recorded_voltages}
use Rattle.flk_top.specs.Outcome.{Outcome, completed, refusal}
use Rattle.flk_top.specs.Tables.{tables_text, IsDueForTables, certified, refused}
use Rattle.flk_top.specs.Text.{levels_text, check_text}
use Rattle.flk_top.specs.Told.{Files}
use Rattle.flk_top.specs.declared.command.Command.{Command}
use Rattle.flk_top.specs.declared.command.Command.TheVariants.{Levels, Check, Tables, Report, Gen}
use Rattle.flk_top.specs.declared.command.LevelsCommand.{LevelsCommand}
use Rattle.flk_scale.specs.declared.fault.MatchFault.{MatchFault}
use Rattle.flk_scale.specs.declared.fault.MatchFault.TheVariants as faults
use Rattle.flk_top.proofs.LampLemmas.{certified_cases}
use Rattle.flk_scale.proofs.MatchingLemmas.{channel_cases, lamp_cases}
use Rattle.flk_scale.proofs.RangeLemmas.{over_cases}
use Rattle.flk_top.proofs.LevelsExist.{levels_exist}
use Rattle.flk_top.proofs.ReportExists.{report_due}
use Rattle.flk_top.proofs.WordCases.{asked_for}
use Rattle.flk_top.proofs.Outcomes.{HasOutcome}

-- ---- tables

tables_due : (lamp : Lamp) (rate : Rate) → HasOutcome (IsDueForTables lamp rate)
tables_due lamp rate =
    elim (certified_cases lamp rate) [
      | inl is ↦ (completed (tables_text is.0), certified is.0 is.1 refl)
      | inr out ↦ (refusal (lamp_line (lamp_fault_number out.0)), refused out.0 out.1 refl)
    ]

-- ---- the configuration

configuration_cases : (bytes : List ℕ) → ((c : Config) × IsConfiguration bytes c) ⊎ ((text : List ℕ) × IsConfigurationFault bytes text)
configuration_cases bytes =
    elim (cases_lt configuration_limit (length bytes)) [
      | inl long ↦ inr (configuration_line 0 0 8, too_long long refl)
      | inr small ↦ elim (config_or_first_fault bytes) [
        | inl is ↦ inl (is.0, record { small = small; writes = is.1 })
        | inr out ↦ inr (configuration_line out.0 out.1 (kind_number out.2), first_fault out.0 out.1 out.2 small out.3 refl)
      ]
    ]

-- ---- the channel

match_cases : (c : Config) (channel : ℕ) → 1 ≤ channel → ((a : Analog) × (lamp : Lamp) × Matches c channel a lamp) ⊎ ((fault : MatchFault) × IsChannelMatchFault c channel fault)
match_cases c channel from =
    elim (channel_cases c channel from) [
      | inr fails ↦ inr (fails.0, inl fails.1)
      | inl can ↦ elim (lamp_cases c.lf.n) [
        | inl lamp ↦ inl (can.0, lamp.0, record { there = can.1; scale = can.2; frequency = lamp.1 })
        | inr none ↦ inr (faults.Lamp 0 c.lf, inr (can, (refl, none)))
      ]
    ]

-- ---- the data

recording_due : (channel nominal uncertainty : ℕ) (c : Config) (a : Analog) (lamp : Lamp) (bytes : List ℕ) → 0 < nominal
    → HasOutcome (IsDueForRecording channel nominal uncertainty c a lamp bytes)
recording_due channel nominal uncertainty c a lamp bytes some =
    elim (accepted_or_first_fault (layout_of c (channel ∷ [])) bytes) [
      | inl is ↦
          let rs = is.0 in
          elim (over_cases nominal (recorded_voltages a channel rs)) [
            | inl within ↦
                let found = levels_exist (half_at lamp c.rate) nominal uncertainty (recorded_voltages a channel rs) (half_some lamp c.rate) some in
                (completed (levels_text channel found.0), measured rs found.0 is.1 within found.1 refl)
            | inr over ↦ (refusal (range_line (over.0 + 1) channel), over_range rs over.0 is.1.file.first is.1.present over.1 refl)
          ]
      | inr out ↦
          let rs = out.3.0 in
          let fault = out.3.2 in
          elim (over_cases nominal (recorded_voltages a channel rs)) [
            | inl within ↦ (refusal (data_line (length rs + 1) out.1 (record_kind out.2)), data_fault rs out.1 out.2 fault within refl)
            | inr over ↦ (refusal (range_line (over.0 + 1) channel), over_range rs over.0 fault.first fault.present over.1 refl)
          ]
    ]

summary_due : (c : Config) (bytes : List ℕ) → HasOutcome (IsDueForSummary c bytes)
summary_due c bytes =
    elim (accepted_or_first_fault (layout_of c []) bytes) [
      | inl is ↦ (completed (check_text c (record_at is.0 0).number), checked is.0 is.1 refl)
      | inr out ↦ (refusal (data_line (length out.3.0 + 1) out.1 (record_kind out.2)), file_fault out.3.0 out.1 out.2 out.3.2 refl)
    ]

-- ---- the commands

levels_due : (command : LevelsCommand) (bytes rest : List ℕ) → 1 ≤ command.channel → 0 < command.supply.nominal_mv → HasOutcome (IsDueForLevels command bytes rest)
levels_due command bytes rest channel nominal =
    elim (configuration_cases bytes) [
      | inr out ↦ (refusal out.0, no_configuration out.0 out.1 refl)
      | inl is ↦ elim (match_cases is.0 command.channel channel) [
        | inr fails ↦ (refusal (match_line fails.0), no_match is.0 fails.0 is.1 fails.1 refl)
        | inl found ↦
            let due = recording_due command.channel command.supply.nominal_mv command.supply.uncertainty_uv is.0 found.0 found.1 rest nominal in
            (due.0, matched is.0 found.0 found.1 is.1 found.2 due.1)
      ]
    ]

check_due : (bytes rest : List ℕ) → HasOutcome (IsDueForCheck bytes rest)
check_due bytes rest =
    elim (configuration_cases bytes) [
      | inr out ↦ (refusal out.0, unread out.0 out.1 refl)
      | inl is ↦
          let due = summary_due is.0 rest in
          (due.0, read is.0 is.1 due.1)
    ]

command_due : (words : List (List ℕ)) (files : Files) (q : Command) → Asks words q → HasOutcome (IsDueFor q (outputs_of q words) (map files (inputs_of q words)))
command_due words files (Levels command) asks =
    levels_due command (files (configuration_name words)) (files (data_name words)) asks.channel_word.at_least (omega (arith, asks.nominal_word.at_least))
command_due words files Check asks = check_due (files (configuration_name words)) (files (data_name words))
command_due words files (Tables lamp rate) asks = tables_due lamp rate
command_due words files (Report command) asks =
    let conf = files (report_configuration_name words) in
    report_due (files (job_name words)) conf (files (report_data_name words)) (configuration_cases conf)
command_due words files (Gen command) asks = (gen_outcome command (gen_configuration_name words) (gen_data_name words), refl)

pub some_answer : (words : List (List ℕ)) (files : Files) → (o : Outcome) × IsDue words files o
some_answer words files =
    elim (asked_for words) [
      | inr none ↦ (refusal usage_line, usage none refl)
      | inl found ↦
          let due = command_due words files found.0 found.1 in
          (due.0, asked found.0 found.1 due.1)
    ]
