-- The promise on files that are accepted, in its own words.
use Rattle.std.specs.Prelude.{◌≡◌, ◌↔◌, ◌*◌, ℕ, List, [], ◌∷◌, Contains, ℤ, ◌<ℤ◌, ◌≤ℤ◌}
use Rattle.std.specs.List.{AllZip}
use Rattle.flk_exact.specs.Fraction.{Fraction}
use Rattle.flk_exact.specs.Rounding.{IsBetween}
use Rattle.flk_exact.specs.Run.{IsAdmittedRun}
use Rattle.flk_num.specs.Rate.{half_at}
use Rattle.flk_num.specs.declared.lamp.Lamp.{Lamp}
use Rattle.flk_cfg.specs.declared.config.Analog.{Analog}
use Rattle.flk_cfg.specs.declared.config.Config.{Config}
use Rattle.flk_dat.specs.Records.{DataRecord, layout_of}
use Rattle.flk_dat.specs.DataFile.{IsAccepted}
use Rattle.flk_job.specs.Job.{IsJob}
use Rattle.flk_job.specs.Matching.{IsMatch}
use Rattle.flk_job.specs.declared.job.Job.{Job}
use Rattle.flk_result.specs.PhaseResult.{AreHeld}
use Rattle.flk_result.specs.RunQuantities.{RunQuantities, AreQuantities}
use Rattle.flk_result.specs.declared.result.PhaseResult.{PhaseResult}
use Rattle.flk_report.specs.Limits.{JudgedLine}
use Rattle.flk_report.specs.Report.{report_text}
use Rattle.flk_report.specs.Verdict.{line_verdict, all_judged_lines, overall_of, IsVerdictOn, IsOverall, IsOverallVerdictOn}
use Rattle.flk_report.specs.declared.verdict.Verdict.TheVariants.{Pass, Fail, Undecided}
use Rattle.flk_top.specs.Certified.{IsCertifiedLamp}
use Rattle.flk_top.specs.Command.{Asks, configuration_name, data_name, job_name, report_configuration_name, report_data_name}
use Rattle.flk_top.specs.Configuration.{IsConfiguration}
use Rattle.flk_scale.specs.Channel.{IsChannel}
use Rattle.flk_scale.specs.Range.{IsWithinRange}
use Rattle.flk_top.specs.Levels.{AreHalfPeriodLevels}
use Rattle.flk_top.specs.Matching.{Matches, recorded_voltages}
use Rattle.flk_top.specs.ReportDue.{conditions_in, job_layout, AreWithinRange, AreResults, verdict_status}
use Rattle.flk_top.specs.Tables.{bound_of}
use Rattle.flk_top.specs.Text.{levels_text}
use Rattle.flk_top.specs.Told.{Files}
use Rattle.flk_top.specs.declared.certified.CertifiedSection.{CertifiedSection}
use Rattle.flk_top.specs.declared.command.LevelsCommand.{LevelsCommand}
use Rattle.flk_top.specs.declared.command.ReportCommand.{ReportCommand}
use Rattle.flk_top.specs.declared.command.Command.TheVariants.{Levels as LevelsAsked, Report as ReportAsked}
use Rattle.flk_top.specs.declared.measure.Levels.{Levels}

-- ---- levels

-- one voltage channel of a recording, and what `levels` is asked of it
pub record MeasuredRecording : Type 0 where
  pub command : LevelsCommand
  pub configuration : Config
  pub analog : Analog
  pub lamp : Lamp
  pub records : List DataRecord

-- The words ask for the levels of files that are accepted: a configuration in which the channel can be measured, and
-- its data, of these records, with no voltage over range.
pub record AreAccepted (words : List (List ℕ)) (files : Files) (m : MeasuredRecording) : Type 0 where
  pub asks : Asks words (LevelsAsked m.command)
  pub configuration : IsConfiguration (files (configuration_name words)) m.configuration
  pub matches : Matches m.configuration m.command.channel m.analog m.lamp
  pub data_file : IsAccepted (layout_of m.configuration (m.command.channel ∷ [])) (files (data_name words)) m.records
  pub within : IsWithinRange m.command.supply.nominal_mv (recorded_voltages m.analog m.command.channel m.records)

-- The status is 0, and the text tells levels of the recorded voltages: intervals that hold the least and the greatest
-- half-period value of every exact run whose voltages lie within the uncertainty of the recorded ones, and keep the
-- stated width.
pub record TellsLevels (m : MeasuredRecording) (status : ℕ) (text : List ℕ) : Type 0 where
  pub levels : Levels
  pub are_levels : AreHalfPeriodLevels (half_at m.lamp m.configuration.rate)
      m.command.supply.nominal_mv m.command.supply.uncertainty_uv
      (recorded_voltages m.analog m.command.channel m.records) levels
  pub status_is : status ≡ 0
  pub text_is : text ≡ levels_text m.command.channel levels

-- ---- report

-- a recording, what is asked of it, and the certified sections of the lamp's filter
pub record ReportedRecording : Type 0 where
  pub command : ReportCommand
  pub job : Job
  pub configuration : Config
  pub sections : List CertifiedSection
  pub records : List DataRecord

-- The words ask for the report of files that are accepted: a job; a configuration which has what the job asks for, with
-- a sampling rate at which the job's lamp is certified; and its data, of these records, with no voltage of the job's
-- channels over range.
pub record AreAcceptedForReport (words : List (List ℕ)) (files : Files) (m : ReportedRecording) : Type 0 where
  pub asks : Asks words (ReportAsked m.command)
  pub job_file : IsJob (files (job_name words)) m.job
  pub configuration : IsConfiguration (files (report_configuration_name words)) m.configuration
  pub matches : IsMatch m.job m.configuration
  pub certified : IsCertifiedLamp m.job.lamp m.configuration.rate m.sections
  pub data_file : IsAccepted (job_layout m.job m.configuration) (files (report_data_name words)) m.records
  pub within : AreWithinRange m.job m.configuration m.records

-- These are the quantities of an exact run of the channel, whose voltages lie within the uncertainty of the recorded
-- ones.
pub record AreOfRun (m : ReportedRecording) (channel : ℕ) (q : RunQuantities) : Type 0 where
  pub analog : Analog
  pub is : IsChannel m.configuration channel analog
  pub run : List Fraction
  pub admitted : IsAdmittedRun (1000 * m.job.supply.nominal_mv) m.job.supply.uncertainty_uv
      (recorded_voltages analog channel m.records) run
  pub quantities : AreQuantities (conditions_in m.job m.configuration (bound_of m.sections))
      (recorded_voltages analog channel m.records) run q

-- the quantities of one exact run of each channel, in the job's order
abbrev pub AreOfRuns : ReportedRecording → List RunQuantities → Type 0
AreOfRuns m qs = AllZip (AreOfRun m) m.job.channels qs

-- What a judged line says: pass and fail of every number that its interval holds, and undecided exactly where the limit
-- parts the interval.
pub record TellsVerdict (l : JudgedLine) : Type 0 where
  pub every : (z : ℤ) → IsBetween l.interval.lo l.interval.hi z → IsVerdictOn (line_verdict l) l.limit z
  pub pass : (line_verdict l ≡ Pass) ↔ (l.interval.hi ≤ℤ l.limit)
  pub fail : (line_verdict l ≡ Fail) ↔ (l.limit <ℤ l.interval.lo)
  pub undecided : (line_verdict l ≡ Undecided) ↔ ((l.interval.lo ≤ℤ l.limit) × (l.limit <ℤ l.interval.hi))

-- The text is the report of one result for each channel, with the digits and the widths of `are_results`. Its intervals
-- hold the quantities of every exact run of all channels, each line's verdict is that on every such run, and so is that
-- of the last line, where it is pass or fail. The status is that of the last line.
pub record TellsReport (m : ReportedRecording) (status : ℕ) (text : List ℕ) : Type 0 where
  pub results : List PhaseResult
  pub are_results : AreResults m.job m.configuration (bound_of m.sections) m.records results
  pub holds : (qs : List RunQuantities) → AreOfRuns m qs → AllZip AreHeld results qs
  pub lines : (l : JudgedLine) → Contains (all_judged_lines m.job results) l → TellsVerdict l
  pub every : (qs : List RunQuantities) → AreOfRuns m qs → IsOverallVerdictOn (overall_of m.job results) m.job qs
  pub overall : IsOverall (overall_of m.job results) (all_judged_lines m.job results)
  pub status_is : status ≡ verdict_status (overall_of m.job results)
  pub text_is : text ≡ report_text m.job m.configuration.rate m.configuration.endsamp results
