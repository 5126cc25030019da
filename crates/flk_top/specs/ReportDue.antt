-- What `report` answers: the first fault of the job, of the configuration, of their match, of the lamp or of the data,
-- or the report of the job's channels. The number of workers is no argument of anything here.
use Rattle.std.specs.Prelude.{◌≡◌, ℕ, ◌+◌, ◌<◌, List, [], length, slice_index_or}
use Rattle.std.specs.List.{AllZip}
use Rattle.flk_cfg.specs.declared.config.Analog.{Analog}
use Rattle.flk_cfg.specs.declared.config.Config.{Config}
use Rattle.flk_scale.specs.Channel.{IsChannel}
use Rattle.flk_scale.specs.Voltage.{IsOverRange}
use Rattle.flk_scale.specs.Range.{voltage_at}
use Rattle.flk_scale.specs.declared.fault.MatchFault.{MatchFault}
use Rattle.flk_job.specs.Job.{IsJob, IsFirstFault}
use Rattle.flk_job.specs.Kinds.{kind_number as job_kind_number}
use Rattle.flk_job.specs.Matching.{IsMatch, IsMatchFault}
use Rattle.flk_job.specs.Times.{run_in_samples, interval_samples}
use Rattle.flk_job.specs.declared.job.Job.{Job}
use Rattle.flk_job.specs.declared.kind.Kind.{Kind as JobKind}
use Rattle.flk_dat.specs.Records.{DataRecord, Layout, layout_of, ArePresent}
use Rattle.flk_dat.specs.DataFile.{AreFirst, IsAccepted, IsFaultAfter}
use Rattle.flk_dat.specs.Kinds.{data_kind_number as kind_number}
use Rattle.flk_dat.specs.declared.kind.Kind.{Kind}
use Rattle.flk_section.specs.Filter.{FilterNumbers}
use Rattle.flk_result.specs.Conditions.{Conditions, conditions_for}
use Rattle.flk_result.specs.Promise.{KeepsPromise}
use Rattle.flk_result.specs.Widths.{KeepsWidths}
use Rattle.flk_result.specs.declared.result.PhaseResult.{PhaseResult}
use Rattle.flk_result.specs.declared.result.Setup.{Setup}
use Rattle.flk_report.specs.Report.{interval_count, report_text}
use Rattle.flk_report.specs.Verdict.{overall_of}
use Rattle.flk_report.specs.declared.verdict.Verdict.{Verdict}
use Rattle.flk_report.specs.declared.verdict.Verdict.TheVariants.{Pass, Fail, Undecided}
use Rattle.flk_top.specs.Certified.{IsCertifiedLamp, IsRefusedLamp, lamp_fault_number}
use Rattle.flk_top.specs.Configuration.{IsConfiguration, IsConfigurationFault}
use Rattle.flk_top.specs.Faults.{job_line, match_line, lamp_line, data_line, range_line}
use Rattle.flk_top.specs.Matching.{recorded_voltages}
use Rattle.flk_top.specs.Outcome.{Outcome, refusal}
use Rattle.flk_top.specs.Tables.{bound_of}
use Rattle.flk_top.specs.declared.certified.CertifiedSection.{CertifiedSection}
use Rattle.flk_top.specs.declared.certified.LampFault.{LampFault}

-- ---- what the channels of a job are worked by

-- the run-in and the intervals of a job, in samples, and how many intervals are judged
abbrev pub setup_of : Job → Config → Setup
setup_of j c = record {
  lamp = j.lamp;
  rate = c.rate;
  run_in = run_in_samples j c.rate;
  interval = interval_samples j c.rate;
  count = interval_count j c.rate c.endsamp;
}

-- what the quantities of each channel depend on beside its samples
abbrev pub conditions_in : Job → Config → FilterNumbers → Conditions
conditions_in j c filter = conditions_for (setup_of j c) filter j.supply.nominal_mv j.supply.uncertainty_uv

-- ---- over range

-- in the record of this place, from 0, the voltage of the channel is over range
pub record IsOverAt (j : Job) (c : Config) (rs : List DataRecord) (place channel : ℕ) : Type 0 where
  pub there : place < length rs
  pub analog : Analog
  pub is : IsChannel c channel analog
  pub over : IsOverRange j.supply.nominal_mv (voltage_at (recorded_voltages analog channel rs) place)

-- in none of the records before this place, from 0, is a channel of the job over range
abbrev pub AreWithinRangeBefore : Job → Config → List DataRecord → (place : ℕ) → Type 0
AreWithinRangeBefore j c rs place =
    (i turn none : ℕ) → i < place → turn < length j.channels → ¬ IsOverAt j c rs i (slice_index_or j.channels turn none)

-- no channel of the job is ever over range
abbrev pub AreWithinRange : Job → Config → List DataRecord → Type 0
AreWithinRange j c rs = AreWithinRangeBefore j c rs (length rs)

-- The record of this place is the first in which a channel of the job is over range, and the channel is the first such
-- one, in the job's order.
pub record IsFirstOverOf (j : Job) (c : Config) (rs : List DataRecord) (place channel : ℕ) : Type 0 where
  pub over : IsOverAt j c rs place channel
  pub before : AreWithinRangeBefore j c rs place
  pub turn : ℕ
  pub turn_there : turn < length j.channels
  pub channel_is : (none : ℕ) → slice_index_or j.channels turn none ≡ channel
  pub first : (k none : ℕ) → k < turn → ¬ IsOverAt j c rs place (slice_index_or j.channels k none)

-- ---- the report

-- the result of a channel: it has the digits of the channel's recorded voltages, holds the quantities of every exact
-- run, and is no wider than stated
pub record IsResultOf (j : Job) (c : Config) (filter : FilterNumbers) (rs : List DataRecord)
    (channel : ℕ) (r : PhaseResult) : Type 0 where
  pub analog : Analog
  pub is : IsChannel c channel analog
  pub keeps : KeepsPromise (conditions_in j c filter) (recorded_voltages analog channel rs) r
  pub widths : KeepsWidths (conditions_in j c filter) (recorded_voltages analog channel rs) r

-- one result for each channel, in the job's order
abbrev pub AreResults : Job → Config → FilterNumbers → List DataRecord → List PhaseResult → Type 0
AreResults j c filter rs results = AllZip (IsResultOf j c filter rs) j.channels results

-- the status of the last line's verdict
abbrev pub verdict_status : Verdict → ℕ
verdict_status Pass = 0
verdict_status Fail = 1
verdict_status Undecided = 3

-- the report of these results
abbrev pub reported_outcome : Job → Config → List PhaseResult → Outcome
reported_outcome j c results = record {
  status = verdict_status (overall_of j results);
  text = report_text j c.rate c.endsamp results;
  pieces = [];
}

-- ---- what is due

-- the layout of the data, with the job's channels selected
abbrev pub job_layout : Job → Config → Layout
job_layout j c = layout_of c j.channels

-- What is due for the data of channels that can be measured. The record with the least number is named, and in a record
-- its own form comes before its voltages. The premises of the three rows exclude each other.
pub data IsDueForPhases (j : Job) (c : Config) (filter : FilterNumbers) (bytes : List ℕ) (o : Outcome) : Type 0 where
  data_fault : (rs : List DataRecord) (field : ℕ) (kind : Kind) → IsFaultAfter (job_layout j c) bytes rs field kind
      → AreWithinRange j c rs → o ≡ refusal (data_line (length rs + 1) field (kind_number kind))
      → IsDueForPhases j c filter bytes o
  over_range : (rs : List DataRecord) (place channel : ℕ) → AreFirst (job_layout j c) bytes rs
      → ArePresent (job_layout j c) rs → IsFirstOverOf j c rs place channel
      → o ≡ refusal (range_line (place + 1) channel) → IsDueForPhases j c filter bytes o
  reported : (rs : List DataRecord) (results : List PhaseResult) → IsAccepted (job_layout j c) bytes rs
      → AreWithinRange j c rs → AreResults j c filter rs results → o ≡ reported_outcome j c results
      → IsDueForPhases j c filter bytes o

-- What is due for a job and a configuration that are accepted, and for the bytes of the data. The premises of the three
-- rows exclude each other.
pub data IsDueForJob (j : Job) (c : Config) (bytes : List ℕ) (o : Outcome) : Type 0 where
  no_match : (fault : MatchFault) → IsMatchFault j c fault → o ≡ refusal (match_line fault) → IsDueForJob j c bytes o
  no_filter : (fault : LampFault) → IsMatch j c → IsRefusedLamp j.lamp c.rate fault
      → o ≡ refusal (lamp_line (lamp_fault_number fault)) → IsDueForJob j c bytes o
  certified : (ss : List CertifiedSection) → IsMatch j c → IsCertifiedLamp j.lamp c.rate ss
      → IsDueForPhases j c (bound_of ss) bytes o → IsDueForJob j c bytes o

-- the bytes are no job, and this is the line of their first fault
abbrev pub IsJobFault : List ℕ → (line : List ℕ) → Type 0
IsJobFault bytes line =
    (key : ℕ) × (kind : JobKind) × IsFirstFault bytes key kind × (line ≡ job_line key (job_kind_number kind))

-- What is due for the bytes of a job, of a configuration and of its data. The premises of the three rows exclude each
-- other.
pub data IsDueForReport (job configuration bytes : List ℕ) (o : Outcome) : Type 0 where
  no_job : (line : List ℕ) → IsJobFault job line → o ≡ refusal line → IsDueForReport job configuration bytes o
  no_configuration : (j : Job) (line : List ℕ) → IsJob job j → IsConfigurationFault configuration line
      → o ≡ refusal line → IsDueForReport job configuration bytes o
  read : (j : Job) (c : Config) → IsJob job j → IsConfiguration configuration c → IsDueForJob j c bytes o
      → IsDueForReport job configuration bytes o
