-- What the phases of a report stand for. Contracts of private functions cite this file.
use Rattle.std.specs.Prelude.{◌≡◌, ℕ, ◌+◌, ◌-◌, ◌^◌, ◌<◌, ◌≤◌, List, ◌++◌, length, slice_index_or, ℤ, Option, Some, None}
use Rattle.flk_cfg.specs.declared.config.Analog.{Analog}
use Rattle.flk_cfg.specs.declared.config.Config.{Config}
use Rattle.flk_scale.specs.Channel.{IsChannel}
use Rattle.flk_scale.specs.Range.{IsFirstOver, IsWithinRange}
use Rattle.flk_scale.specs.Scale.{nominal_of, IsScaleOf}
use Rattle.flk_job.specs.declared.job.Job.{Job}
use Rattle.flk_dat.specs.Records.{DataRecord, Rows}
use Rattle.flk_section.specs.Filter.{FilterNumbers}
use Rattle.flk_result.specs.Conditions.{AreEnough}
use Rattle.flk_result.specs.Promise.{KeepsPromise}
use Rattle.flk_result.specs.declared.result.PhaseResult.{PhaseResult}
use Rattle.flk_result.specs.Widths.{KeepsWidths}
use Rattle.flk_phase.specs.Phase.{conditions_of, scale_of, channel_of, over_of, taken_of, spare_of}
use Rattle.flk_phase.specs.Phase.{column_of, told_by, Stands}
use Rattle.flk_phase.specs.Taking.{IsMadeAlike, IsSamePhase}
use Rattle.flk_phase.specs.declared.phase.Phase.{Phase}
use Rattle.flk_top.specs.Blocks.{EndsAs}
use Rattle.flk_top.specs.ReportDue.{conditions_in, AreWithinRange, IsFirstOverOf, job_layout}
use Rattle.flk_top.specs.declared.blocks.Progress.{Progress}

-- ---- one phase

-- the phase is made for this channel of the job, from 1
pub record IsPhaseOf (j : Job) (c : Config) (filter : FilterNumbers) (channel : ℕ) (p : Phase) : Type 0 where
  pub analog : Analog
  pub is : IsChannel c channel analog
  pub scale : IsScaleOf analog j.supply (scale_of p)
  pub channel_is : channel_of p ≡ channel - 1
  pub conditions_are : conditions_of p ≡ conditions_in j c filter

-- the phase stands for the channel's samples of these records, and none of them is over range
pub record HasColumn (p : Phase) (rs : List DataRecord) : Type 0 where
  pub stands : Stands p (column_of (channel_of p) rs)
  pub not_over : over_of p ≡ None
  pub taken : taken_of p ≡ length rs

-- The phase has taken these samples more, where no sample was over range before: up to the first one over range, where
-- there is one.
pub record TakesSamples (old new : Phase) (xs : List ℤ) : Type 0 where
  pub alike : IsMadeAlike old new
  pub within : over_of old ≡ None → IsWithinRange (nominal_of (scale_of old)) (told_by (scale_of old) xs)
      → (over_of new ≡ None) × (taken_of new ≡ taken_of old + length xs)
      × ((h : List ℤ) → Stands old h → Stands new (h ++ xs))
  pub over : over_of old ≡ None → (i : ℕ) → IsFirstOver (nominal_of (scale_of old)) (told_by (scale_of old) xs) i
      → over_of new ≡ Some (taken_of old + i + 1)

-- the phase has room for so many samples, and is else as it was
pub record IsReserved (samples : ℕ) (old new : Phase) : Type 0 where
  pub same : IsSamePhase old new
  pub spare : samples ≤ spare_of new

-- the phase has taken so many samples that they are enough for its result
abbrev pub IsReady : Phase → Type 0
IsReady p = (samples : List ℤ) × Stands p samples × AreEnough (conditions_of p) (length samples)

-- this is what the phase comes to
pub record IsEndOf (p : Phase) (r : PhaseResult) : Type 0 where
  pub keeps : (samples : List ℤ) → Stands p samples
      → KeepsPromise (conditions_of p) (told_by (scale_of p) samples) r
  pub widths : (samples : List ℤ) → Stands p samples
      → KeepsWidths (conditions_of p) (told_by (scale_of p) samples) r

-- ---- all phases

-- one phase for each channel of the job, in its order
pub record ArePhasesOf (j : Job) (c : Config) (filter : FilterNumbers) (phases : List Phase) : Type 0 where
  pub count : length phases ≡ length j.channels
  pub each : (i none : ℕ) (d : Phase) → i < length phases
      → IsPhaseOf j c filter (slice_index_or j.channels i none) (slice_index_or phases i d)

abbrev pub HaveColumns : List Phase → List DataRecord → Type 0
HaveColumns phases rs = (i : ℕ) (d : Phase) → i < length phases → HasColumn (slice_index_or phases i d) rs

-- what is known of the phases of a job once these records came
pub record HaveWorked (j : Job) (c : Config) (filter : FilterNumbers) (phases : List Phase)
    (rs : List DataRecord) : Type 0 where
  pub are_phases : ArePhasesOf j c filter phases
  pub have_columns : HaveColumns phases rs
  pub within : AreWithinRange j c rs

-- each phase has room for so many samples
pub record AreReserved (samples : ℕ) (old new : List Phase) : Type 0 where
  pub count : length new ≡ length old
  pub each : (i : ℕ) (d : Phase) → i < length old → IsReserved samples (slice_index_or old i d) (slice_index_or new i d)

-- each phase has taken its channel's samples of these records more
pub record TakeRecords (old new : List Phase) (more : List DataRecord) : Type 0 where
  pub count : length new ≡ length old
  pub each : (i : ℕ) (d : Phase) → i < length old
      → TakesSamples (slice_index_or old i d) (slice_index_or new i d)
      (column_of (channel_of (slice_index_or old i d)) more)

-- ---- a sample over range

-- none of the first so many phases has a sample over range
abbrev pub NoneIsOver : List Phase → (n : ℕ) → Type 0
NoneIsOver phases n = (i : ℕ) (d : Phase) → i < n → over_of (slice_index_or phases i d) ≡ None

-- Of the first so many phases the one at this turn, from 0, has a sample over range in this record, from 1: none of
-- them has one in a lesser record, and none before it in the same one.
pub record IsFirstPhaseOver (phases : List Phase) (n number turn : ℕ) : Type 0 where
  pub there : turn < n
  pub over : (d : Phase) → over_of (slice_index_or phases turn d) ≡ Some number
  pub least : (i m : ℕ) (d : Phase) → i < n → over_of (slice_index_or phases i d) ≡ Some m → number ≤ m
  pub first : (i m : ℕ) (d : Phase) → i < turn → over_of (slice_index_or phases i d) ≡ Some m → number < m

-- what is known of the first so many phases
abbrev pub IsFirstOverOfPhases : List Phase → (n : ℕ) → Option (ℕ × ℕ) → Type 0
IsFirstOverOfPhases phases n None = NoneIsOver phases n
IsFirstOverOfPhases phases n (Some found) = IsFirstPhaseOver phases n found.0 found.1

-- ---- what a block tells

-- the phases of some job have taken some records, and a block of the recording's data holds more of them
pub record CanWork (phases : List Phase) (b : Rows) : Type 0 where
  pub job : Job
  pub configuration : Config
  pub filter : FilterNumbers
  pub records : List DataRecord
  pub worked : HaveWorked job configuration filter phases records
  pub some : 0 < length job.channels
  pub columns : b.analog ≡ length configuration.analog
  pub few : length records + length b.records < 2 ^ 32

-- In this record, from 1, a channel of the job is over range, and the first such channel has this place in the job,
-- from 0.
pub record IsOverTold (j : Job) (c : Config) (rs : List DataRecord) (number turn : ℕ) : Type 0 where
  pub some : 1 ≤ number
  pub there : turn < length j.channels
  pub first : (none : ℕ) → IsFirstOverOf j c rs (number - 1) (slice_index_or j.channels turn none)

-- What the phases of a job, which have taken some records, come to by those of a block: they take them too, or are told
-- a sample over range.
abbrev pub AreWorked : (old new : List Phase) → (more : List DataRecord) → Option (ℕ × ℕ) → Type 0
AreWorked old new more None =
    (j : Job) (c : Config) (filter : FilterNumbers) (rs : List DataRecord) → HaveWorked j c filter old rs
    → HaveWorked j c filter new (rs ++ more)
AreWorked old new more (Some found) =
    (j : Job) (c : Config) (filter : FilterNumbers) (rs : List DataRecord) → HaveWorked j c filter old rs
    → IsOverTold j c (rs ++ more) found.0 found.1

-- The phases have taken some records of the data of these bytes, and the last block holds the others: all that are
-- accepted, or those before the first fault.
pub record AreLast (p : Progress) (j : Job) (c : Config) (filter : FilterNumbers) (phases : List Phase)
    (more : List DataRecord) (bytes : List ℕ) : Type 0 where
  pub records : List DataRecord
  pub worked : HaveWorked j c filter phases records
  pub ends : EndsAs p (job_layout j c) bytes (records ++ more)
