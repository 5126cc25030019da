-- What a job asks of a configuration, and the first of it that a configuration doesn't have. The tests of one channel
-- and of the line frequency are those of flk_scale.
use Rattle.std.specs.Prelude.{◌≡◌, ℕ, ◌+◌, ◌<◌, ◌≤◌, List, length, slice_index_or}
use Rattle.flk_num.specs.Lamp.{hertz_of}
use Rattle.flk_num.specs.Rate.{most_records}
use Rattle.flk_num.specs.declared.rate.Rate.{Rate}
use Rattle.flk_cfg.specs.declared.config.Config.{Config}
use Rattle.flk_scale.specs.Channel.{IsFrequencyOf}
use Rattle.flk_scale.specs.Matching.{CanBeMeasured, IsChannelFault}
use Rattle.flk_scale.specs.declared.fault.MatchFault.{MatchFault}
use Rattle.flk_scale.specs.declared.fault.MatchFault.TheVariants as faults
use Rattle.flk_job.specs.Times.{run_in_samples, interval_samples}
use Rattle.flk_job.specs.declared.job.Job.{Job}

abbrev pub AllCanBeMeasured : Config → List ℕ → Type 0
AllCanBeMeasured c channels = (i none : ℕ) → i < length channels → CanBeMeasured c (slice_index_or channels i none)

-- one of the channels has this fault, and those before it can be measured
pub record IsFirstChannelFault (c : Config) (channels : List ℕ) (f : MatchFault) : Type 0 where
  pub place : ℕ
  pub within : place < length channels
  pub before : (i none : ℕ) → i < place → CanBeMeasured c (slice_index_or channels i none)
  pub here : (none : ℕ) → IsChannelFault c (slice_index_or channels place none) f

-- the records of the run-in and of one interval
abbrev pub records_needed : Job → Rate → ℕ
records_needed j rate = run_in_samples j rate + interval_samples j rate

-- the configuration has what the job asks for
pub record IsMatch (j : Job) (c : Config) : Type 0 where
  pub channels : AllCanBeMeasured c j.channels
  pub frequency : IsFrequencyOf j.lamp c.lf.n
  pub long : records_needed j c.rate ≤ c.endsamp
  pub short : c.endsamp ≤ most_records c.rate

-- the first test that fails: those of the channels, in the job's order, and then the lamp, too few and too many records
abbrev pub IsMatchFault : Job → Config → MatchFault → Type 0
IsMatchFault j c (faults.Lamp hertz lf) =
    AllCanBeMeasured c j.channels × (¬ IsFrequencyOf j.lamp c.lf.n) × (hertz ≡ hertz_of j.lamp) × (lf ≡ c.lf)
IsMatchFault j c (faults.TooShort needed there) =
    AllCanBeMeasured c j.channels × IsFrequencyOf j.lamp c.lf.n
    × (c.endsamp < records_needed j c.rate) × (needed ≡ records_needed j c.rate) × (there ≡ c.endsamp)
IsMatchFault j c (faults.TooLong limit there) =
    AllCanBeMeasured c j.channels × IsFrequencyOf j.lamp c.lf.n × (records_needed j c.rate ≤ c.endsamp)
    × (most_records c.rate < c.endsamp) × (limit ≡ most_records c.rate) × (there ≡ c.endsamp)
IsMatchFault j c f = IsFirstChannelFault c j.channels f
