-- The times of a job in samples.
use Rattle.std.specs.Prelude.{ℕ}
use Rattle.flk_num.specs.Rate.{samples_in}
use Rattle.flk_num.specs.declared.rate.Rate.{Rate}
use Rattle.flk_job.specs.declared.job.Job.{Job}

-- the samples of the run-in, which come before the first interval
abbrev pub run_in_samples : Job → Rate → ℕ
run_in_samples j rate = samples_in rate j.run_in_s

-- the samples of an interval
abbrev pub interval_samples : Job → Rate → ℕ
interval_samples j rate = samples_in rate j.interval_s
