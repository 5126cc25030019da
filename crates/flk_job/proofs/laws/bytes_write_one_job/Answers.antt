use Rattle.flk_job.proofs.JobLaws.{one_job}
use Rattle.flk_job.proofs.laws.bytes_write_one_job.Goals as goal

pub returns : goal.returns
returns c = one_job
