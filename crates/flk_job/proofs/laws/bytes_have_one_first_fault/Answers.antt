use Rattle.flk_job.proofs.JobLaws.{one_first_fault}
use Rattle.flk_job.proofs.laws.bytes_have_one_first_fault.Goals as goal

pub returns : goal.returns
returns c = one_first_fault
