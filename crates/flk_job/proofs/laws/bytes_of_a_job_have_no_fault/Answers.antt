use Rattle.flk_job.proofs.JobLaws.{job_has_no_fault}
use Rattle.flk_job.proofs.laws.bytes_of_a_job_have_no_fault.Goals as goal

pub returns : goal.returns
returns c = λ bytes j number kind a b. job_has_no_fault bytes j number kind a b
