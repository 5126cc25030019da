use Rattle.flk_job.proofs.JobCases.{job_cases}
use Rattle.flk_job.proofs.laws.bytes_are_a_job_or_have_a_fault.Goals as goal

pub returns : goal.returns
returns c = job_cases
