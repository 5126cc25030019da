use Rattle.flk_job.proofs.KeyLemmas.{in_sets}
use Rattle.flk_job.proofs.job.read_job.Goals as goal

pub returns-in-Ok-clause-sets : goal.returns-in-Ok-clause-sets
returns-in-Ok-clause-sets c = in_sets c.in-Ok.ensures.members c.in-Ok.job c.in-Ok.ensures.job
