use Rattle.flk_job.proofs.KeyLemmas.{in_sets}
use Rattle.flk_job.proofs.laws.values_of_a_file_are_in_sets.Goals as goal

pub returns : goal.returns
returns c = λ bytes j is. in_sets is.members j is.job
