use Rattle.flk_exact.proofs.RootLemmas.{root_up_exists, root_up_unique}
use Rattle.flk_exact.proofs.rounding.root_up_is_one.Goals as goal

pub returns-clause-exists : goal.returns-clause-exists
returns-clause-exists c = root_up_exists

pub returns-clause-unique : goal.returns-clause-unique
returns-clause-unique c = root_up_unique
