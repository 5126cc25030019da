use Rattle.flk_exact.proofs.RootLemmas.{root_exists, root_unique}
use Rattle.flk_exact.proofs.rounding.root_is_one.Goals as goal

pub returns-clause-exists : goal.returns-clause-exists
returns-clause-exists c = root_exists

pub returns-clause-unique : goal.returns-clause-unique
returns-clause-unique c = root_unique
