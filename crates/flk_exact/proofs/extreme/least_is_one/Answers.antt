use Rattle.flk_exact.proofs.ExtremeLemmas.{least_exists, least_unique}
use Rattle.flk_exact.proofs.extreme.least_is_one.Goals as goal

pub returns-clause-exists : goal.returns-clause-exists
returns-clause-exists c = least_exists

pub returns-clause-unique : goal.returns-clause-unique
returns-clause-unique c = least_unique
