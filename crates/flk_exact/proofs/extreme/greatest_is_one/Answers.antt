use Rattle.flk_exact.proofs.ExtremeLemmas.{greatest_exists, greatest_unique}
use Rattle.flk_exact.proofs.extreme.greatest_is_one.Goals as goal

pub returns-clause-exists : goal.returns-clause-exists
returns-clause-exists c = greatest_exists

pub returns-clause-unique : goal.returns-clause-unique
returns-clause-unique c = greatest_unique
