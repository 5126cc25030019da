use Rattle.flk_result.proofs.QuantityLemmas.{quantities_exist, quantities_unique}
use Rattle.flk_result.proofs.laws.quantities_are_one.Goals as goal

pub returns-clause-exists : goal.returns-clause-exists
returns-clause-exists c = quantities_exist

pub returns-clause-unique : goal.returns-clause-unique
returns-clause-unique c = quantities_unique
