use Rattle.flk_change.proofs.SummaryLemmas.{runs_exist, runs_unique}
use Rattle.flk_change.proofs.laws.quantity_of_resolution_is_one.Goals as goal

pub returns-clause-exists : goal.returns-clause-exists
returns-clause-exists c = runs_exist

pub returns-clause-unique : goal.returns-clause-unique
returns-clause-unique c = runs_unique
