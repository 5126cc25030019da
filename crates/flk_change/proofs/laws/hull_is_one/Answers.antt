use Rattle.flk_change.proofs.HullLemmas.{hull_exists}
use Rattle.flk_change.proofs.SummaryLemmas.{hull_unique}
use Rattle.flk_change.proofs.laws.hull_is_one.Goals as goal

pub returns-clause-exists : goal.returns-clause-exists
returns-clause-exists c = hull_exists

pub returns-clause-unique : goal.returns-clause-unique
returns-clause-unique c = hull_unique
