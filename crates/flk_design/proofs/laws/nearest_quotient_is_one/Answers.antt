use Rattle.flk_design.proofs.NearestLemmas.{nearest_exists, nearest_unique}
use Rattle.flk_design.proofs.laws.nearest_quotient_is_one.Goals as goal

pub returns-clause-exists : goal.returns-clause-exists
returns-clause-exists c = nearest_exists

pub returns-clause-unique : goal.returns-clause-unique
returns-clause-unique c = nearest_unique
