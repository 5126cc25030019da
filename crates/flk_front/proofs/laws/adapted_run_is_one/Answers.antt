use Rattle.flk_front.proofs.AdaptorLaws.{IsAdapted-exists, IsAdapted-unique}
use Rattle.flk_front.proofs.laws.adapted_run_is_one.Goals as goal

pub returns-clause-exists : goal.returns-clause-exists
returns-clause-exists c = IsAdapted-exists

pub returns-clause-unique : goal.returns-clause-unique
returns-clause-unique c = IsAdapted-unique
