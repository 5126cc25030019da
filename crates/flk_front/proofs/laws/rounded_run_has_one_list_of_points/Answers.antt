use Rattle.flk_front.proofs.AdaptorLaws.{ArePoints-exists, ArePoints-unique}
use Rattle.flk_front.proofs.laws.rounded_run_has_one_list_of_points.Goals as goal

pub returns-clause-exists : goal.returns-clause-exists
returns-clause-exists c = ArePoints-exists

pub returns-clause-unique : goal.returns-clause-unique
returns-clause-unique c = ArePoints-unique
