use Rattle.flk_result.proofs.ExistLemmas.{result_exists}
use Rattle.flk_result.proofs.SameLemmas.{result_unique}
use Rattle.flk_result.proofs.laws.result_is_one.Goals as goal

pub returns-clause-exists : goal.returns-clause-exists
returns-clause-exists c = result_exists

pub returns-clause-unique : goal.returns-clause-unique
returns-clause-unique c = result_unique
