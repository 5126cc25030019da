use Rattle.flk_result.proofs.CoverLemmas.{own_run_exists, own_run_admitted}
use Rattle.flk_result.proofs.laws.own_run_is_admitted.Goals as goal

pub returns-clause-exists : goal.returns-clause-exists
returns-clause-exists c = own_run_exists

pub returns-clause-admitted : goal.returns-clause-admitted
returns-clause-admitted c = own_run_admitted
