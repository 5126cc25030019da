use Rattle.flk_result.proofs.QuantityLemmas.{own_run}
use Rattle.flk_result.proofs.laws.some_run_is_admitted.Goals as goal

pub returns : goal.returns
returns c = own_run
