use Rattle.flk_result.proofs.HoldLemmas.{result_keeps}
use Rattle.flk_result.proofs.laws.result_keeps_promise.Goals as goal

pub returns : goal.returns
returns c = result_keeps
