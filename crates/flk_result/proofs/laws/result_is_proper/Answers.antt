use Rattle.flk_result.proofs.RangeLemmas.{result_proper}
use Rattle.flk_result.proofs.laws.result_is_proper.Goals as goal

pub returns : goal.returns
returns c = result_proper
