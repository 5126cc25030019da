use Rattle.flk_top.proofs.RunLemmas.{inputs_decided}
use Rattle.flk_top.proofs.laws.inputs_decide.Goals as goal

pub returns : goal.returns
returns c = inputs_decided
