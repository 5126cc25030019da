use Rattle.flk_front.proofs.RunLemmas.{points_enclose}
use Rattle.flk_front.proofs.laws.points_hold_outputs.Goals as goal

pub returns : goal.returns
returns c = points_enclose
