use Rattle.flk_front.proofs.RunLemmas.{points_are_narrow}
use Rattle.flk_front.proofs.laws.points_are_narrow.Goals as goal

pub returns : goal.returns
returns c = points_are_narrow
