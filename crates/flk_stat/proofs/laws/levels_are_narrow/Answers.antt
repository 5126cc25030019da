use Rattle.flk_stat.proofs.WidthLemmas.{levels_spread}
use Rattle.flk_stat.proofs.laws.levels_are_narrow.Goals as goal

pub returns : goal.returns
returns c = λ c ws vs rw high low ends least near. levels_spread c ws vs rw high low ends least near
