use Rattle.flk_top.proofs.LevelsOnce.{some_run}
use Rattle.flk_top.proofs.laws.promise_is_not_empty.Goals as goal

pub returns : goal.returns
returns c = some_run
