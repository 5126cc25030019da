use Rattle.flk_half.proofs.IntervalsLemmas.{HasCut-continues, HasCut-ends}
use Rattle.flk_half.proofs.laws.half_periods_go_on.Goals as goal

pub returns-clause-continues : goal.returns-clause-continues
returns-clause-continues c = HasCut-continues

pub returns-clause-ends : goal.returns-clause-ends
returns-clause-ends c = HasCut-ends
