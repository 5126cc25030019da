use Rattle.flk_half.proofs.IntervalsLemmas.{intervals_hold}
use Rattle.flk_half.proofs.laws.half_period_intervals_hold_every_run.Goals as goal

pub returns : goal.returns
returns c = intervals_hold
