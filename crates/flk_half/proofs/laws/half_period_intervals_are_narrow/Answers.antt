use Rattle.flk_half.proofs.IntervalsLemmas.{intervals_narrow}
use Rattle.flk_half.proofs.laws.half_period_intervals_are_narrow.Goals as goal

pub returns : goal.returns
returns c = intervals_narrow
