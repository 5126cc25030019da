use Rattle.flk_half.proofs.IntervalsLemmas.{intervals_in_range}
use Rattle.flk_half.proofs.laws.half_period_intervals_are_in_range.Goals as goal

pub returns : goal.returns
returns c = intervals_in_range
