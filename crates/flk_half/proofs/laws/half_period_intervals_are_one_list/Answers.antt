use Rattle.flk_half.proofs.IntervalsLemmas.{intervals_exist, intervals_unique}
use Rattle.flk_half.proofs.laws.half_period_intervals_are_one_list.Goals as goal

pub returns-clause-exists : goal.returns-clause-exists
returns-clause-exists c = intervals_exist

pub returns-clause-unique : goal.returns-clause-unique
returns-clause-unique c = intervals_unique
