use Rattle.flk_stat.proofs.PercentileLemmas.{rank_order}
use Rattle.flk_stat.proofs.laws.ranks_keep_the_order.Goals as goal

pub returns : goal.returns
returns c = rank_order
