use Rattle.flk_stat.proofs.RankLemmas.{rank_exists}
use Rattle.flk_stat.proofs.PercentileLemmas.{int_order, fraction_order, rank_unique, rank_fraction_unique}
use Rattle.flk_stat.proofs.laws.rank_is_one.Goals as goal

pub returns-clause-exists : goal.returns-clause-exists
returns-clause-exists c = λ k xs some fits. rank_exists _ int_order k xs some fits

pub returns-clause-unique : goal.returns-clause-unique
returns-clause-unique c = rank_unique

pub returns-clause-fraction_exists : goal.returns-clause-fraction_exists
returns-clause-fraction_exists c = λ k xs some fits. rank_exists _ fraction_order k xs some fits

pub returns-clause-fraction_unique : goal.returns-clause-fraction_unique
returns-clause-fraction_unique c = rank_fraction_unique
