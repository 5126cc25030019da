use Rattle.flk_stat.proofs.LongTermLemmas.{long_term_exists, long_term_unique}
use Rattle.flk_stat.proofs.laws.long_term_is_one.Goals as goal

pub returns-clause-exists : goal.returns-clause-exists
returns-clause-exists c = long_term_exists

pub returns-clause-unique : goal.returns-clause-unique
returns-clause-unique c = long_term_unique
