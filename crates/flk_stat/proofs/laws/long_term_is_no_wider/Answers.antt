use Rattle.flk_stat.proofs.LongTermLemmas.{long_term_no_wider}
use Rattle.flk_stat.proofs.laws.long_term_is_no_wider.Goals as goal

pub returns : goal.returns
returns c = long_term_no_wider
