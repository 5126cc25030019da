use Rattle.flk_change.proofs.FlagLemmas.{close_by_ends, apart_by_ends}
use Rattle.flk_change.proofs.laws.certainty_is_by_ends.Goals as goal

pub returns-clause-close : goal.returns-clause-close
returns-clause-close c = close_by_ends

pub returns-clause-apart : goal.returns-clause-apart
returns-clause-apart c = apart_by_ends
