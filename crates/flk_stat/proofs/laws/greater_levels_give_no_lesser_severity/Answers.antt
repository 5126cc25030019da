use Rattle.flk_stat.proofs.SeverityLemmas.{severity_≤}
use Rattle.flk_stat.proofs.LevelLemmas.{severity_of_ends_≤}
use Rattle.flk_stat.proofs.LongTermLemmas.{long_term_≤}
use Rattle.flk_stat.proofs.laws.greater_levels_give_no_lesser_severity.Goals as goal

pub returns-clause-exact : goal.returns-clause-exact
returns-clause-exact c = severity_≤

pub returns-clause-ends : goal.returns-clause-ends
returns-clause-ends c = severity_of_ends_≤

pub returns-clause-long_term : goal.returns-clause-long_term
returns-clause-long_term c = long_term_≤
