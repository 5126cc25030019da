use Rattle.flk_change.proofs.SummaryLemmas.{summary_exists, summary_unique}
use Rattle.flk_change.proofs.laws.summary_is_one.Goals as goal

pub returns-clause-exists : goal.returns-clause-exists
returns-clause-exists c = summary_exists

pub returns-clause-unique : goal.returns-clause-unique
returns-clause-unique c = summary_unique
