use Rattle.flk_stat.proofs.SeverityLemmas.{severity_exists, severity_unique}
use Rattle.flk_stat.proofs.laws.severity_is_one.Goals as goal

pub returns-clause-exists : goal.returns-clause-exists
returns-clause-exists c = severity_exists

pub returns-clause-unique : goal.returns-clause-unique
returns-clause-unique c = severity_unique
