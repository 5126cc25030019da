use Rattle.flk_report.proofs.VerdictLemmas.{verdict_is, verdict_unique}
use Rattle.flk_report.proofs.laws.interval_has_one_verdict.Goals as goal

pub returns-clause-exists : goal.returns-clause-exists
returns-clause-exists c = verdict_is

pub returns-clause-unique : goal.returns-clause-unique
returns-clause-unique c = λ v limit a b h g. verdict_unique a b v limit h g
