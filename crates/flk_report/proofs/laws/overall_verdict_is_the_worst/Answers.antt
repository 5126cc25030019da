use Rattle.flk_report.specs.Verdict.{all_judged_lines}
use Rattle.flk_report.proofs.VerdictLemmas.{overall_is, overall_unique}
use Rattle.flk_report.proofs.laws.overall_verdict_is_the_worst.Goals as goal

pub returns-clause-exists : goal.returns-clause-exists
returns-clause-exists c = λ j rs. overall_is (all_judged_lines j rs)

pub returns-clause-unique : goal.returns-clause-unique
returns-clause-unique c = λ lines a b h g. overall_unique a b lines h g
