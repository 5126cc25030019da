use Rattle.flk_report.proofs.OpenLemmas.{some_pass, some_fail}
use Rattle.flk_report.proofs.laws.undecided_leaves_both_open.Goals as goal

pub returns-clause-passes : goal.returns-clause-passes
returns-clause-passes c = some_pass

pub returns-clause-fails : goal.returns-clause-fails
returns-clause-fails c = some_fail
