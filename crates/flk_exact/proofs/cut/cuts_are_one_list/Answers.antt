use Rattle.flk_exact.proofs.CutLemmas.{cuts_exist, cuts_unique}
use Rattle.flk_exact.proofs.cut.cuts_are_one_list.Goals as goal

pub returns-clause-exists : goal.returns-clause-exists
returns-clause-exists c = cuts_exist

pub returns-clause-unique : goal.returns-clause-unique
returns-clause-unique c = cuts_unique
