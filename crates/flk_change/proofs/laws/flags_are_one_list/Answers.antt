use Rattle.flk_change.proofs.FlagsLemmas.{flags_exist, flags_unique}
use Rattle.flk_change.proofs.laws.flags_are_one_list.Goals as goal

pub returns-clause-exists : goal.returns-clause-exists
returns-clause-exists c = flags_exist

pub returns-clause-unique : goal.returns-clause-unique
returns-clause-unique c = flags_unique
