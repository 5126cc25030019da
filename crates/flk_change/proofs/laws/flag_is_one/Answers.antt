use Rattle.flk_change.proofs.FlagLemmas.{flag_exists, flag_unique}
use Rattle.flk_change.proofs.laws.flag_is_one.Goals as goal

pub returns-clause-exists : goal.returns-clause-exists
returns-clause-exists c = flag_exists

pub returns-clause-unique : goal.returns-clause-unique
returns-clause-unique c = flag_unique
