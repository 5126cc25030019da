use Rattle.flk_exact.proofs.HalfPeriodLemmas.{value_exists, value_unique, value_natural}
use Rattle.flk_exact.proofs.half_period.half_period_has_one_value.Goals as goal

pub returns-clause-exists : goal.returns-clause-exists
returns-clause-exists c = value_exists

pub returns-clause-unique : goal.returns-clause-unique
returns-clause-unique c = value_unique

pub returns-clause-natural : goal.returns-clause-natural
returns-clause-natural c = value_natural
