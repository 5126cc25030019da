use Rattle.flk_exact.proofs.HalfPeriodLemmas.{values_exist, values_unique}
use Rattle.flk_exact.proofs.half_period.run_has_one_list_of_values.Goals as goal

pub returns-clause-exists : goal.returns-clause-exists
returns-clause-exists c = values_exist

pub returns-clause-unique : goal.returns-clause-unique
returns-clause-unique c = values_unique
