use Rattle.flk_scale.proofs.RangeLemmas.{over_cases, within_has_no_over, one_over}
use Rattle.flk_scale.proofs.laws.recorded_voltages_are_within_range_or_have_a_first_over.Goals as goal

pub returns-clause-cases : goal.returns-clause-cases
returns-clause-cases c = over_cases

pub returns-clause-excluded : goal.returns-clause-excluded
returns-clause-excluded c = within_has_no_over

pub returns-clause-one : goal.returns-clause-one
returns-clause-one c = one_over
