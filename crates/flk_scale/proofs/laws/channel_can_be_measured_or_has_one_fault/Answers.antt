use Rattle.flk_scale.proofs.MatchingLemmas.{channel_cases, measured_has_no_fault, one_fault}
use Rattle.flk_scale.proofs.laws.channel_can_be_measured_or_has_one_fault.Goals as goal

pub returns-clause-cases : goal.returns-clause-cases
returns-clause-cases c = λ c channel from. channel_cases c channel from

pub returns-clause-excluded : goal.returns-clause-excluded
returns-clause-excluded c = measured_has_no_fault

pub returns-clause-one : goal.returns-clause-one
returns-clause-one c = one_fault
