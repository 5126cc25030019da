use Rattle.flk_scale.proofs.MatchingLemmas.{lamp_cases, one_lamp}
use Rattle.flk_scale.proofs.laws.frequency_has_one_lamp_or_none.Goals as goal

pub returns-clause-cases : goal.returns-clause-cases
returns-clause-cases c = lamp_cases

pub returns-clause-one : goal.returns-clause-one
returns-clause-one c = one_lamp
