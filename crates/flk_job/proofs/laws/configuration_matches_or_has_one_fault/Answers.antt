use Rattle.flk_job.proofs.MatchLemmas.{match_cases, match_has_no_fault, one_match_fault}
use Rattle.flk_job.proofs.laws.configuration_matches_or_has_one_fault.Goals as goal

pub returns-clause-cases : goal.returns-clause-cases
returns-clause-cases c = match_cases

pub returns-clause-excluded : goal.returns-clause-excluded
returns-clause-excluded c = match_has_no_fault

pub returns-clause-one : goal.returns-clause-one
returns-clause-one c = one_match_fault
