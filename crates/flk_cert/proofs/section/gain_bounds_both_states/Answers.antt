use Rattle.flk_cert.proofs.GainLemmas.{gain_bounds_first, gain_bounds_second, gain_keeps_second, gain_first_limits, gain_second_limits}
use Rattle.flk_cert.proofs.section.gain_bounds_both_states.Goals as goal

pub returns-clause-first : goal.returns-clause-first
returns-clause-first c = gain_bounds_first

pub returns-clause-second : goal.returns-clause-second
returns-clause-second c = gain_bounds_second

pub returns-clause-one_row : goal.returns-clause-one_row
returns-clause-one_row c = gain_keeps_second

pub returns-clause-first_limits : goal.returns-clause-first_limits
returns-clause-first_limits c = gain_first_limits

pub returns-clause-second_limits : goal.returns-clause-second_limits
returns-clause-second_limits c = gain_second_limits
