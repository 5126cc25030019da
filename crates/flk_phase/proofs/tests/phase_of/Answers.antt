use Rattle.std.proofs.Common.{[]}
use Rattle.flk_phase.proofs.tests.phase_of.Goals as goal

pub returns-clause-stands : goal.returns-clause-stands
returns-clause-stands c = c.reserve.ensures.same.stands [] c.in_ok-phase.ensures.stands
