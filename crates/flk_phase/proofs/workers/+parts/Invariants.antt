use Rattle.std.proofs.Common.{◌+◌, ◌*◌, length}
use Rattle.flk_phase.proofs.workers.+parts.Given as goal

abbrev pub decreases-work_from : goal.decreases-work_from
decreases-work_from g l = 3 * length l.phases.now

abbrev pub decreases-work_part_beside_rest : goal.decreases-work_part_beside_rest
decreases-work_part_beside_rest g l = 3 * length l.rest.now + 2

abbrev pub decreases-work_part_beside_rest-others : goal.decreases-work_part_beside_rest-others
decreases-work_part_beside_rest-others g l = 3 * length l.rest.now + 1
