use Rattle.flk_phase.proofs.WorkersLemmas.{rest_ready, both_worked}
use Rattle.flk_phase.proofs.workers.+parts.Goals as goal

pub work_from-work_part_beside_rest-requires-clause-rest : goal.work_from-work_part_beside_rest-requires-clause-rest
work_from-work_part_beside_rest-requires-clause-rest g t c κs within =
    let split = c.split_at_mut-part in
    rest_ready (g.G.Gate.admits c.args.gate.now) c.args.start c.min-count.result c.args.phases.now split.result.0.now split.result.1.now c.args.block.now split.ensures.value split.ensures.front_len c.requires.ready

pub work_from-returns-clause-worked : goal.work_from-returns-clause-worked
work_from-returns-clause-worked g t c =
    let split = c.split_at_mut-part in
    let step = c.work_part_beside_rest in
    both_worked c.args.phases.now split.result.0.now split.result.1.now step.new.part step.new.rest c.args.block.now split.ensures.value step.ensures.part step.ensures.rest
