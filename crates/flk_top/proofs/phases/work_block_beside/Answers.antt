use Rattle.std.proofs.Common.{rules}
use Rattle.flk_top.specs.Working.{AreReserved}
use Rattle.flk_top.proofs.PhasesLemmas.{all_take, block_worked, can_take}
use Rattle.flk_top.proofs.phases.work_block_beside.Goals as goal

pub work_beside-answer-requires-clause-ready : goal.work_beside-answer-requires-clause-ready
work_beside-answer-requires-clause-ready g c κs within =
    let kept : AreReserved c.rows.result c.args.phases.now c.reserve_all.new.phases = search rules in
    can_take c.args.phases.now c.reserve_all.new.phases c.args.block.now c.rows.result c.requires.ready kept c.rows.ensures.rows

pub returns-clause-worked : goal.returns-clause-worked
returns-clause-worked g c =
    let old = c.args.phases.now in
    let mid = c.reserve_all.new.phases in
    let work = c.work_beside-answer in
    let kept : AreReserved c.rows.result old mid = search rules in
    let takes = all_take old mid work.new.phases c.args.block.now c.rows.result kept work.ensures.count work.ensures.takes in
    block_worked old work.new.phases c.args.block.now.records c.first_over.result takes c.first_over.ensures
