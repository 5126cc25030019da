use Rattle.std.proofs.Common.{arith}
use Rattle.flk_top.proofs.PhasesLemmas.{all_take, none_take}
use Rattle.flk_top.proofs.phases.take_block.Goals as goal

pub returns : goal.returns
returns g c =
    all_take c.args.phases.now c.reserve_all.new.phases c.work.new.phases c.args.block.now c.rows-2.result c.in_ok-reserve_all.ensures c.work.ensures.count c.work.ensures.takes

pub returns-then-rows-eq0 : goal.returns-then-rows-eq0
returns-then-rows-eq0 g c = none_take c.args.phases.now c.args.block.now.records (omega (arith, c.if-rows-eq0.true, c.rows.ensures.rows))
