use Rattle.std.proofs.Common.{arith}
use Rattle.flk_phase.proofs.WorkersLemmas.{done_next, rest_next}
use Rattle.flk_phase.proofs.workers.work_part.Goals as goal

pub loop-i-preserved : goal.loop-i-preserved
loop-i-preserved g c =
    let old = c.args.part.now in
    let part = c.loop-i.part in
    let i = c.loop-i.i in
    let before = c.loop-i.invariant in
    record {
      done = done_next old part i c.index-part-i.result c.take.new.self c.args.block.now (omega (arith, c.loop-i-test.true, c.loop-i.auto.part)) before.rest before.done c.take.ensures;
      rest = rest_next old part i c.take.new.self before.rest;
    }
