use Rattle.std.proofs.Common.{rules, ◌≡◌, to_z, of_z, arith, ap}
use Rattle.std.specs.Int.{w32}
use Rattle.flk_top.specs.declared.measure.Measure.{Measure}
use Rattle.flk_top.proofs.MeasureLemmas.{measured_record, over_record, measured_block, still_same}
use Rattle.flk_top.proofs.measure.Measure.take.Goals as goal

pub analog-requires-clause-channel : goal.analog-requires-clause-channel
analog-requires-clause-channel c = omega (arith, c.requires.channel, c.loop-row.invariant.same.channel)

pub returns-in_default-clause-over : goal.returns-in_default-clause-over
returns-in_default-clause-over c = λ recorded h.
    let m = c.args.self.now in
    let same : to_z w32 (of_z w32 c.analog.result) ≡ c.analog.result = search rules in
    let over = rw same at c.in_default.ensures.over in
    over_record m c.loop-row.self recorded c.args.block.now.records c.loop-row.row c.sample.new.self.taken c.analog.result c.loop-row.invariant.same (c.loop-row.invariant.measured recorded h)
    (omega (arith, c.loop-row-test.true, c.rows-row-end.ensures.rows)) c.analog.ensures over (ap (λ (n : Measure). n.taken) c.in_default.ensures.unchanged)

pub loop-row-preserved : goal.loop-row-preserved
loop-row-preserved c =
    let m = c.args.self.now in
    let same : to_z w32 (of_z w32 c.analog.result) ≡ c.analog.result = search rules in
    record {
      same = still_same m c.loop-row.self c.sample.new.self c.loop-row.invariant.same c.sample.ensures.same;
      taken = omega (arith, c.in-Ok.ensures.taken, c.loop-row.invariant.taken);
      measured = λ recorded h.
          measured_record m c.loop-row.self c.sample.new.self recorded c.args.block.now.records c.loop-row.row c.analog.result c.loop-row.invariant.same (omega (arith, c.loop-row-test.true, c.rows-row-end.ensures.rows)) c.analog.ensures
          (rw same at (c.in-Ok.ensures.measured _ (c.loop-row.invariant.measured recorded h)));
    }

pub returns-clause-measured : goal.returns-clause-measured
returns-clause-measured c = λ recorded h.
    measured_block c.args.self.now c.loop-row.self recorded c.args.block.now.records c.loop-row.row (omega (arith, c.loop-row-test.false, c.rows-row-end.ensures.rows, c.loop-row.auto.row-end))
    (c.loop-row.invariant.measured recorded h)
