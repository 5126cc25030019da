use Rattle.std.proofs.Common.{◌+◌, ◌-◌, refl, ◌∙◌, arith}
use Rattle.flk_num.proofs.StopLemmas.{err_exit}
use Rattle.flk_dat.specs.Takings.{TakesSome, Stops}
use Rattle.flk_dat.specs.declared.kind.Fault.{Fault}
use Rattle.flk_dat.proofs.RunLemmas.{next_is, run_then, run_stops, run_some}
use Rattle.flk_dat.proofs.reader.Reader.take_whole.Goals as goal

pub returns-in_err-number-clause-taken : goal.returns-in_err-number-clause-taken
returns-in_err-number-clause-taken c =
    let old = c.args.self.now in
    let s = c.loop-number.self in
    let a = c.args.out.now in
    let b = c.loop-number.out in
    let piece = c.args.piece.now in
    let at = c.loop-number.at in
    let so = c.loop-number.invariant in
    let f = c.in_err-number.field-0.0 in
    let is = next_is old s piece at (at + old.channels.size - at) so.taking.keeps.layout_same c.requires.form so.rest so.due so.whole (omega arith) in
    err_exit c.from_residual.result (λ n. TakesSome old _ a c.read.new.self piece n) (λ (x : Fault). Stops old _ a c.read.new.self piece x) f c.from_residual.ensures.1
    (run_stops old s _ a b c.read.new.self piece _ at f (record { layout_same = refl; fault = refl; given = refl; rest = refl }) so.taking is c.in_err-number.ensures.0 c.in_err-number.ensures.1)

pub returns-then-piece-at-clause-taken : goal.returns-then-piece-at-clause-taken
returns-then-piece-at-clause-taken c =
    let old = c.args.self.now in
    let s = c.loop-number.self in
    let piece = c.args.piece.now in
    let at = c.loop-number.at in
    let so = c.loop-number.invariant in
    let is = next_is old s piece at (at + old.channels.size - at) so.taking.keeps.layout_same c.requires.form so.rest so.due so.whole (omega arith) in
    run_some old c.count.new.self c.args.out.now c.read.new.self piece at
    (run_then old s _ c.count.new.self c.args.out.now c.loop-number.out c.read.new.self piece _ at c.in_ok-number.number c.new.result (record { layout_same = refl; fault = refl; given = refl; rest = refl }) so.taking so.room is c.in_ok-number.ensures c.count.ensures c.new.ensures)

pub loop-number-preserved : goal.loop-number-preserved
loop-number-preserved c =
    let old = c.args.self.now in
    let s = c.loop-number.self in
    let piece = c.args.piece.now in
    let at = c.loop-number.at in
    let so = c.loop-number.invariant in
    let is = next_is old s piece at (at + old.channels.size - at) so.taking.keeps.layout_same c.requires.form so.rest so.due so.whole (omega arith) in
    let taking = run_then old s _ c.count.new.self c.args.out.now c.loop-number.out c.read.new.self piece _ at c.in_ok-number.number c.new.result (record { layout_same = refl; fault = refl; given = refl; rest = refl }) so.taking so.room is c.in_ok-number.ensures c.count.ensures c.new.ensures in
    record {
      taking = taking;
      rest = c.count.ensures.rest ∙ so.rest;
      due = omega (arith, c.if-self.false, c.count.new.self.within);
      room = omega (arith, c.rows.ensures.rows, c.room.ensures.room, c.room.ensures.within, c.if-rows-room.false);
      whole = omega (arith, c.if-piece-at.false, so.whole);
    }
