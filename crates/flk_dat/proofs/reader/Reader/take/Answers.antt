use Rattle.std.proofs.Common.{◌<◌, ◌≤◌, length, arith}
use Rattle.flk_dat.specs.Takings.{TakesAll, Stops}
use Rattle.flk_dat.specs.declared.kind.Fault.{Fault}
use Rattle.flk_num.proofs.StopLemmas.{err_exit}
use Rattle.flk_dat.proofs.LoopLemmas.{taking_then, stops_then, takes_all}
use Rattle.flk_dat.proofs.reader.Reader.take.Goals as goal

pub returns-in_err-at-clause-taken : goal.returns-in_err-at-clause-taken
returns-in_err-at-clause-taken c =
    let old = c.args.self.now in
    let b = c.args.out.now in
    let piece = c.args.piece.now in
    let new = c.step.new.self in
    let out = c.step.new.out in
    let f = c.in_err-at.field-0.0 in
    err_exit c.from_residual.result (λ n. TakesAll old new b out piece n) (λ (x : Fault). Stops old new b out piece x) f c.from_residual.ensures.1
    (stops_then old c.loop-at.self new b c.loop-at.out out piece c.loop-at.at f c.loop-at.invariant c.in_err-at.ensures.taken)

pub loop-at-preserved : goal.loop-at-preserved
loop-at-preserved c =
    let room : length c.loop-at.out.records < c.loop-at.out.room = omega (arith, c.rows.ensures.rows, c.room.ensures.room, c.if-rows-room.true) in
    taking_then c.args.self.now c.loop-at.self c.step.new.self c.args.out.now c.loop-at.out c.step.new.out c.args.piece.now c.loop-at.at c.in_ok-at.field-0 c.loop-at.invariant room c.in_ok-at.ensures.taken

pub returns-else-rows-room-clause-taken : goal.returns-else-rows-room-clause-taken
returns-else-rows-room-clause-taken c =
    let full : c.loop-at.out.room ≤ length c.loop-at.out.records = omega (arith, c.rows.ensures.rows, c.room.ensures.room, c.if-rows-room.false) in
    takes_all c.args.self.now c.loop-at.self c.args.out.now c.loop-at.out c.args.piece.now c.loop-at.at c.loop-at.invariant full
