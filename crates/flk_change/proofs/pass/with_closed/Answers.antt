use Rattle.std.proofs.Common.{arith}
use Rattle.flk_change.proofs.PassLemmas.{hulls_near, hulls_far}
use Rattle.flk_change.proofs.pass.with_closed.Goals as goal

pub returns-then-pass-eq0 : goal.returns-then-pass-eq0
returns-then-pass-eq0 c = λ flags may h.
    hulls_near c.args.window c.args.halves.now flags c.args.i c.args.pass.last c.args.pass.outcome (λ some. omega (arith, some, c.if-pass-eq0.true)) may h.outcome

pub returns-then-i-pass : goal.returns-then-i-pass
returns-then-i-pass c = λ flags may h.
    hulls_near c.args.window c.args.halves.now flags c.args.i c.args.pass.last c.args.pass.outcome (λ some. c.if-i-pass.true) may h.outcome

pub returns : goal.returns
returns c = λ flags may h.
    let more = c.with_change.ensures in
    hulls_far c.args.window c.args.halves.now flags c.args.i c.args.pass c.args.level c.distance.result c.swings_of-part.result c.with_change.result may h
    (omega arith) c.if-i-pass.false c.requires.low c.requires.high c.distance.ensures.low c.distance.ensures.high c.swings_of-part.ensures
    record { dc_low = more.dc_low; dc_high = more.dc_high; dmax_low = more.dmax_low; dmax_high = more.dmax_high; t_low = more.t_low; t_high = more.t_high }
