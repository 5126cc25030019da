use Rattle.std.proofs.Common.{◌<◌, ◌+◌, ◌-◌, arith}
use Rattle.flk_text.proofs.PowersOfTen.{IsLong-out, units_down, units_far, units_found}
use Rattle.flk_text.proofs.decimals.moved.Goals as goal

pub returns-then-digits : goal.returns-then-digits
returns-then-digits c = λ n h u value inside. IsLong-out n c.args.right c.args.left u (h.long c.if-digits.true) value inside

pub returns-then-up-down : goal.returns-then-up-down
returns-then-up-down c = λ n h u value inside.
    let s = h.short c.if-digits.false in
    let some : 0 < c.args.digits.significand = omega (arith, c.if-digits-eq0.false) in
    units_down n c.args.digits.significand c.args.digits.zeros c.args.right c.args.left u s.is some (s.last some) (omega (arith, c.if-up-down.true, c.from.ensures, c.from-2.ensures, c.from-down.ensures)) value

pub returns-then-up-down-gt36 : goal.returns-then-up-down-gt36
returns-then-up-down-gt36 c = λ n h u value inside.
    units_far n c.args.digits.significand c.args.digits.zeros c.args.right c.args.left u (h.short c.if-digits.false) (omega (arith, c.if-digits-eq0.false))
    (omega (arith, c.if-up-down-gt36.true, c.if-up-down.false, c.from.ensures, c.from-2.ensures, c.from-down.ensures)) value inside

pub returns : goal.returns
returns c = λ n h.
    units_found c.scaled.result n c.args.digits.significand c.args.digits.zeros c.args.right c.args.left (c.from.result + c.from-2.result + 24 - c.from-down.result) (h.short c.if-digits.false)
    (omega (arith, c.if-up-down.false, c.from.ensures, c.from-2.ensures, c.from-down.ensures)) c.scaled.ensures
