use Rattle.std.proofs.Common.{◌≡◌, ◌+◌, ◌-◌, ◌*◌, ◌/◌, ◌%◌, ◌^◌, ◌<◌, ◌≤◌, arith}
use Rattle.std.proofs.Math.Nat.{mod-eq_of_lt, pow-le-pow_right}
use Rattle.std.proofs.lemmas.Nat.{pow_pos, div-add-mod', mod_below}
use Rattle.flk_front.proofs.SquareSteps.{ceil_unique}
use Rattle.flk_front.proofs.ends.part_up.Goals as goal

pub returns : goal.returns
returns c =
    let x = c.args.x in
    let d = 2 ^ c.args.exponent in
    let some : 0 < 2 ^ c.args.exponent = pow_pos c.args.exponent in
    let small : 2 ^ c.args.exponent ≤ 2 ^ 17 = pow-le-pow_right (omega arith) c.requires.exponent in
    let shifted : 1 * 2 ^ c.args.exponent % 2 ^ 128 ≡ 2 ^ c.args.exponent = omega (arith, mod-eq_of_lt {n = 1 * d} {m = 2 ^ 128} (omega (arith, small))) in
    let whole = div-add-mod' (x + (d - 1)) d in
    let below = mod_below (x + (d - 1)) d some in
    rw shifted (ceil_unique x d ((x + (d - 1)) / d) some (omega (arith, whole, below, some)) (omega (arith, whole, below, some)))
