use Rattle.std.proofs.Common.{arith, rules, ◌^◌, ◌-◌}
use Rattle.flk_num.proofs.SquareLemmas.{AreSquares-at, sizes_squared}
use Rattle.flk_num.proofs.square.square_out.Goals as goal

pub signed-requires-2 : goal.signed-requires-2
signed-requires-2 c =
    let small = c.exact_squares-squares.ensures.small (2 ^ 63 - 1) (omega (arith, c.requires.low)) (omega (arith, c.requires.high)) in
    omega (arith, small)

pub returns : goal.returns
returns c =
    let v = c.args.v in
    AreSquares-at v.lo v.hi _ _ _ _ (sizes_squared v.lo v.hi v.ordered) (search rules) (search rules)
