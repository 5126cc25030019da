use Rattle.std.proofs.Common.{◌*◌, ◌^◌, arith}
use Rattle.flk_front.proofs.SquareSteps.{floor_at_most_ceil}
use Rattle.flk_front.proofs.ends.quotients.Goals as goal

pub returns-clause-ordered : goal.returns-clause-ordered
returns-clause-ordered c =
    let need = c.requires in
    omega (
      arith,
      c.quotient_down.ensures,
      c.quotient_up.ensures,
      floor_at_most_ceil (c.args.squares.lo * 2 ^ 64) (c.args.squares.hi * 2 ^ 64) c.args.divisor.lo c.args.divisor.hi
          (omega arith) (omega arith) need.divisor_ordered,
    )
