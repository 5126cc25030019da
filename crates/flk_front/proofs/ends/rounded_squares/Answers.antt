use Rattle.std.proofs.Common.{◌*◌, ◌^◌, ◌≤◌, arith}
use Rattle.flk_num.specs.Interval.{greatest_end}
use Rattle.flk_front.proofs.SquareSteps.{ceil_least}
use Rattle.flk_front.proofs.ends.rounded_squares.Goals as goal

pub returns-clause-small : goal.returns-clause-small
returns-clause-small c =
    let greatest : c.exact_squares-squares.result.greatest ≤ greatest_end * greatest_end = c.exact_squares-squares.ensures.small greatest_end c.requires.low c.requires.high in
    omega (arith, greatest, ceil_least c.exact_squares-squares.result.greatest (2 ^ 48) (omega arith))
