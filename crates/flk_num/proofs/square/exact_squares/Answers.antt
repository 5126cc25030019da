use Rattle.std.proofs.Common.{arith, rules, ◌≡◌, ◌*◌, ◌≤◌}
use Rattle.std.proofs.lemmas.Nat.{mul-le}
use Rattle.flk_num.specs.Square.{least_size, greatest_size}
use Rattle.flk_num.proofs.SquareLemmas.{least_within}
use Rattle.flk_num.proofs.square.exact_squares.Goals as goal

pub returns-clause-ordered : goal.returns-clause-ordered
returns-clause-ordered c =
    let v = c.args.v in
    let least = least_size v.lo v.hi in
    let greatest = greatest_size v.lo v.hi in
    let low : c.square.result ≡ least * least = search rules in
    let high : c.square-2.result ≡ greatest * greatest = search rules in
    let within = least_within v.lo v.hi v.ordered in
    omega (arith, low, high, mul-le least least greatest greatest within within)

pub returns-clause-small : goal.returns-clause-small
returns-clause-small c = λ n low high.
    let size = greatest_size c.args.v.lo c.args.v.hi in
    let is : c.square-2.result ≡ size * size = search rules in
    let small : size ≤ n = omega (arith, low, high) in
    omega (arith, is, mul-le size size n n small small)
