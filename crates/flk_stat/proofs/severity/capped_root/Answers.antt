use Rattle.std.proofs.Common.{rules, ◌≡◌, ℤ, pos, ◌*ℤ◌, FitsSigned}
use Rattle.std.specs.Int.{int_min, w128}
use Rattle.std.proofs.lemmas.Int.{to_z-of_z}
use Rattle.flk_exact.specs.Rounding.{IsCeil, IsRootCeil}
use Rattle.flk_stat.specs.Severity.{cap}
use Rattle.flk_stat.proofs.SeverityLemmas.{capped_root_is, quotient_small}
use Rattle.flk_stat.proofs.severity.capped_root.Goals as goal

pub scaled_ceil-requires-clause-result_small : goal.scaled_ceil-requires-clause-result_small
scaled_ceil-requires-clause-result_small c =
    let fits : FitsSigned w128 c.args.sum = search rules in
    rw (to_z-of_z w128 c.args.sum fits) (quotient_small c.args.sum c.requires.low c.requires.high)

pub returns : goal.returns
returns c =
    let z : ℤ = c.min.result in
    let fits : FitsSigned w128 z = search rules in
    let ceil : IsCeil (c.args.sum *ℤ pos 6103515625) (pos 51539607552) c.scaled_ceil.result = search rules in
    let root : IsRootCeil c.scaled_ceil.result c.root_ceil.result = search rules in
    let is : z ≡ int_min c.root_ceil.result cap = search rules in
    rw (to_z-of_z w128 z fits) (capped_root_is c.args.sum c.scaled_ceil.result c.root_ceil.result z ceil root is)
