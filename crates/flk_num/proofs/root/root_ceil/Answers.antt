use Rattle.std.proofs.Common.{rules, ◌≡◌, ℤ, pos, ◌+ℤ◌, ◌*ℤ◌, arith, FitsSigned}
use Rattle.std.specs.Prelude.{◌≢◌}
use Rattle.std.specs.Int.{w128}
use Rattle.std.proofs.lemmas.Int.{ints, to_z-of_z}
use Rattle.flk_exact.specs.Rounding.{IsRootFloor}
use Rattle.flk_num.proofs.RootLemmas.{root_exact, root_next, root_within}
use Rattle.flk_num.proofs.root.root_ceil.Goals as goal

pub returns-then-root-v : goal.returns-then-root-v
returns-then-root-v c =
    let root : ℤ = c.root_floor-root.result in
    let fits : FitsSigned w128 root = search rules in
    let floor : IsRootFloor c.args.v root = search rules in
    let is : root *ℤ root ≡ c.args.v = search rules in
    rw (to_z-of_z w128 root fits) (root_exact c.args.v root floor is)

pub returns-else-root-v : goal.returns-else-root-v
returns-else-root-v c =
    let root : ℤ = c.root_floor-root.result in
    let fits : FitsSigned w128 root = search rules in
    let floor : IsRootFloor c.args.v root = search rules in
    let other : root *ℤ root ≢ c.args.v = search rules in
    let next : FitsSigned w128 (root +ℤ pos 1) = omega (arith, ints, floor.natural, root_within c.args.v root floor, c.requires.high) in
    rw (to_z-of_z w128 root fits, to_z-of_z w128 (root +ℤ pos 1) next) (root_next c.args.v root floor other)
