use Rattle.std.proofs.Common.{rules, arith, ◌≡◌, pos, ◌+ℤ◌, ◌*ℤ◌, ◌*◌, ◌^◌, ◌≤◌}
use Rattle.std.specs.Int.RustNames.{unsigned_abs}
use Rattle.std.proofs.lemmas.Int.{unsigned_abs-mul}
use Rattle.flk_scale.proofs.PartsLemmas.{quotient_bound}
use Rattle.flk_scale.proofs.slope.Slope.new.Goals as goal

pub invariant_of-result-clause-step_small : goal.invariant_of-result-clause-step_small
invariant_of-result-clause-step_small c =
    let step = c.scaled-step.result in
    let size : unsigned_abs (c.args.a *ℤ pos (2 ^ 48)) ≤ 2 ^ 74 * 2 ^ 69 = omega (arith, unsigned_abs-mul c.args.a (pos (2 ^ 48)), c.requires.small) in
    let parts : step.quotient *ℤ pos c.args.divisor +ℤ pos step.rest ≡ c.args.a *ℤ pos (2 ^ 48) = search rules in
    quotient_bound step.quotient _ step.rest c.args.divisor (2 ^ 74) (2 ^ 69) c.scaled-step.ensures.rest c.requires.some size parts
