use Rattle.std.proofs.Common.{rules, arith, ◌≡◌, pos, ◌*ℤ◌, ◌+◌, ◌*◌, ◌^◌, ◌<◌, ◌≤◌}
use Rattle.std.proofs.lemmas.Int.{ints}
use Rattle.flk_scale.proofs.SlopeLemmas.{estimate_low, estimate_high, product_parts}
use Rattle.flk_scale.proofs.slope.Slope.at.Goals as goal

pub left_over-requires-clause-within : goal.left_over-requires-clause-within
left_over-requires-clause-within c =
    let s = c.args.self.now in
    let carried = c.estimate-carried.result in
    let few : carried * 2 ^ 64 ≤ c.args.index * s.share = omega (arith, c.estimate-carried.ensures) in
    estimate_low c.args.index s.share carried s.step.rest s.divisor few s.share_is.within

pub returns-clause-rest : goal.returns-clause-rest
returns-clause-rest c =
    let s = c.args.self.now in
    let carried = c.estimate-carried.result in
    let most : c.args.index * s.share < carried * 2 ^ 64 + 2 ^ 64 = omega (arith, c.estimate-carried.ensures) in
    let high = estimate_high c.args.index s.share carried s.step.rest s.divisor (omega arith) (omega arith) most s.share_is.greatest in
    omega (arith, high, c.left_over.ensures)

pub returns-clause-parts : goal.returns-clause-parts
returns-clause-parts c =
    let s = c.args.self.now in
    let value : c.product.result ≡ pos c.args.index *ℤ s.step.quotient = search rules in
    product_parts s.step.quotient _ c.args.index c.estimate-carried.result s.step.rest s.divisor _ (omega (arith, ints)) c.left_over.ensures
