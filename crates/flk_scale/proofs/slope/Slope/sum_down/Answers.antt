use Rattle.std.proofs.Common.{rules, arith, ◌≡◌, pos, ◌+ℤ◌, ◌*ℤ◌, ◌+◌, ◌*◌, ◌^◌, ◌≤◌, FitsSigned}
use Rattle.std.specs.Int.{w128}
use Rattle.std.proofs.lemmas.Int.{ints, to_z-of_z, fits_signed_from_abs}
use Rattle.flk_scale.proofs.SlopeLemmas.{down_by_shares}
use Rattle.flk_scale.proofs.slope.Slope.sum_down.Goals as goal

pub returns-in-Some : goal.returns-in-Some
returns-in-Some c =
    let s = c.args.self.now in
    let p = c.product.result in
    let q = c.args.q.now in
    let x = c.args.index in
    let n = c.in-Some.count in
    let value : p ≡ pos x *ℤ s.step.quotient = search rules in
    let count : c.from.result ≡ pos n = omega (arith, ints) in
    let most : n * 2 ^ 64 ≤ x * s.share + c.args.share = omega (arith, c.shares.ensures.value, c.in-Some.ensures.within) in
    let more : x * s.share + c.args.share + 2 ^ 32 ≤ n * 2 ^ 64 + 2 ^ 64 = omega (arith, c.shares.ensures.value, c.in-Some.ensures.greatest) in
    let fits_p : FitsSigned w128 p = search rules in
    let fits_q : FitsSigned w128 q.quotient = search rules in
    let fits_n : FitsSigned w128 c.from.result = search rules in
    let fits_sum : FitsSigned w128 (p +ℤ q.quotient) = fits_signed_from_abs w128 _ (omega (arith, ints, c.product.ensures.small, c.requires.small)) in
    let fits : FitsSigned w128 (p +ℤ q.quotient +ℤ c.from.result) = fits_signed_from_abs w128 _ (omega (arith, ints, c.product.ensures.small, c.requires.small)) in
    simp to_z-of_z (down_by_shares s.step.quotient q.quotient (p +ℤ q.quotient +ℤ c.from.result) x s.share c.args.share s.step.rest q.rest s.divisor n (omega arith) s.share_is c.requires.share most more (omega (arith, ints, value, count)))
