use Rattle.std.proofs.Common.{arith, rules, ap, ◌≡◌, ℤ, pos, ◌*ℤ◌, ◌≤◌, ◌^◌, FitsSigned}
use Rattle.std.specs.Int.{w128}
use Rattle.std.specs.Int.RustNames.{unsigned_abs}
use Rattle.std.proofs.lemmas.Int.{ints, to_z-of_z, fits_signed_from_abs}
use Rattle.flk_exact.proofs.ProductLemmas.{size_of_product_within}
use Rattle.flk_scale.proofs.slope.product.Goals as goal

pub returns-clause-value : goal.returns-clause-value
returns-clause-value c =
    let same : c.from.result ≡ pos c.args.index = omega (arith, ints) in
    let small : unsigned_abs (c.from.result *ℤ c.args.quotient) ≤ 2 ^ 106 = size_of_product_within c.from.result c.args.quotient (2 ^ 32) (2 ^ 74) (omega (arith, ints)) (omega arith) in
    let fits_index : FitsSigned w128 c.from.result = search rules in
    let fits_quotient : FitsSigned w128 c.args.quotient = c.ranges.quotient in
    let fits : FitsSigned w128 (c.from.result *ℤ c.args.quotient) = fits_signed_from_abs w128 _ (omega arith) in
    simp to_z-of_z (ap (λ (a : ℤ). a *ℤ c.args.quotient) same)

pub returns-clause-small : goal.returns-clause-small
returns-clause-small c =
    let small : unsigned_abs (c.from.result *ℤ c.args.quotient) ≤ 2 ^ 106 = size_of_product_within c.from.result c.args.quotient (2 ^ 32) (2 ^ 74) (omega (arith, ints)) (omega arith) in
    let fits_index : FitsSigned w128 c.from.result = search rules in
    let fits_quotient : FitsSigned w128 c.args.quotient = c.ranges.quotient in
    let fits : FitsSigned w128 (c.from.result *ℤ c.args.quotient) = fits_signed_from_abs w128 _ (omega arith) in
    simp to_z-of_z small
