use Rattle.std.proofs.Common.{◌≡◌, ◌^◌, ◌*ℤ◌, FitsSigned, arith, rules}
use Rattle.std.specs.Int.{w128}
use Rattle.std.specs.Int.RustNames.{unsigned_abs}
use Rattle.std.proofs.lemmas.Int.{ints, to_z-of_z, fits_signed_mul}
use Rattle.flk_exact.proofs.ProductLemmas.{size_of_product_within}
use Rattle.flk_cert.proofs.row.product.Goals as goal

pub returns-clause-small : goal.returns-clause-small
returns-clause-small c =
    let a : c.from.result ≡ c.args.a = search rules in
    let b : c.from-2.result ≡ c.args.b = search rules in
    let fits_a : FitsSigned w128 c.args.a = search rules in
    let fits_b : FitsSigned w128 c.args.b = search rules in
    let fits : FitsSigned w128 (c.args.a *ℤ c.args.b) = fits_signed_mul w128 c.args.a c.args.b (2 ^ 33) (2 ^ 63) c.requires (omega (arith, ints)) (omega arith) in
    rw (a, b) (simp to_z-of_z (size_of_product_within c.args.a c.args.b (2 ^ 33) (unsigned_abs c.args.b) c.requires (omega arith)))
