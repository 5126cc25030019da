use Rattle.std.proofs.Common.{rules, ◌≡◌, ◌+◌, ◌*◌, ◌≤◌, ◌-ℤ◌, FitsSigned, arith}
use Rattle.std.specs.Int.{w128}
use Rattle.std.specs.Int.RustNames.{unsigned_abs}
use Rattle.std.proofs.lemmas.Int.{ints, to_z-of_z}
use Rattle.flk_cert.specs.RoundedSection.{product as rounded_product}
use Rattle.flk_section.proofs.state.brought.Goals as goal

pub returns-clause-value : goal.returns-clause-value
returns-clause-value c =
    let p : c.product.result ≡ rounded_product c.args.b c.args.mid = search rules in
    let q : c.product-2.result ≡ rounded_product c.args.a c.args.output = search rules in
    let fits_p : FitsSigned w128 c.product.result = search rules in
    let fits_q : FitsSigned w128 c.product-2.result = search rules in
    let small_p : unsigned_abs c.product.result ≤ 2 * unsigned_abs c.args.mid + 1 = search rules in
    let small_q : unsigned_abs c.product-2.result ≤ 2 * unsigned_abs c.args.output + 1 = search rules in
    let fits : FitsSigned w128 (c.product.result -ℤ c.product-2.result) = omega (arith, ints) in
    rw (← p, ← q) (simp to_z-of_z)
