use Rattle.std.proofs.Common.{rules, ◌≡◌, ◌+◌, ◌*◌, ◌≤◌, ◌+ℤ◌, FitsSigned, arith}
use Rattle.std.specs.Int.{w128}
use Rattle.std.specs.Int.RustNames.{unsigned_abs}
use Rattle.std.proofs.lemmas.Int.{ints, to_z-of_z}
use Rattle.flk_cert.specs.RoundedSection.{product as rounded_product}
use Rattle.flk_section.proofs.state.output_of.Goals as goal

pub returns-clause-value : goal.returns-clause-value
returns-clause-value c =
    let p : c.product.result ≡ rounded_product c.args.k.now.b0 c.args.mid = search rules in
    let fits_p : FitsSigned w128 c.product.result = search rules in
    let fits_s : FitsSigned w128 c.args.state.s1 = search rules in
    let small : unsigned_abs c.product.result ≤ 2 * unsigned_abs c.args.mid + 1 = search rules in
    let fits : FitsSigned w128 (c.product.result +ℤ c.args.state.s1) = omega (arith, ints) in
    rw (← p) (simp to_z-of_z)
