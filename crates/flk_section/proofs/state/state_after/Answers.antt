use Rattle.std.proofs.Common.{rules, ◌≡◌, ◌^◌, ◌≤◌, ◌+ℤ◌, ◌-ℤ◌, FitsSigned, arith}
use Rattle.std.specs.Int.{w128}
use Rattle.std.specs.Int.RustNames.{unsigned_abs}
use Rattle.std.proofs.lemmas.Int.{ints, to_z-of_z}
use Rattle.flk_cert.specs.RoundedSection.{product as rounded_product}
use Rattle.flk_section.specs.Kept.{as_state}
use Rattle.flk_section.proofs.RangeLemmas.{after_is}
use Rattle.flk_section.proofs.state.state_after.Goals as goal

pub returns : goal.returns
returns c =
    let k = c.args.k.now in
    let p : c.brought.result ≡ rounded_product k.b1 c.args.mid -ℤ rounded_product k.a1 c.args.output = search rules in
    let q : c.brought-2.result ≡ rounded_product k.b2 c.args.mid -ℤ rounded_product k.a2 c.args.output = search rules in
    let fits_p : FitsSigned w128 c.brought.result = search rules in
    let fits_q : FitsSigned w128 c.brought-2.result = search rules in
    let fits_s : FitsSigned w128 c.args.state.s2 = search rules in
    let small : unsigned_abs c.brought.result ≤ 2 ^ 69 = search rules in
    let fits : FitsSigned w128 (c.brought.result +ℤ c.args.state.s2) = omega (arith, ints, small, c.requires.second) in
    simp to_z-of_z (after_is k (as_state c.args.state) c.args.mid c.args.output c.brought.result c.brought-2.result c.requires.output p q)
