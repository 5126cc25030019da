use Rattle.std.proofs.Common.{rules, ◌≡◌, ◌^◌, ◌≤◌, ℤ, pos, ◌-ℤ◌, ◌*ℤ◌, FitsSigned, arith}
use Rattle.std.specs.Int.{w64, w128}
use Rattle.std.specs.Int.RustNames.{unsigned_abs}
use Rattle.std.proofs.lemmas.Int.{ints, to_z-of_z}
use Rattle.flk_exact.specs.Rounding.{floor_of}
use Rattle.flk_section.proofs.NarrowLemmas.{half_of, opposite_half, zero_product}
use Rattle.flk_section.proofs.by_kind.high_pass_products.Goals as goal

pub returns : goal.returns
returns c =
    let k = c.args.k.now in
    let X : ℤ = c.args.mid in
    let W : ℤ = c.wide_product-wide.result in
    let wide : W ≡ k.b0 *ℤ (pos 8 *ℤ X) = search rules in
    let small : unsigned_abs W ≤ 2 ^ 125 = search rules in
    let fits : FitsSigned w128 W = omega (arith, ints, small) in
    let fits_minus : FitsSigned w128 (pos 0 -ℤ W) = omega (arith, ints, small) in
    let once : c.upper_half.result ≡ floor_of W (pos (2 ^ 64)) = simp to_z-of_z at c.upper_half.ensures in
    let opposite : c.upper_half-2.result ≡ floor_of (pos 0 -ℤ W) (pos (2 ^ 64)) = simp to_z-of_z at c.upper_half-2.ensures in
    let fits_once : FitsSigned w64 c.upper_half.result = search rules in
    let fits_opposite : FitsSigned w64 c.upper_half-2.result = search rules in
    record {
      b0 = simp to_z-of_z (half_of k.b0 X W c.upper_half.result wide once);
      b1 = simp to_z-of_z (opposite_half k.b0 k.b1 X W c.upper_half-2.result c.requires.kind.0 wide opposite);
      b2 = zero_product k.b2 X c.requires.kind.1;
    }
