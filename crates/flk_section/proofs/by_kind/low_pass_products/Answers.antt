use Rattle.std.proofs.Common.{rules, ◌≡◌, ◌^◌, ◌≤◌, ℤ, pos, ◌*ℤ◌, FitsSigned, sym, ap, ◌∙◌, arith}
use Rattle.std.specs.Int.{w64, w128}
use Rattle.std.specs.Int.RustNames.{unsigned_abs}
use Rattle.std.proofs.lemmas.Int.{ints, to_z-of_z}
use Rattle.flk_exact.specs.Rounding.{floor_of}
use Rattle.flk_section.specs.Narrow.{fine_product}
use Rattle.flk_section.proofs.NarrowLemmas.{half_of, double_half, small_product}
use Rattle.flk_section.proofs.by_kind.low_pass_products.Goals as goal

pub invariant_of-result : goal.invariant_of-result
invariant_of-result c =
    let k = c.args.k.now in
    let X : ℤ = c.args.mid in
    let W : ℤ = c.wide_product-wide.result in
    let wide : W ≡ k.b0 *ℤ (pos 8 *ℤ X) = search rules in
    let small : unsigned_abs W ≤ 2 ^ 125 = search rules in
    let fits : FitsSigned w128 W = omega (arith, ints, small) in
    let fits_double : FitsSigned w128 (pos 2 *ℤ W) = omega (arith, ints, small) in
    let once : c.upper_half-once.result ≡ floor_of W (pos (2 ^ 64)) = simp to_z-of_z at c.upper_half-once.ensures in
    let double : c.upper_half.result ≡ floor_of (pos 2 *ℤ W) (pos (2 ^ 64)) = simp to_z-of_z at c.upper_half.ensures in
    let fits_once : FitsSigned w64 c.upper_half-once.result = search rules in
    let fits_twice : FitsSigned w64 c.upper_half.result = search rules in
    let first : c.upper_half-once.result ≡ fine_product k.b0 X = half_of k.b0 X W c.upper_half-once.result wide once in
    let second : c.upper_half.result ≡ fine_product k.b1 X = double_half k.b0 k.b1 X W c.upper_half.result c.requires.kind.0 wide double in
    let low : unsigned_abs c.upper_half-once.result ≤ 2 ^ 61 = small_product k.b0 X c.upper_half-once.result k.b0_small c.requires.mid first in
    let high : unsigned_abs c.upper_half.result ≤ 2 ^ 61 = small_product k.b1 X c.upper_half.result k.b1_small c.requires.mid second in
    simp to_z-of_z record { b0_small = low; b1_small = high; b2_small = low }

pub returns : goal.returns
returns c =
    let k = c.args.k.now in
    let X : ℤ = c.args.mid in
    let W : ℤ = c.wide_product-wide.result in
    let wide : W ≡ k.b0 *ℤ (pos 8 *ℤ X) = search rules in
    let small : unsigned_abs W ≤ 2 ^ 125 = search rules in
    let fits : FitsSigned w128 W = omega (arith, ints, small) in
    let fits_double : FitsSigned w128 (pos 2 *ℤ W) = omega (arith, ints, small) in
    let once : c.upper_half-once.result ≡ floor_of W (pos (2 ^ 64)) = simp to_z-of_z at c.upper_half-once.ensures in
    let double : c.upper_half.result ≡ floor_of (pos 2 *ℤ W) (pos (2 ^ 64)) = simp to_z-of_z at c.upper_half.ensures in
    let fits_once : FitsSigned w64 c.upper_half-once.result = search rules in
    let fits_twice : FitsSigned w64 c.upper_half.result = search rules in
    let first : c.upper_half-once.result ≡ fine_product k.b0 X = half_of k.b0 X W c.upper_half-once.result wide once in
    let second : c.upper_half.result ≡ fine_product k.b1 X = double_half k.b0 k.b1 X W c.upper_half.result c.requires.kind.0 wide double in
    record { b0 = simp to_z-of_z first; b1 = simp to_z-of_z second; b2 = simp to_z-of_z (first ∙ ap (λ (z : ℤ). fine_product z X) (sym c.requires.kind.1)) }
