use Rattle.std.proofs.Common.{rules, ◌≡◌, ◌^◌, pos, ◌*ℤ◌, FitsSigned}
use Rattle.std.specs.Int.{w64, w128}
use Rattle.std.proofs.lemmas.Int.{to_z-of_z}
use Rattle.flk_exact.specs.Rounding.{floor_of}
use Rattle.flk_section.specs.Narrow.{fine_product}
use Rattle.flk_section.proofs.NarrowLemmas.{half_of, small_product}
use Rattle.flk_section.proofs.narrow.product.Goals as goal

pub returns-clause-value : goal.returns-clause-value
returns-clause-value c =
    let fits : FitsSigned w128 c.wide_product.result = search rules in
    let fits_half : FitsSigned w64 c.upper_half.result = search rules in
    let wide : c.wide_product.result ≡ c.args.k *ℤ (pos 8 *ℤ c.args.v) = search rules in
    let half : c.upper_half.result ≡ floor_of c.wide_product.result (pos (2 ^ 64)) = search rules in
    simp to_z-of_z (half_of c.args.k c.args.v c.wide_product.result c.upper_half.result wide half)

pub returns-clause-small : goal.returns-clause-small
returns-clause-small c =
    let fits : FitsSigned w128 c.wide_product.result = search rules in
    let fits_half : FitsSigned w64 c.upper_half.result = search rules in
    let wide : c.wide_product.result ≡ c.args.k *ℤ (pos 8 *ℤ c.args.v) = search rules in
    let half : c.upper_half.result ≡ floor_of c.wide_product.result (pos (2 ^ 64)) = search rules in
    let is : c.upper_half.result ≡ fine_product c.args.k c.args.v = half_of c.args.k c.args.v c.wide_product.result c.upper_half.result wide half in
    simp to_z-of_z (small_product c.args.k c.args.v c.upper_half.result c.requires.coefficient c.requires.value is)
