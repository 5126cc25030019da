use Rattle.std.proofs.Common.{rules, arith, FitsSigned, ◌-ℤ◌, ◌+ℤ◌, ◌*ℤ◌, ◌≤ℤ◌}
use Rattle.std.specs.Prelude.{◌↔◌}
use Rattle.std.specs.Int.{w64, w128}
use Rattle.std.proofs.lemmas.Int.{ints, to_z-of_z}
use Rattle.flk_exact.specs.Rounding.{IsFloor, IsCeil, IsBetween}
use Rattle.flk_scale.proofs.SamplesLemmas.{rising_range, cut_range}
use Rattle.flk_scale.proofs.samples.rising.Goals as goal

pub returns : goal.returns
returns c = λ x fits.
    let fits_a : FitsSigned w128 c.args.a = c.ranges.a in
    let fits_b : FitsSigned w128 c.args.b = c.ranges.b in
    let fits_lo : FitsSigned w128 c.args.low = c.ranges.low in
    let fits_hi : FitsSigned w128 c.args.high = c.ranges.high in
    let fits_low : FitsSigned w128 (c.args.low -ℤ c.args.b) = omega (arith, ints, c.requires.low, c.requires.b) in
    let fits_high : FitsSigned w128 (c.args.high -ℤ c.args.b) = omega (arith, ints, c.requires.high, c.requires.b) in
    let fits_first : FitsSigned w128 c.ceil_div.result = search rules in
    let fits_last : FitsSigned w128 c.floor_div.result = search rules in
    let ceil : IsCeil (c.args.low -ℤ c.args.b) c.args.a c.ceil_div.result = simp to_z-of_z at c.ceil_div.ensures.rounding in
    let floor : IsFloor (c.args.high -ℤ c.args.b) c.args.a c.floor_div.result = simp to_z-of_z at c.floor_div.ensures.rounding in
    let range : IsBetween c.ceil_div.result c.floor_div.result x ↔ IsBetween c.args.low c.args.high (x *ℤ c.args.a +ℤ c.args.b) =
    rising_range c.args.a c.args.b c.args.low c.args.high c.ceil_div.result c.floor_div.result x c.requires.a ceil floor in
    let above = c.cut_to_samples.ensures.above x fits in
    let below = c.cut_to_samples-2.ensures.below x fits in
    let first : (c.cut_to_samples.result ≤ℤ x) ↔ (c.ceil_div.result ≤ℤ x) = simp to_z-of_z at above in
    let last : (x ≤ℤ c.cut_to_samples-2.result) ↔ (x ≤ℤ c.floor_div.result) = simp to_z-of_z at below in
    let fits_cut : FitsSigned w64 c.cut_to_samples.result = search rules in
    let fits_cut_2 : FitsSigned w64 c.cut_to_samples-2.result = search rules in
    let is : IsBetween c.cut_to_samples.result c.cut_to_samples-2.result x ↔ IsBetween c.args.low c.args.high (x *ℤ c.args.a +ℤ c.args.b) =
    cut_range c.cut_to_samples.result c.cut_to_samples-2.result c.ceil_div.result c.floor_div.result x first last range in
    simp to_z-of_z is
