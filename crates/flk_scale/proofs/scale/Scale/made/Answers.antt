use Rattle.std.proofs.Common.{rules, arith, ◌≡◌, ◌*◌, ◌^◌, pos, neg_ℤ, ◌+ℤ◌, ◌-ℤ◌, ◌*ℤ◌, FitsSigned, to_z, of_z}
use Rattle.std.specs.Int.{w128}
use Rattle.std.proofs.lemmas.Int.{ints, to_z-of_z, fits_signed_from_abs}
use Rattle.flk_scale.specs.Unit.{microvolts}
use Rattle.flk_scale.specs.Parts.{dividend}
use Rattle.flk_scale.specs.Slope.{divisor_of}
use Rattle.flk_scale.specs.Samples.{AreSamplesBetween}
use Rattle.flk_scale.proofs.ScaleLemmas.{reach_small, size_made, nominal_made, low_made, high_made, within_made}
use Rattle.flk_scale.proofs.scale.Scale.made.Goals as goal

pub invariant_of-result-clause-nominal_is : goal.invariant_of-result-clause-nominal_is
invariant_of-result-clause-nominal_is c = nominal_made _ _ _ _ c.new.ensures.divisor c.nominal-divisor.ensures.value

pub invariant_of-result-clause-offset_small : goal.invariant_of-result-clause-offset_small
invariant_of-result-clause-offset_small c =
    let fits_offset : FitsSigned w128 c.args.offset = c.ranges.offset in
    let is_b : to_z w128 (of_z w128 c.args.offset) ≡ c.args.offset = search rules in
    size_made (to_z w128 (of_z w128 c.args.offset)) c.args.offset _ is_b c.requires.offset

pub invariant_of-result-clause-low_is : goal.invariant_of-result-clause-low_is
invariant_of-result-clause-low_is c =
    let fits_factor : FitsSigned w128 c.args.factor = c.ranges.factor in
    let fits_offset : FitsSigned w128 c.args.offset = c.ranges.offset in
    let is_a : to_z w128 (of_z w128 c.args.factor) ≡ c.args.factor = search rules in
    let is_b : to_z w128 (of_z w128 c.args.offset) ≡ c.args.offset = search rules in
    let s = c.start_of-start.result in
    let t = c.signed-reach.result in
    let start : s ≡ c.args.offset -ℤ c.args.factor *ℤ pos (2 ^ 31) = search rules in
    let reach : t ≡ pos c.uncertainty.result = search rules in
    let fits_s : FitsSigned w128 s = search rules in
    let fits_t : FitsSigned w128 t = search rules in
    let fits : FitsSigned w128 (s -ℤ t) = fits_signed_from_abs w128 _ (omega (arith, ints, c.start_of-start.ensures.small, c.uncertainty.ensures.high, reach)) in
    let parts : dividend c.scaled-low.result c.nominal-divisor.result ≡ (s -ℤ t) *ℤ pos (2 ^ 48) = simp to_z-of_z at c.scaled-low.ensures.parts in
    low_made (to_z w128 (of_z w128 c.args.factor)) (to_z w128 (of_z w128 c.args.offset)) c.args.factor c.args.offset s t c.scaled-low.result (divisor_of c.new.result) c.nominal-divisor.result c.uncertainty.result (microvolts c.args.unit) (c.args.supply.uncertainty_uv * 10 ^ 24) is_a is_b c.new.ensures.divisor start reach c.uncertainty.ensures.value parts

pub invariant_of-result-clause-high_is : goal.invariant_of-result-clause-high_is
invariant_of-result-clause-high_is c =
    let fits_factor : FitsSigned w128 c.args.factor = c.ranges.factor in
    let fits_offset : FitsSigned w128 c.args.offset = c.ranges.offset in
    let is_a : to_z w128 (of_z w128 c.args.factor) ≡ c.args.factor = search rules in
    let is_b : to_z w128 (of_z w128 c.args.offset) ≡ c.args.offset = search rules in
    let s = c.start_of-start.result in
    let t = c.signed-reach.result in
    let start : s ≡ c.args.offset -ℤ c.args.factor *ℤ pos (2 ^ 31) = search rules in
    let reach : t ≡ pos c.uncertainty.result = search rules in
    let fits_s : FitsSigned w128 s = search rules in
    let fits_t : FitsSigned w128 t = search rules in
    let fits : FitsSigned w128 (s +ℤ t) = fits_signed_from_abs w128 _ (reach_small s t c.uncertainty.result c.start_of-start.ensures.small c.uncertainty.ensures.high reach) in
    let parts : dividend c.scaled-high.result c.nominal-divisor.result ≡ (s +ℤ t) *ℤ pos (2 ^ 48) = simp to_z-of_z at c.scaled-high.ensures.parts in
    high_made (to_z w128 (of_z w128 c.args.factor)) (to_z w128 (of_z w128 c.args.offset)) c.args.factor c.args.offset s t c.scaled-high.result (divisor_of c.new.result) c.nominal-divisor.result c.uncertainty.result (microvolts c.args.unit) (c.args.supply.uncertainty_uv * 10 ^ 24) is_a is_b c.new.ensures.divisor start reach c.uncertainty.ensures.value parts

pub invariant_of-result-clause-within_is : goal.invariant_of-result-clause-within_is
invariant_of-result-clause-within_is c =
    let fits_factor : FitsSigned w128 c.args.factor = c.ranges.factor in
    let fits_offset : FitsSigned w128 c.args.offset = c.ranges.offset in
    let is_a : to_z w128 (of_z w128 c.args.factor) ≡ c.args.factor = search rules in
    let is_b : to_z w128 (of_z w128 c.args.offset) ≡ c.args.offset = search rules in
    let fits_low : FitsSigned w128 c.negated.result = search rules in
    let fits_high : FitsSigned w128 c.signed-limit.result = search rules in
    let turned : c.negated.result ≡ neg_ℤ c.signed-limit.result = search rules in
    let limit : c.signed-limit.result ≡ pos (4 * c.nominal-divisor.result) = search rules in
    let are : AreSamplesBetween c.args.factor c.args.offset c.negated.result c.signed-limit.result c.samples_between.result = simp to_z-of_z at c.samples_between.ensures in
    within_made (to_z w128 (of_z w128 c.args.factor)) (to_z w128 (of_z w128 c.args.offset)) c.args.factor c.args.offset c.negated.result c.signed-limit.result c.samples_between.result (divisor_of c.new.result) c.nominal-divisor.result is_a is_b c.new.ensures.divisor turned limit are
