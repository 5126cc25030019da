use Rattle.std.proofs.Common.{rules, arith, ◌≡◌, ℕ, ◌*◌, ◌^◌, ℤ, pos, ◌+ℤ◌, ◌-ℤ◌, ◌*ℤ◌, FitsSigned}
use Rattle.std.specs.Int.{w128}
use Rattle.std.proofs.lemmas.Int.{to_z-of_z}
use Rattle.flk_exact.specs.Rounding.{IsFloor, IsCeil}
use Rattle.flk_scale.specs.Unit.{microvolts}
use Rattle.flk_scale.specs.Parts.{dividend}
use Rattle.flk_scale.specs.Slope.{divisor_of, step_dividend}
use Rattle.flk_scale.specs.declared.scale.Scale.{Scale}
use Rattle.flk_scale.proofs.ScaleLemmas.{low_dividend, high_dividend, down_is, up_is, ends_order}
use Rattle.flk_scale.proofs.UnitLemmas.{microvolts_some}
use Rattle.flk_scale.proofs.scale.Scale.interval.Goals as goal

-- the lower end is that of the definition
low_is : (s : Scale) (x lo : ℤ) (i : ℕ) → pos i ≡ x +ℤ pos (2 ^ 31)
    → IsFloor (pos i *ℤ step_dividend s.slope +ℤ dividend s.low (divisor_of s.slope)) (pos (divisor_of s.slope)) lo
    → IsFloor (((x *ℤ s.factor +ℤ s.offset) *ℤ pos (microvolts s.unit) -ℤ pos (s.supply.uncertainty_uv * 10 ^ 24)) *ℤ pos (2 ^ 48)) (pos (1000 * s.supply.nominal_mv * 10 ^ 24)) lo
low_is s x lo i at floor =
    down_is (pos i *ℤ step_dividend s.slope +ℤ dividend s.low (divisor_of s.slope)) _ lo (divisor_of s.slope) (microvolts s.unit) (1000 * s.supply.nominal_mv * 10 ^ 24) (microvolts_some s.unit) s.nominal_is
    (low_dividend x s.factor s.offset (step_dividend s.slope) (dividend s.low (divisor_of s.slope)) i (microvolts s.unit) (s.supply.uncertainty_uv * 10 ^ 24) at s.slope_is s.low_is)
    floor

high_is : (s : Scale) (x hi : ℤ) (i : ℕ) → pos i ≡ x +ℤ pos (2 ^ 31)
    → IsCeil (pos i *ℤ step_dividend s.slope +ℤ dividend s.high (divisor_of s.slope)) (pos (divisor_of s.slope)) hi
    → IsCeil (((x *ℤ s.factor +ℤ s.offset) *ℤ pos (microvolts s.unit) +ℤ pos (s.supply.uncertainty_uv * 10 ^ 24)) *ℤ pos (2 ^ 48)) (pos (1000 * s.supply.nominal_mv * 10 ^ 24)) hi
high_is s x hi i at ceil =
    up_is (pos i *ℤ step_dividend s.slope +ℤ dividend s.high (divisor_of s.slope)) _ hi (divisor_of s.slope) (microvolts s.unit) (1000 * s.supply.nominal_mv * 10 ^ 24) (microvolts_some s.unit) s.nominal_is
    (high_dividend x s.factor s.offset (step_dividend s.slope) (dividend s.high (divisor_of s.slope)) i (microvolts s.unit) (s.supply.uncertainty_uv * 10 ^ 24) at s.slope_is s.high_is)
    ceil

pub invariant_of-result : goal.invariant_of-result
invariant_of-result c =
    let s = c.args.self.now in
    let i = c.index_of-index.result in
    let at : pos i ≡ c.args.x +ℤ pos (2 ^ 31) = search rules in
    let fits_lo : FitsSigned w128 c.sum_down.result = search rules in
    let fits_hi : FitsSigned w128 c.sum_up.result = search rules in
    record {
      ordered = simp to_z-of_z (ends_order ((c.args.x *ℤ s.factor +ℤ s.offset) *ℤ pos (microvolts s.unit)) _ _ (s.supply.uncertainty_uv * 10 ^ 24) (1000 * s.supply.nominal_mv * 10 ^ 24) (omega arith) (low_is s c.args.x c.sum_down.result i at c.sum_down.ensures) (high_is s c.args.x c.sum_up.result i at c.sum_up.ensures));
    }

pub returns : goal.returns
returns c =
    let s = c.args.self.now in
    let i = c.index_of-index.result in
    let at : pos i ≡ c.args.x +ℤ pos (2 ^ 31) = search rules in
    let fits_lo : FitsSigned w128 c.sum_down.result = search rules in
    let fits_hi : FitsSigned w128 c.sum_up.result = search rules in
    record {
      down = simp to_z-of_z (low_is s c.args.x c.sum_down.result i at c.sum_down.ensures);
      up = simp to_z-of_z (high_is s c.args.x c.sum_up.result i at c.sum_up.ensures);
    }
