use Rattle.std.proofs.Common.{◌≡◌, ◌^◌, ◌<◌, ℤ, pos, ◌+ℤ◌, ◌*ℤ◌, FitsSigned, sym, ap, subst, ◌∙◌, arith}
use Rattle.std.specs.Int.{w128}
use Rattle.std.specs.Int.RustNames.{unsigned_abs}
use Rattle.std.proofs.lemmas.Int.{ints, to_z-of_z}
use Rattle.flk_cert.specs.Gain.{gain_numbers}
use Rattle.flk_section.specs.declared.own.OwnBound.{OwnBound}
use Rattle.flk_section.specs.OwnBounds.{both_bounds, first_state_bound, second_state_bound}
use Rattle.flk_section.specs.Owned.{IsBoundUpTo, part_bound}
use Rattle.flk_section.proofs.OwningLemmas.{small_up, own_same, bound_up_sum}
use Rattle.flk_section.proofs.own.section_bounds.Goals as goal

pub second_state_bound-second-requires : goal.second_state_bound-second-requires
second_state_bound-second-requires c = small_up (2 ^ 93) c.args.b c.requires.bound (c.is_small.ensures.0 c.if-not-is_small.false)

pub output_bound-requires-clause-bound : goal.output_bound-requires-clause-bound
output_bound-requires-clause-bound c = small_up (2 ^ 93) c.args.b c.requires.bound (c.is_small.ensures.0 c.if-not-is_small.false)

pub number_bound-requires-clause-bound : goal.number_bound-requires-clause-bound
number_bound-requires-clause-bound c = small_up (2 ^ 93) c.first_state_bound-first.result c.first_state_bound-first.ensures.range (c.is_small-2.ensures.0 c.if-not-is_small-2.false)

pub number_bound-requires-2-clause-bound : goal.number_bound-requires-2-clause-bound
number_bound-requires-2-clause-bound c =
    small_up (2 ^ 93) c.second_state_bound-second.result c.second_state_bound-second.ensures.range (c.is_small-else-not-is_small-2.ensures.0 c.if-not-is_small-3.false)

pub returns-clause-value : goal.returns-clause-value
returns-clause-value c =
    let g = gain_numbers c.args.gain.now in
    let f = c.args.part in
    let x = c.number_bound.result in
    let y = c.number_bound-2.result in
    let first : c.first_state_bound-first.result ≡ first_state_bound g c.args.b = c.first_state_bound-first.ensures.value in
    let second : c.second_state_bound-second.result ≡ second_state_bound g c.args.b = c.second_state_bound-second.ensures.value in
    let su : unsigned_abs f.u < 2 ^ 60 = c.requires.part.u in
    let sv : unsigned_abs f.v < 2 ^ 60 = c.requires.part.v in
    let fits_u : FitsSigned w128 f.u = omega (arith, ints, su) in
    let fits_v : FitsSigned w128 f.v = omega (arith, ints, sv) in
    let xi : x.input ≡ pos (unsigned_abs f.u) *ℤ c.first_state_bound-first.result.input = simp to_z-of_z at c.number_bound.ensures.input in
    let xr : x.rounding ≡ pos (unsigned_abs f.u) *ℤ c.first_state_bound-first.result.rounding = simp to_z-of_z at c.number_bound.ensures.rounding in
    let yi : y.input ≡ pos (unsigned_abs f.v) *ℤ c.second_state_bound-second.result.input = simp to_z-of_z at c.number_bound-2.ensures.input in
    let yr : y.rounding ≡ pos (unsigned_abs f.v) *ℤ c.second_state_bound-second.result.rounding = simp to_z-of_z at c.number_bound-2.ensures.rounding in
    let ei : x.input +ℤ y.input ≡ (part_bound g c.args.b f).input =
    ap (λ (z : ℤ). z +ℤ y.input) (xi ∙ ap (λ (o : OwnBound). pos (unsigned_abs f.u) *ℤ o.input) first)
    ∙ ap (λ (z : ℤ). pos (unsigned_abs f.u) *ℤ (first_state_bound g c.args.b).input +ℤ z) (yi ∙ ap (λ (o : OwnBound). pos (unsigned_abs f.v) *ℤ o.input) second) in
    let er : x.rounding +ℤ y.rounding ≡ (part_bound g c.args.b f).rounding =
    ap (λ (z : ℤ). z +ℤ y.rounding) (xr ∙ ap (λ (o : OwnBound). pos (unsigned_abs f.u) *ℤ o.rounding) first)
    ∙ ap (λ (z : ℤ). pos (unsigned_abs f.u) *ℤ (first_state_bound g c.args.b).rounding +ℤ z) (yr ∙ ap (λ (o : OwnBound). pos (unsigned_abs f.v) *ℤ o.rounding) second) in
    let sum : c.sum.result ≡ both_bounds x y = c.sum.ensures in
    record {
      output = c.output_bound.ensures.value;
      part = sum ∙ own_same (both_bounds x y) (part_bound g c.args.b f) ei er;
      small_output = c.output_bound.ensures.range;
      small_part = subst (IsBoundUpTo (2 ^ 121)) (sym sum) (bound_up_sum x y (2 ^ 120) (2 ^ 120) (2 ^ 121) c.number_bound.ensures.range c.number_bound-2.ensures.range (omega arith));
    }
