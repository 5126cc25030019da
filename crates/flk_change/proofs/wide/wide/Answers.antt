use Rattle.std.proofs.Common.{arith, rules, refl, ◌≡◌, ◌∙◌, ap, pos, ◌-ℤ◌, FitsSigned}
use Rattle.std.specs.Int.{int_max, w128}
use Rattle.std.proofs.lemmas.Int.{ints, to_z-of_z}
use Rattle.flk_change.specs.Resolutions.{greatest_distance}
use Rattle.flk_change.proofs.WideLemmas.{furthest_of, span_in_range}
use Rattle.flk_change.proofs.wide.wide.Goals as goal

pub distance-requires-clause-first : goal.distance-requires-clause-first
distance-requires-clause-first c = span_in_range c.args.halves.now c.span-all.result c.requires.in_range c.span-all.ensures.low c.span-all.ensures.high

pub overflow_sub-width : goal.overflow_sub-width
overflow_sub-width c =
    let range = span_in_range c.args.halves.now c.span-all.result c.requires.in_range c.span-all.ensures.low c.span-all.ensures.high in
    omega (arith, ints, range.low, range.high, c.span-all.result.ordered)

pub invariant_of-result : goal.invariant_of-result
invariant_of-result c =
    let range = span_in_range c.args.halves.now c.span-all.result c.requires.in_range c.span-all.ensures.low c.span-all.ensures.high in
    record { ordered = omega (arith, ints, range.low, range.high, c.span-all.result.ordered) }

pub returns : goal.returns
returns c =
    let all = c.span-all.result in
    let range = span_in_range c.args.halves.now all c.requires.in_range c.span-all.ensures.low c.span-all.ensures.high in
    let fits_lo : FitsSigned w128 all.lo = search rules in
    let fits_hi : FitsSigned w128 all.hi = search rules in
    let fits_width : FitsSigned w128 (all.hi -ℤ all.lo) = omega (arith, ints, range.low, range.high, all.ordered) in
    let fits_away : FitsSigned w128 c.distance.result.hi = search rules in
    let fits_max : FitsSigned w128 c.max.result = search rules in
    let away : c.distance.result.hi ≡ greatest_distance all.lo all.hi (pos 1000000000) (pos 1000000000) = c.distance.ensures.high in
    let greatest : c.max.result ≡ int_max (all.hi -ℤ all.lo) c.distance.result.hi = simp to_z-of_z at c.max.ensures.value in
    record {
      least = all.lo;
      greatest = all.hi;
      is_least = c.span-all.ensures.low;
      is_greatest = c.span-all.ensures.high;
      dc_low = refl;
      dc_high = simp to_z-of_z refl;
      dmax_low = refl;
      dmax_high = rw (to_z-of_z w128 c.max.result fits_max) (furthest_of c.args.halves.now all.lo all.hi c.max.result c.span-all.ensures.low c.span-all.ensures.high (greatest ∙ ap (int_max (all.hi -ℤ all.lo)) away));
      t_low = refl;
      t_high = omega (arith, ints);
    }
