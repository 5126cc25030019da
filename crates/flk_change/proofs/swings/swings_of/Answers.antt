use Rattle.std.proofs.Common.{arith, rules, inl, inr, refl, sym, ◌≡◌, ◌≤◌, ◌∙◌, pos, cond, FitsSigned, to_z}
use Rattle.std.specs.Prelude.{int_lt}
use Rattle.std.specs.Int.{int_max, w128}
use Rattle.std.proofs.lemmas.Int.{ints, to_z-of_z}
use Rattle.flk_change.specs.Pass.{least_swing, greatest_swing}
use Rattle.flk_change.proofs.SwingLemmas.{among_none, among_more, among_end, excesses_none, excesses_more, excesses_end, excesses_few}
use Rattle.flk_change.proofs.PartLemmas.{least_swing_natural, swing_natural, counted_at_most, least_swing_at, greatest_swing_at, furthest_ordered, over_ordered}
use Rattle.flk_change.proofs.swings.swings_of.Goals as goal

pub loop-i-init : goal.loop-i-init
loop-i-init c =
    let f = least_swing c.args.halves.now c.args.level in
    let g = greatest_swing c.args.halves.now c.args.level in
    let a = c.args.first in
    record {
      furthest_low = among_none f a a (omega arith);
      furthest_high = among_none g a a (omega arith);
      certain = sym (excesses_none f a a (omega arith));
      possible = sym (excesses_none g a a (omega arith));
      within = inr refl;
    }

pub overflow_add-certain : goal.overflow_add-certain
overflow_add-certain c =
    let few = excesses_few (least_swing c.args.halves.now c.args.level) c.args.first c.loop-i.i in
    let one : c.counted-certain.result ≤ 1 = counted_at_most c.counted-certain.result _ c.counted-certain.ensures in
    omega (arith, c.loop-i.invariant.certain)

pub overflow_add-possible : goal.overflow_add-possible
overflow_add-possible c =
    let few = excesses_few (greatest_swing c.args.halves.now c.args.level) c.args.first c.loop-i.i in
    let one : c.counted-possible.result ≤ 1 = counted_at_most c.counted-possible.result _ c.counted-possible.ensures in
    omega (arith, c.loop-i.invariant.possible)

pub loop-i-preserved : goal.loop-i-preserved
loop-i-preserved c =
    let halves = c.args.halves.now in
    let level = c.args.level in
    let i = c.loop-i.i in
    let v = c.index-halves-i.result in
    let f = least_swing halves level in
    let g = greatest_swing halves level in
    let a = c.args.first in
    let there = c.index-halves-i.is in
    let away = c.distance-away.result in
    let fits_lo : FitsSigned w128 away.lo = search rules in
    let fits_hi : FitsSigned w128 away.hi = search rules in
    let fits_l : FitsSigned w128 c.max-low.result = search rules in
    let fits_h : FitsSigned w128 c.max-high.result = search rules in
    let at_low : away.lo ≡ f i = c.distance-away.ensures.low ∙ sym (least_swing_at halves level i v (omega arith) there) in
    let at_high : away.hi ≡ g i = c.distance-away.ensures.high ∙ sym (greatest_swing_at halves level i v (omega arith) there) in
    let low : c.max-low.result ≡ int_max (to_z w128 c.loop-i.low-bits) away.lo = simp to_z-of_z at c.max-low.ensures.value in
    let high : c.max-high.result ≡ int_max (to_z w128 c.loop-i.high-bits) away.hi = simp to_z-of_z at c.max-high.ensures.value in
    let certain : c.counted-certain.result ≡ cond (int_lt (pos 33000000) away.lo) 1 0 = simp to_z-of_z at c.counted-certain.ensures in
    let possible : c.counted-possible.result ≡ cond (int_lt (pos 33000000) away.hi) 1 0 = simp to_z-of_z at c.counted-possible.ensures in
    record {
      furthest_low = rw (to_z-of_z w128 c.max-low.result fits_l, low, at_low) (among_more f a i (to_z w128 c.loop-i.low-bits) c.loop-i.auto.i (least_swing_natural halves level i) c.loop-i.invariant.furthest_low);
      furthest_high = rw (to_z-of_z w128 c.max-high.result fits_h, high, at_high) (among_more g a i (to_z w128 c.loop-i.high-bits) c.loop-i.auto.i (swing_natural halves level i (omega arith)) c.loop-i.invariant.furthest_high);
      certain = rw (certain, at_low) (omega (arith, c.loop-i.invariant.certain, excesses_more f a i c.loop-i.auto.i));
      possible = rw (possible, at_high) (omega (arith, c.loop-i.invariant.possible, excesses_more g a i c.loop-i.auto.i));
      within = inl (omega arith);
    }

pub returns : goal.returns
returns c =
    let f = least_swing c.args.halves.now c.args.level in
    let g = greatest_swing c.args.halves.now c.args.level in
    let done = c.loop-i-test.false in
    let within = c.loop-i.invariant.within in
    let few = excesses_few f c.args.first c.loop-i.i in
    let many = excesses_few g c.args.first c.loop-i.i in
    record {
      furthest_low = among_end f c.args.first c.args.stop c.loop-i.i (to_z w128 c.loop-i.low-bits) done within c.loop-i.invariant.furthest_low;
      furthest_high = among_end g c.args.first c.args.stop c.loop-i.i (to_z w128 c.loop-i.high-bits) done within c.loop-i.invariant.furthest_high;
      certain = omega (arith, ints, c.loop-i.invariant.certain, excesses_end f c.args.first c.args.stop c.loop-i.i done within);
      possible = omega (arith, ints, c.loop-i.invariant.possible, excesses_end g c.args.first c.args.stop c.loop-i.i done within);
    }

pub invariant_of-result : goal.invariant_of-result
invariant_of-result c =
    let f = least_swing c.args.halves.now c.args.level in
    let g = greatest_swing c.args.halves.now c.args.level in
    let done = c.loop-i-test.false in
    let within = c.loop-i.invariant.within in
    record {
      ordered =
          omega (
            arith,
            ints,
            furthest_ordered c.args.halves.now c.args.level c.args.first c.args.stop (to_z w128 c.loop-i.low-bits) (to_z w128 c.loop-i.high-bits) c.requires.within
                (among_end f c.args.first c.args.stop c.loop-i.i (to_z w128 c.loop-i.low-bits) done within c.loop-i.invariant.furthest_low)
                (among_end g c.args.first c.args.stop c.loop-i.i (to_z w128 c.loop-i.high-bits) done within c.loop-i.invariant.furthest_high),
          );
    }

pub invariant_of-result-2 : goal.invariant_of-result-2
invariant_of-result-2 c =
    let f = least_swing c.args.halves.now c.args.level in
    let g = greatest_swing c.args.halves.now c.args.level in
    let done = c.loop-i-test.false in
    let within = c.loop-i.invariant.within in
    record {
      ordered =
          omega (
            arith,
            ints,
            c.loop-i.invariant.certain,
            c.loop-i.invariant.possible,
            excesses_end f c.args.first c.args.stop c.loop-i.i done within,
            excesses_end g c.args.first c.args.stop c.loop-i.i done within,
            excesses_few f c.args.first c.loop-i.i,
            excesses_few g c.args.first c.loop-i.i,
            over_ordered c.args.halves.now c.args.level c.args.first c.args.stop c.requires.within,
          );
    }
