use Rattle.std.proofs.Common.{rules, refl, arith, ◌≡◌, ◌∷◌, [], ◌++◌, pos, ◌-ℤ◌, FitsSigned, to_z, of_z, length-append}
use Rattle.std.specs.Int.{w128}
use Rattle.std.proofs.lemmas.Int.{ints, to_z-of_z}
use Rattle.flk_change.proofs.FlagLemmas.{flags_push}
use Rattle.flk_change.proofs.SteadyLemmas.{same_value, turned, stands_push, pushed_flag}
use Rattle.flk_change.proofs.steady.Steady.push.Goals as goal

pub returns-clause-stands : goal.returns-clause-stands
returns-clause-stands c =
    let s = c.args.self.now in
    let half = c.args.half in
    let range = c.requires.in_range in
    let fits_lo : FitsSigned w128 half.lo = search rules in
    let fits_hi : FitsSigned w128 half.hi = search rules in
    let fits_low : FitsSigned w128 (pos 0 -ℤ half.lo) = omega (arith, ints, range.low, range.high, half.ordered) in
    let fits_high : FitsSigned w128 (pos 0 -ℤ half.hi) = omega (arith, ints, range.low, range.high, half.ordered) in
    let low : to_z w128 (of_z w128 (pos 0 -ℤ to_z w128 (of_z w128 half.lo))) ≡ pos 0 -ℤ half.lo = rw (to_z-of_z w128 half.lo fits_lo, to_z-of_z w128 (pos 0 -ℤ half.lo) fits_low) refl in
    let high : to_z w128 (of_z w128 (pos 0 -ℤ to_z w128 (of_z w128 half.hi))) ≡ pos 0 -ℤ half.hi = rw (to_z-of_z w128 half.hi fits_hi, to_z-of_z w128 (pos 0 -ℤ half.hi) fits_high) refl in
    stands_push s _ half
    (record {
      window = refl;
      count = refl;
      least_low = turned s.least_low c.push.new.self _ half.lo c.push.ensures.stands low;
      greatest_low = same_value s.greatest_low c.push-2.new.self _ half.lo c.push-2.ensures.stands (to_z-of_z w128 half.lo fits_lo);
      least_high = turned s.least_high c.push-3.new.self _ half.hi c.push-3.ensures.stands high;
      greatest_high = same_value s.greatest_high c.push-4.new.self _ half.hi c.push-4.ensures.stands (to_z-of_z w128 half.hi fits_hi);
    })

pub returns-clause-flag : goal.returns-clause-flag
returns-clause-flag c = λ window halves h.
    let half = c.args.half in
    let count = length-append halves (half ∷ []) in
    pushed_flag window halves half c.newest_flag.result
    (c.newest_flag.ensures window (halves ++ half ∷ []) (returns-clause-stands c window halves h) (omega (arith, count)))

pub returns-clause-flags : goal.returns-clause-flags
returns-clause-flags c = λ window halves flags h are.
    flags_push window halves flags c.args.half c.newest_flag.result are (returns-clause-flag c window halves h)
