use Rattle.std.proofs.Common.{rules, arith, pos, ◌-ℤ◌, map, neg_ℤ, FitsSigned}
use Rattle.std.specs.Int.{w128}
use Rattle.std.proofs.lemmas.Int.{ints, to_z-of_z}
use Rattle.flk_num.specs.Interval.{lows, highs}
use Rattle.flk_change.proofs.ExtremeLemmas.{newest_extremes}
use Rattle.flk_change.proofs.steady.Steady.extremes.Goals as goal

pub returns-clause-extremes : goal.returns-clause-extremes
returns-clause-extremes c = λ window halves h.
    let a = c.in_ok-greatest.field-0 in
    let b = c.in_ok-greatest-2.field-0 in
    let u = c.in_ok-greatest-3.field-0 in
    let v = c.in_ok-greatest-4.field-0 in
    let fits_a : FitsSigned w128 a = search rules in
    let fits_b : FitsSigned w128 b = search rules in
    let fits_u : FitsSigned w128 u = search rules in
    let fits_v : FitsSigned w128 v = search rules in
    let turned_a : FitsSigned w128 (pos 0 -ℤ a) = omega (arith, ints, c.in_ok-greatest.ensures.small) in
    let turned_u : FitsSigned w128 (pos 0 -ℤ u) = omega (arith, ints, c.in_ok-greatest-3.ensures.small) in
    rw (to_z-of_z w128 a fits_a, to_z-of_z w128 b fits_b, to_z-of_z w128 u fits_u, to_z-of_z w128 v fits_v, to_z-of_z w128 (pos 0 -ℤ a) turned_a, to_z-of_z w128 (pos 0 -ℤ u) turned_u)
    (newest_extremes window halves a b u v
    (c.in_ok-greatest.ensures.greatest window (map neg_ℤ (lows halves)) h.least_low)
    (c.in_ok-greatest-2.ensures.greatest window (lows halves) h.greatest_low)
    (c.in_ok-greatest-3.ensures.greatest window (map neg_ℤ (highs halves)) h.least_high)
    (c.in_ok-greatest-4.ensures.greatest window (highs halves) h.greatest_high))
