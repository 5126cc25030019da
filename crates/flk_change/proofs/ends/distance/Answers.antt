use Rattle.std.proofs.Common.{arith, rules, ◌≡◌, pos, ◌-ℤ◌, FitsSigned}
use Rattle.std.specs.Int.{int_max, w128}
use Rattle.std.proofs.lemmas.Int.{ints, clamps, to_z-of_z}
use Rattle.flk_change.proofs.ends.distance.Goals as goal

pub invariant_of-result : goal.invariant_of-result
invariant_of-result c = record { ordered = omega (arith, ints, clamps) }

pub returns-clause-low : goal.returns-clause-low
returns-clause-low c =
    let p = c.args.p in
    let q = c.args.q in
    let fits_p : FitsSigned w128 p.lo = search rules in
    let fits_ph : FitsSigned w128 p.hi = search rules in
    let fits_q : FitsSigned w128 q.lo = search rules in
    let fits_qh : FitsSigned w128 q.hi = search rules in
    let fits_a : FitsSigned w128 (p.lo -ℤ q.hi) = omega (arith, ints) in
    let fits_b : FitsSigned w128 (q.lo -ℤ p.hi) = omega (arith, ints) in
    let fits_m : FitsSigned w128 c.max.result = search rules in
    let fits : FitsSigned w128 c.max-2.result = search rules in
    let inner : c.max.result ≡ int_max (p.lo -ℤ q.hi) (q.lo -ℤ p.hi) = simp to_z-of_z at c.max.ensures.value in
    let outer : c.max-2.result ≡ int_max (pos 0) c.max.result = simp to_z-of_z at c.max-2.ensures.value in
    simp to_z-of_z (rw inner at outer)

pub returns-clause-high : goal.returns-clause-high
returns-clause-high c =
    let p = c.args.p in
    let q = c.args.q in
    let fits_p : FitsSigned w128 p.lo = search rules in
    let fits_ph : FitsSigned w128 p.hi = search rules in
    let fits_q : FitsSigned w128 q.lo = search rules in
    let fits_qh : FitsSigned w128 q.hi = search rules in
    let fits_a : FitsSigned w128 (p.hi -ℤ q.lo) = omega (arith, ints) in
    let fits_b : FitsSigned w128 (q.hi -ℤ p.lo) = omega (arith, ints) in
    let fits : FitsSigned w128 c.max-3.result = search rules in
    simp to_z-of_z (simp to_z-of_z at c.max-3.ensures.value)
