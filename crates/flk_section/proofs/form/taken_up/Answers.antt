use Rattle.std.proofs.Common.{rules, ◌≡◌, ◌^◌, ◌≤◌, pos, ◌-ℤ◌, ◌*ℤ◌, FitsSigned, arith}
use Rattle.std.specs.Int.{w128}
use Rattle.std.specs.Int.RustNames.{unsigned_abs}
use Rattle.std.proofs.lemmas.Int.{ints, to_z-of_z}
use Rattle.flk_exact.proofs.ProductLemmas.{lin}
use Rattle.flk_cert.specs.Row.{fed_back}
use Rattle.flk_section.proofs.form.taken_up.Goals as goal

pub overflow_sub-result-2 : goal.overflow_sub-result-2
overflow_sub-result-2 c =
    let a : unsigned_abs c.times.result ≤ 2 ^ 93 = search rules in
    let b : unsigned_abs c.times-2.result ≤ 2 ^ 93 = search rules in
    let fa : FitsSigned w128 c.times.result = search rules in
    let fb : FitsSigned w128 c.times-2.result = search rules in
    let fn : FitsSigned w128 (pos 0 -ℤ c.times.result) = omega (arith, ints, a) in
    simp to_z-of_z (omega (arith, ints, a, b))

pub returns-clause-value : goal.returns-clause-value
returns-clause-value c =
    let k = c.args.k.now in
    let part = c.args.part in
    let a : unsigned_abs c.times.result ≤ 2 ^ 93 = search rules in
    let b : unsigned_abs c.times-2.result ≤ 2 ^ 93 = search rules in
    let va : c.times.result ≡ k.a1 *ℤ part.u = search rules in
    let vb : c.times-2.result ≡ k.a2 *ℤ part.v = search rules in
    let fa : FitsSigned w128 c.times.result = search rules in
    let fb : FitsSigned w128 c.times-2.result = search rules in
    let fn : FitsSigned w128 (pos 0 -ℤ c.times.result) = omega (arith, ints, a) in
    let f : FitsSigned w128 (pos 0 -ℤ c.times.result -ℤ c.times-2.result) = omega (arith, ints, a, b) in
    let is : pos 0 -ℤ c.times.result -ℤ c.times-2.result ≡ fed_back k part.u part.v = omega (arith, lin, va, vb) in
    simp to_z-of_z is

pub returns-clause-small : goal.returns-clause-small
returns-clause-small c =
    let a : unsigned_abs c.times.result ≤ 2 ^ 93 = search rules in
    let b : unsigned_abs c.times-2.result ≤ 2 ^ 93 = search rules in
    let fa : FitsSigned w128 c.times.result = search rules in
    let fb : FitsSigned w128 c.times-2.result = search rules in
    let fn : FitsSigned w128 (pos 0 -ℤ c.times.result) = omega (arith, ints, a) in
    let f : FitsSigned w128 (pos 0 -ℤ c.times.result -ℤ c.times-2.result) = omega (arith, ints, a, b) in
    simp to_z-of_z (omega (arith, ints, a, b))
