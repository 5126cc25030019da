use Rattle.std.proofs.Common.{rules, ◌≡◌, ◌^◌, ◌≤◌, ◌+ℤ◌, ◌*ℤ◌, FitsSigned, arith}
use Rattle.std.specs.Int.{w128}
use Rattle.std.specs.Int.RustNames.{unsigned_abs}
use Rattle.std.proofs.lemmas.Int.{ints, to_z-of_z}
use Rattle.std.proofs.Math.IntN.{*ℤ_comm}
use Rattle.flk_exact.proofs.ProductLemmas.{lin}
use Rattle.flk_section.proofs.form.passed_on.Goals as goal

pub overflow_add-result : goal.overflow_add-result
overflow_add-result c =
    let a : unsigned_abs c.times.result ≤ 2 ^ 93 = search rules in
    let b : unsigned_abs c.times-2.result ≤ 2 ^ 93 = search rules in
    let fa : FitsSigned w128 c.times.result = search rules in
    let fb : FitsSigned w128 c.times-2.result = search rules in
    simp to_z-of_z (omega (arith, ints, a, b))

pub overflow_add-result-2 : goal.overflow_add-result-2
overflow_add-result-2 c =
    let a : unsigned_abs c.times.result ≤ 2 ^ 93 = search rules in
    let b : unsigned_abs c.times-2.result ≤ 2 ^ 93 = search rules in
    let d : unsigned_abs c.times-3.result ≤ 2 ^ 93 = search rules in
    let fa : FitsSigned w128 c.times.result = search rules in
    let fb : FitsSigned w128 c.times-2.result = search rules in
    let fd : FitsSigned w128 c.times-3.result = search rules in
    let fab : FitsSigned w128 (c.times.result +ℤ c.times-2.result) = omega (arith, ints, a, b) in
    simp to_z-of_z (omega (arith, ints, a, b, d))

pub returns-clause-value : goal.returns-clause-value
returns-clause-value c =
    let k = c.args.k.now in
    let part = c.args.part in
    let a : unsigned_abs c.times.result ≤ 2 ^ 93 = search rules in
    let b : unsigned_abs c.times-2.result ≤ 2 ^ 93 = search rules in
    let d : unsigned_abs c.times-3.result ≤ 2 ^ 93 = search rules in
    let va : c.times.result ≡ k.b0 *ℤ c.args.out = search rules in
    let vb : c.times-2.result ≡ k.b1 *ℤ part.u = search rules in
    let vd : c.times-3.result ≡ k.b2 *ℤ part.v = search rules in
    let fa : FitsSigned w128 c.times.result = search rules in
    let fb : FitsSigned w128 c.times-2.result = search rules in
    let fd : FitsSigned w128 c.times-3.result = search rules in
    let fab : FitsSigned w128 (c.times.result +ℤ c.times-2.result) = omega (arith, ints, a, b) in
    let fabd : FitsSigned w128 (c.times.result +ℤ c.times-2.result +ℤ c.times-3.result) = omega (arith, ints, a, b, d) in
    let is : c.times.result +ℤ c.times-2.result +ℤ c.times-3.result ≡ c.args.out *ℤ k.b0 +ℤ part.u *ℤ k.b1 +ℤ part.v *ℤ k.b2 =
    omega (arith, lin, va, vb, vd, *ℤ_comm k.b0 c.args.out, *ℤ_comm k.b1 part.u, *ℤ_comm k.b2 part.v) in
    simp to_z-of_z is

pub returns-clause-small : goal.returns-clause-small
returns-clause-small c =
    let a : unsigned_abs c.times.result ≤ 2 ^ 93 = search rules in
    let b : unsigned_abs c.times-2.result ≤ 2 ^ 93 = search rules in
    let d : unsigned_abs c.times-3.result ≤ 2 ^ 93 = search rules in
    let fa : FitsSigned w128 c.times.result = search rules in
    let fb : FitsSigned w128 c.times-2.result = search rules in
    let fd : FitsSigned w128 c.times-3.result = search rules in
    let fab : FitsSigned w128 (c.times.result +ℤ c.times-2.result) = omega (arith, ints, a, b) in
    let fabd : FitsSigned w128 (c.times.result +ℤ c.times-2.result +ℤ c.times-3.result) = omega (arith, ints, a, b, d) in
    simp to_z-of_z (omega (arith, ints, a, b, d))
