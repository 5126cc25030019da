use Rattle.std.proofs.Common.{rules, ◌≡◌, ◌*◌, ◌^◌, ◌≤◌, ℤ, pos, ◌*ℤ◌, FitsSigned, arith}
use Rattle.std.specs.Int.{w128}
use Rattle.std.specs.Int.RustNames.{unsigned_abs}
use Rattle.std.proofs.Math.Nat.{mul-le-mul_right}
use Rattle.std.proofs.lemmas.Int.{ints, to_z-of_z, unsigned_abs-mul}
use Rattle.flk_section.proofs.narrow.wide_product.Goals as goal

pub returns-clause-small : goal.returns-clause-small
returns-clause-small c =
    let k : ℤ = c.args.k in
    let w : ℤ = pos 8 *ℤ c.args.v in
    let a : c.from.result ≡ k = search rules in
    let b : c.from-2.result ≡ w = search rules in
    let size : unsigned_abs (k *ℤ w) ≡ unsigned_abs k * unsigned_abs w = unsigned_abs-mul k w in
    let most : unsigned_abs k * unsigned_abs w ≤ 2 ^ 62 * unsigned_abs w = mul-le-mul_right (unsigned_abs w) c.requires.coefficient in
    let small : unsigned_abs (k *ℤ w) ≤ 2 ^ 125 = omega (arith, ints, size, most, c.requires.value) in
    let fits_k : FitsSigned w128 k = search rules in
    let fits_w : FitsSigned w128 w = omega (arith, ints, c.requires.value) in
    let fits : FitsSigned w128 (k *ℤ w) = omega (arith, ints, small) in
    rw (a, b) (simp to_z-of_z small)
