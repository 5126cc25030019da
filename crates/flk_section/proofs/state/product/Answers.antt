use Rattle.std.proofs.Common.{rules, ◌≡◌, ◌+◌, ◌*◌, ◌^◌, ◌≤◌, ℤ, ◌*ℤ◌, FitsSigned, sym, subst, arith}
use Rattle.std.specs.Int.{w128}
use Rattle.std.specs.Int.Signed.{shr_z}
use Rattle.std.specs.Int.RustNames.{unsigned_abs}
use Rattle.std.proofs.lemmas.Int.{ints, to_z-of_z, fits_signed_mul}
use Rattle.flk_section.proofs.RangeLemmas.{product_small, shift_is}
use Rattle.flk_section.proofs.state.product.Goals as goal

shift_small : (k v : ℤ) → unsigned_abs k ≤ 2 ^ 33 → unsigned_abs (shr_z (k *ℤ v) (2 ^ 32)) ≤ 2 * unsigned_abs v + 1
shift_small k v h = subst (λ (z : ℤ). unsigned_abs z ≤ 2 * unsigned_abs v + 1) (sym (shift_is (k *ℤ v))) (product_small k v h)

pub returns-clause-small : goal.returns-clause-small
returns-clause-small c =
    let a : c.from.result ≡ c.args.k = search rules in
    let fits_k : FitsSigned w128 c.args.k = search rules in
    let fits_v : FitsSigned w128 c.args.v = search rules in
    let fits : FitsSigned w128 (c.args.k *ℤ c.args.v) = fits_signed_mul w128 c.args.k c.args.v (2 ^ 33) (2 ^ 67) c.requires.coefficient c.requires.value (omega arith) in
    let small = shift_small c.args.k c.args.v c.requires.coefficient in
    let shifted : FitsSigned w128 (shr_z (c.args.k *ℤ c.args.v) (2 ^ 32)) = omega (arith, ints, small, c.requires.value) in
    rw a (simp to_z-of_z small)
