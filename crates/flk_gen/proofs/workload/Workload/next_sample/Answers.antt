use Rattle.std.proofs.Common.{rules, arith, refl, ◌≡◌, ◌<◌, FitsSigned, to_z-of_z}
use Rattle.std.specs.Int.{w32}
use Rattle.flk_gen.specs.Workload.{value}
use Rattle.flk_gen.proofs.workload.Workload.next_sample.Goals as goal

pub returns-clause-some : goal.returns-clause-some
returns-clause-some c = λ seed all n stands.
    let less : n < all = omega (arith, stands.within, stands.given, stands.all_is, c.if-self.false) in
    let fits_a : FitsSigned w32 c.value.result = search rules in
    let fits_b : FitsSigned w32 c.value-2.result = search rules in
    let fits_c : FitsSigned w32 c.value-3.result = search rules in
    let a : c.value.result ≡ value seed 0 n = c.value.ensures.value seed all n stands in
    let b : c.value-2.result ≡ value seed 1 n = c.value-2.ensures.value seed all n stands in
    let c' : c.value-3.result ≡ value seed 2 n = c.value-3.ensures.value seed all n stands in
    (less, simp to_z-of_z (rw (a, b, c') refl), c.step.ensures.stands seed all n stands)
