use Rattle.std.proofs.Common.{rules, ◌≡◌, ◌^◌, ℤ, pos, ◌+ℤ◌, ◌*ℤ◌, FitsSigned, to_z, sym, ap, subst, ◌∙◌, arith}
use Rattle.std.specs.Int.{w128}
use Rattle.std.proofs.lemmas.Int.{ints, to_z-of_z, to_z_pos}
use Rattle.flk_exact.specs.Rounding.{ceil_of}
use Rattle.flk_cert.specs.Row.{IsUpTo}
use Rattle.flk_section.specs.Chain.{chain_samples}
use Rattle.flk_section.proofs.OwningLemmas.{ceil_up_to, natural_up_to, up_sum}
use Rattle.flk_section.proofs.chain.input_of_all.Goals as goal

pub returns-clause-value : goal.returns-clause-value
returns-clause-value c =
    let a = c.args.weights in
    let x = c.rounded_up.result in
    let y = c.rounded_up-2.result in
    let all : c.all_samples.result ≡ pos chain_samples *ℤ c.args.signals = search rules in
    let range : IsUpTo (2 ^ 111) c.all_samples.result = search rules in
    let fits_all : FitsSigned w128 c.all_samples.result = search rules in
    let fits_form : FitsSigned w128 c.args.form = search rules in
    let ex : x ≡ ceil_of c.all_samples.result (pos (2 ^ 32)) = simp to_z-of_z at c.rounded_up.ensures.value in
    let ey : y ≡ ceil_of c.args.form (pos (2 ^ 32)) = simp to_z-of_z at c.rounded_up-2.ensures.value in
    let rx : IsUpTo (2 ^ 80) x = subst (IsUpTo (2 ^ 80)) (sym ex) (ceil_up_to (2 ^ 111) (2 ^ 80) c.all_samples.result range (omega arith)) in
    let ry : IsUpTo (2 ^ 93) y = subst (IsUpTo (2 ^ 93)) (sym ey) (ceil_up_to (2 ^ 124) (2 ^ 93) c.args.form c.requires.form (omega arith)) in
    let wz : to_z w128 a ≡ pos a = to_z_pos w128 a (omega (arith, c.requires.weights)) in
    let ra : IsUpTo (2 ^ 90) (to_z w128 a) = subst (IsUpTo (2 ^ 90)) (sym wz) (natural_up_to a (2 ^ 90) c.requires.weights) in
    let one = up_sum (to_z w128 a) x (2 ^ 90) (2 ^ 80) (2 ^ 91) ra rx (omega arith) in
    let two = up_sum (to_z w128 a +ℤ x) y (2 ^ 91) (2 ^ 93) (2 ^ 100) one ry (omega arith) in
    let ol = one.low in
    let oh = one.high in
    let tl = two.low in
    let th = two.high in
    let fx : FitsSigned w128 x = search rules in
    let fy : FitsSigned w128 y = search rules in
    let fone : FitsSigned w128 (to_z w128 a +ℤ x) = omega (arith, ints, ol, oh) in
    let ftwo : FitsSigned w128 (to_z w128 a +ℤ x +ℤ y) = omega (arith, ints, tl, th) in
    let is : to_z w128 a +ℤ x +ℤ y ≡ pos a +ℤ ceil_of (pos chain_samples *ℤ c.args.signals) (pos (2 ^ 32)) +ℤ ceil_of c.args.form (pos (2 ^ 32)) =
    ap (λ (z : ℤ). z +ℤ x +ℤ y) wz ∙ ap (λ (z : ℤ). pos a +ℤ z +ℤ y) (ex ∙ ap (λ (z : ℤ). ceil_of z (pos (2 ^ 32))) all)
    ∙ ap (λ (z : ℤ). pos a +ℤ ceil_of (pos chain_samples *ℤ c.args.signals) (pos (2 ^ 32)) +ℤ z) ey in
    simp to_z-of_z is

pub returns-clause-range : goal.returns-clause-range
returns-clause-range c =
    let a = c.args.weights in
    let x = c.rounded_up.result in
    let y = c.rounded_up-2.result in
    let all : c.all_samples.result ≡ pos chain_samples *ℤ c.args.signals = search rules in
    let range : IsUpTo (2 ^ 111) c.all_samples.result = search rules in
    let fits_all : FitsSigned w128 c.all_samples.result = search rules in
    let fits_form : FitsSigned w128 c.args.form = search rules in
    let ex : x ≡ ceil_of c.all_samples.result (pos (2 ^ 32)) = simp to_z-of_z at c.rounded_up.ensures.value in
    let ey : y ≡ ceil_of c.args.form (pos (2 ^ 32)) = simp to_z-of_z at c.rounded_up-2.ensures.value in
    let rx : IsUpTo (2 ^ 80) x = subst (IsUpTo (2 ^ 80)) (sym ex) (ceil_up_to (2 ^ 111) (2 ^ 80) c.all_samples.result range (omega arith)) in
    let ry : IsUpTo (2 ^ 93) y = subst (IsUpTo (2 ^ 93)) (sym ey) (ceil_up_to (2 ^ 124) (2 ^ 93) c.args.form c.requires.form (omega arith)) in
    let wz : to_z w128 a ≡ pos a = to_z_pos w128 a (omega (arith, c.requires.weights)) in
    let ra : IsUpTo (2 ^ 90) (to_z w128 a) = subst (IsUpTo (2 ^ 90)) (sym wz) (natural_up_to a (2 ^ 90) c.requires.weights) in
    let one = up_sum (to_z w128 a) x (2 ^ 90) (2 ^ 80) (2 ^ 91) ra rx (omega arith) in
    let two = up_sum (to_z w128 a +ℤ x) y (2 ^ 91) (2 ^ 93) (2 ^ 100) one ry (omega arith) in
    let ol = one.low in
    let oh = one.high in
    let tl = two.low in
    let th = two.high in
    let fx : FitsSigned w128 x = search rules in
    let fy : FitsSigned w128 y = search rules in
    let fone : FitsSigned w128 (to_z w128 a +ℤ x) = omega (arith, ints, ol, oh) in
    let ftwo : FitsSigned w128 (to_z w128 a +ℤ x +ℤ y) = omega (arith, ints, tl, th) in
    simp to_z-of_z two
