use Rattle.std.proofs.Common.{rules, ◌≡◌, ◌^◌, ◌-◌, ℤ, pos, ◌+ℤ◌, ◌*ℤ◌, FitsSigned, to_z, sym, ap, subst, ◌∙◌, arith}
use Rattle.std.specs.Int.{w128}
use Rattle.std.proofs.lemmas.Int.{ints, to_z-of_z, to_z_pos}
use Rattle.flk_exact.specs.Rounding.{ceil_of}
use Rattle.flk_cert.specs.Row.{IsUpTo}
use Rattle.flk_section.specs.Chain.{chain_samples}
use Rattle.flk_section.proofs.OwningLemmas.{ceil_up_to, natural_up_to, up_sum}
use Rattle.flk_section.proofs.chain.rounding_of_all.Goals as goal

pub rounded_up-requires : goal.rounded_up-requires
rounded_up-requires c =
    let a = c.args.shares in
    let all : c.all_samples.result ≡ pos chain_samples *ℤ c.args.signals = search rules in
    let range : IsUpTo (2 ^ 111) c.all_samples.result = search rules in
    let fits_all : FitsSigned w128 c.all_samples.result = search rules in
    let fits_form : FitsSigned w128 c.args.form = search rules in
    let wz : to_z w128 a ≡ pos a = to_z_pos w128 a (omega (arith, c.requires.shares)) in
    let ra : IsUpTo (2 ^ 90) (to_z w128 a) = subst (IsUpTo (2 ^ 90)) (sym wz) (natural_up_to a (2 ^ 90) c.requires.shares) in
    let one = up_sum (to_z w128 a) c.all_samples.result (2 ^ 90) (2 ^ 111) (2 ^ 112) ra range (omega arith) in
    let two = up_sum (to_z w128 a +ℤ c.all_samples.result) c.args.form (2 ^ 112) (2 ^ 124) (2 ^ 125 - 2 ^ 32) one c.requires.form (omega arith) in
    let ol = one.low in
    let oh = one.high in
    let tl = two.low in
    let th = two.high in
    let fone : FitsSigned w128 (to_z w128 a +ℤ c.all_samples.result) = omega (arith, ints, ol, oh) in
    let ftwo : FitsSigned w128 (to_z w128 a +ℤ c.all_samples.result +ℤ c.args.form) = omega (arith, ints, tl, th) in
    simp to_z-of_z (omega (arith, ints, tl, th))

pub returns-clause-value : goal.returns-clause-value
returns-clause-value c =
    let a = c.args.shares in
    let all : c.all_samples.result ≡ pos chain_samples *ℤ c.args.signals = search rules in
    let range : IsUpTo (2 ^ 111) c.all_samples.result = search rules in
    let fits_all : FitsSigned w128 c.all_samples.result = search rules in
    let fits_form : FitsSigned w128 c.args.form = search rules in
    let wz : to_z w128 a ≡ pos a = to_z_pos w128 a (omega (arith, c.requires.shares)) in
    let ra : IsUpTo (2 ^ 90) (to_z w128 a) = subst (IsUpTo (2 ^ 90)) (sym wz) (natural_up_to a (2 ^ 90) c.requires.shares) in
    let one = up_sum (to_z w128 a) c.all_samples.result (2 ^ 90) (2 ^ 111) (2 ^ 112) ra range (omega arith) in
    let two = up_sum (to_z w128 a +ℤ c.all_samples.result) c.args.form (2 ^ 112) (2 ^ 124) (2 ^ 125 - 2 ^ 32) one c.requires.form (omega arith) in
    let ol = one.low in
    let oh = one.high in
    let tl = two.low in
    let th = two.high in
    let fone : FitsSigned w128 (to_z w128 a +ℤ c.all_samples.result) = omega (arith, ints, ol, oh) in
    let ftwo : FitsSigned w128 (to_z w128 a +ℤ c.all_samples.result +ℤ c.args.form) = omega (arith, ints, tl, th) in
    let ex : c.rounded_up.result ≡ ceil_of (to_z w128 a +ℤ c.all_samples.result +ℤ c.args.form) (pos (2 ^ 32)) = simp to_z-of_z at c.rounded_up.ensures.value in
    let fx : FitsSigned w128 c.rounded_up.result = search rules in
    let is : c.rounded_up.result ≡ ceil_of (pos a +ℤ pos chain_samples *ℤ c.args.signals +ℤ c.args.form) (pos (2 ^ 32)) =
    ex ∙ ap (λ (z : ℤ). ceil_of (z +ℤ c.all_samples.result +ℤ c.args.form) (pos (2 ^ 32))) wz ∙ ap (λ (z : ℤ). ceil_of (pos a +ℤ z +ℤ c.args.form) (pos (2 ^ 32))) all in
    simp to_z-of_z is

pub returns-clause-range : goal.returns-clause-range
returns-clause-range c =
    let a = c.args.shares in
    let all : c.all_samples.result ≡ pos chain_samples *ℤ c.args.signals = search rules in
    let range : IsUpTo (2 ^ 111) c.all_samples.result = search rules in
    let fits_all : FitsSigned w128 c.all_samples.result = search rules in
    let fits_form : FitsSigned w128 c.args.form = search rules in
    let wz : to_z w128 a ≡ pos a = to_z_pos w128 a (omega (arith, c.requires.shares)) in
    let ra : IsUpTo (2 ^ 90) (to_z w128 a) = subst (IsUpTo (2 ^ 90)) (sym wz) (natural_up_to a (2 ^ 90) c.requires.shares) in
    let one = up_sum (to_z w128 a) c.all_samples.result (2 ^ 90) (2 ^ 111) (2 ^ 112) ra range (omega arith) in
    let two = up_sum (to_z w128 a +ℤ c.all_samples.result) c.args.form (2 ^ 112) (2 ^ 124) (2 ^ 125 - 2 ^ 32) one c.requires.form (omega arith) in
    let ol = one.low in
    let oh = one.high in
    let tl = two.low in
    let th = two.high in
    let fone : FitsSigned w128 (to_z w128 a +ℤ c.all_samples.result) = omega (arith, ints, ol, oh) in
    let ftwo : FitsSigned w128 (to_z w128 a +ℤ c.all_samples.result +ℤ c.args.form) = omega (arith, ints, tl, th) in
    let ex : c.rounded_up.result ≡ ceil_of (to_z w128 a +ℤ c.all_samples.result +ℤ c.args.form) (pos (2 ^ 32)) = simp to_z-of_z at c.rounded_up.ensures.value in
    let fx : FitsSigned w128 c.rounded_up.result = search rules in
    let rx : IsUpTo (2 ^ 100) c.rounded_up.result = subst (IsUpTo (2 ^ 100)) (sym ex) (ceil_up_to (2 ^ 125 - 2 ^ 32) (2 ^ 100) (to_z w128 a +ℤ c.all_samples.result +ℤ c.args.form) two (omega arith)) in
    simp to_z-of_z rx
