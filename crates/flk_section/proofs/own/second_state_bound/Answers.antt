use Rattle.std.proofs.Common.{rules, ◌≡◌, false, ℤ, FitsSigned, sym, ap, subst, ◌∙◌}
use Rattle.std.specs.Int.{w128}
use Rattle.std.proofs.lemmas.Int.{to_z-of_z}
use Rattle.flk_cert.specs.declared.coefs.Coefs.{Coefs}
use Rattle.flk_cert.specs.Gain.{coefs_of, gain_numbers, first_input_of, first_rounding_of, second_input_of, second_rounding_of}
use Rattle.flk_section.specs.OwnBounds.{state_bound, second_with_first, has_one_row}
use Rattle.flk_section.proofs.OwnLemmas.{second_is_several}
use Rattle.flk_section.proofs.own.second_state_bound.Goals as goal

pub returns-clause-value : goal.returns-clause-value
returns-clause-value c =
    let gain = c.args.gain.now in
    let b = c.args.b in
    let g = c.second_with_first.result in
    let h = c.second_with_first-2.result in
    let fits_g : FitsSigned w128 g = search rules in
    let fits_h : FitsSigned w128 h = search rules in
    let e1 : g ≡ second_with_first c.coefs-a1.result.a1 c.second-second_g.result.0 c.first-g.result.0 = search rules in
    let e2 : h ≡ second_with_first c.coefs-a1.result.a1 c.second-second_g.result.1 c.first-g.result.1 = search rules in
    let k : c.coefs-a1.result ≡ coefs_of gain = search rules in
    let s1 : c.second-second_g.result.0 ≡ second_input_of gain = search rules in
    let s2 : c.second-second_g.result.1 ≡ second_rounding_of gain = search rules in
    let f1 : c.first-g.result.0 ≡ first_input_of gain = search rules in
    let f2 : c.first-g.result.1 ≡ first_rounding_of gain = search rules in
    let at : (j : Coefs) (x y : ℤ) → c.coefs-a1.result ≡ j → c.second-second_g.result.0 ≡ x → c.first-g.result.0 ≡ y → g ≡ second_with_first j.a1 x y =
    λ j x y i m n. subst (λ (q : Coefs). g ≡ second_with_first q.a1 x y) i (subst (λ (q : ℤ). g ≡ second_with_first c.coefs-a1.result.a1 q y) m (subst (λ (q : ℤ). g ≡ second_with_first c.coefs-a1.result.a1 c.second-second_g.result.0 q) n e1)) in
    let of : (j : Coefs) (x y : ℤ) → c.coefs-a1.result ≡ j → c.second-second_g.result.1 ≡ x → c.first-g.result.1 ≡ y → h ≡ second_with_first j.a1 x y =
    λ j x y i m n. subst (λ (q : Coefs). h ≡ second_with_first q.a1 x y) i (subst (λ (q : ℤ). h ≡ second_with_first c.coefs-a1.result.a1 q y) m (subst (λ (q : ℤ). h ≡ second_with_first c.coefs-a1.result.a1 c.second-second_g.result.1 q) n e2)) in
    let v : c.state_bound.result ≡ state_bound g h b = simp to_z-of_z at c.state_bound.ensures.value in
    let several : has_one_row (gain_numbers gain) ≡ false = sym c.has_one_row.ensures ∙ c.if-has_one_row.false in
    let gs : ℤ = second_with_first (coefs_of gain).a1 (second_input_of gain) (first_input_of gain) in
    let hs : ℤ = second_with_first (coefs_of gain).a1 (second_rounding_of gain) (first_rounding_of gain) in
    let eg : g ≡ gs = at (coefs_of gain) (second_input_of gain) (first_input_of gain) k s1 f1 in
    let eh : h ≡ hs = of (coefs_of gain) (second_rounding_of gain) (first_rounding_of gain) k s2 f2 in
    v ∙ ap (λ (z : ℤ). state_bound z h b) eg ∙ ap (λ (z : ℤ). state_bound gs z b) eh ∙ sym (second_is_several gain b several)
