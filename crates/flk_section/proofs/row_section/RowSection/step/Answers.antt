use Rattle.std.proofs.Common.{rules, ◌≡◌, ◌^◌, ◌<◌, ◌≤◌, ℤ, ◌+ℤ◌, FitsSigned, sym, ap, subst, ◌∙◌}
use Rattle.std.specs.Int.{w64}
use Rattle.std.specs.Int.RustNames.{unsigned_abs}
use Rattle.std.proofs.lemmas.Int.{to_z-of_z}
use Rattle.flk_cert.specs.Gain.{coefs_of}
use Rattle.flk_cert.specs.RoundedSection.{State, output, after}
use Rattle.flk_section.specs.Narrow.{as_state}
use Rattle.flk_section.specs.Fine.{AreInputProducts, AreOutputProducts}
use Rattle.flk_section.proofs.NarrowLemmas.{fine_kind, fine_output, fine_first, narrow_after, calm_first, calm_second, calm_output, calm_after}
use Rattle.flk_section.proofs.row_section.RowSection.step.Goals as goal

pub input_products-input-requires-clause-kind : goal.input_products-input-requires-clause-kind
input_products-input-requires-clause-kind c =
    let s = c.args.self.now in
    fine_kind c.args.kind (coefs_of s.gain) s.fine s.is_fine c.requires.kind

pub output_of-output-requires : goal.output_of-output-requires
output_of-output-requires c = calm_first c.args.self.now c.args.mid c.requires.calm

pub output_products-fed_back-requires-clause-kind : goal.output_products-fed_back-requires-clause-kind
output_products-fed_back-requires-clause-kind c =
    let s = c.args.self.now in
    fine_kind c.args.kind (coefs_of s.gain) s.fine s.is_fine c.requires.kind

pub output_products-fed_back-requires-clause-output : goal.output_products-fed_back-requires-clause-output
output_products-fed_back-requires-clause-output c =
    let s = c.args.self.now in
    let k = coefs_of s.gain in
    let X : ℤ = c.args.mid in
    let Y : ℤ = c.output_of-output.result in
    let p = c.input_products-input.result in
    let fits_mid : FitsSigned w64 X = c.ranges.mid in
    let fits : FitsSigned w64 Y = search rules in
    let is : Y ≡ p.b0 +ℤ s.state.s1 = search rules in
    let input : AreInputProducts s.fine X p = simp to_z-of_z at c.input_products-input.ensures in
    let same : Y ≡ output k (as_state s.state) X = is ∙ fine_output k s.fine (as_state s.state) X p s.is_fine input in
    simp to_z-of_z (subst (λ (z : ℤ). unsigned_abs z < 2 ^ 60) (sym same) (calm_output s X c.requires.calm))

pub state_after-self-requires-clause-second : goal.state_after-self-requires-clause-second
state_after-self-requires-clause-second c = calm_second c.args.self.now c.args.mid c.requires.calm

pub state_after-self-requires-clause-small : goal.state_after-self-requires-clause-small
state_after-self-requires-clause-small c =
    let s = c.args.self.now in
    let k = coefs_of s.gain in
    let X : ℤ = c.args.mid in
    let Y : ℤ = c.output_of-output.result in
    let p = c.input_products-input.result in
    let fits_mid : FitsSigned w64 X = c.ranges.mid in
    let fits : FitsSigned w64 Y = search rules in
    let is : Y ≡ p.b0 +ℤ s.state.s1 = search rules in
    let input : AreInputProducts s.fine X p = simp to_z-of_z at c.input_products-input.ensures in
    let same : Y ≡ output k (as_state s.state) X = is ∙ fine_output k s.fine (as_state s.state) X p s.is_fine input in
    let q = c.output_products-fed_back.result in
    let fed_back : AreOutputProducts s.fine Y q = simp to_z-of_z at c.output_products-fed_back.ensures in
    subst (λ (z : ℤ). unsigned_abs z ≤ 2 ^ 61) (sym (fine_first k s.fine (as_state s.state) X Y p q s.is_fine input fed_back same)) (calm_after s X c.requires.calm)

pub returns-clause-stands : goal.returns-clause-stands
returns-clause-stands c = λ Xs stands.
    let s = c.args.self.now in
    let k = coefs_of s.gain in
    let X : ℤ = c.args.mid in
    let Y : ℤ = c.output_of-output.result in
    let p = c.input_products-input.result in
    let fits_mid : FitsSigned w64 X = c.ranges.mid in
    let fits : FitsSigned w64 Y = search rules in
    let is : Y ≡ p.b0 +ℤ s.state.s1 = search rules in
    let input : AreInputProducts s.fine X p = simp to_z-of_z at c.input_products-input.ensures in
    let same : Y ≡ output k (as_state s.state) X = is ∙ fine_output k s.fine (as_state s.state) X p s.is_fine input in
    let q = c.output_products-fed_back.result in
    let fed_back : AreOutputProducts s.fine Y q = simp to_z-of_z at c.output_products-fed_back.ensures in
    let t = c.state_after-self.result in
    let first = c.state_after-self.ensures.first in
    let second = c.state_after-self.ensures.second in
    let made : as_state t ≡ after k (as_state s.state) X = narrow_after k s.fine (as_state s.state) X Y p q t.s1 t.s2 s.is_fine input fed_back same first second in
    made ∙ ap (λ (z : State). after k z X) stands

pub returns-clause-output : goal.returns-clause-output
returns-clause-output c = λ Xs stands.
    let s = c.args.self.now in
    let k = coefs_of s.gain in
    let X : ℤ = c.args.mid in
    let Y : ℤ = c.output_of-output.result in
    let p = c.input_products-input.result in
    let fits_mid : FitsSigned w64 X = c.ranges.mid in
    let fits : FitsSigned w64 Y = search rules in
    let is : Y ≡ p.b0 +ℤ s.state.s1 = search rules in
    let input : AreInputProducts s.fine X p = simp to_z-of_z at c.input_products-input.ensures in
    let same : Y ≡ output k (as_state s.state) X = is ∙ fine_output k s.fine (as_state s.state) X p s.is_fine input in
    simp to_z-of_z (same ∙ ap (λ (z : State). output k z X) stands)
