use Rattle.std.proofs.Common.{rules, ◌≡◌, ℤ, FitsSigned, sym, ap, subst, ◌∙◌}
use Rattle.std.specs.Int.{w128}
use Rattle.std.proofs.lemmas.Int.{to_z-of_z}
use Rattle.flk_cert.specs.declared.coefs.Coefs.{Coefs}
use Rattle.flk_cert.specs.Gain.{coefs_of, input_of, rounding_of}
use Rattle.flk_cert.specs.RoundedSection.{State, state, output, after}
use Rattle.flk_cert.specs.Bound.{IsErrorWithin}
use Rattle.flk_cert.proofs.GainLemmas.{gain_bounds}
use Rattle.flk_section.specs.Kept.{as_state, IsReachedState}
use Rattle.flk_section.proofs.SectionLemmas.{may_start}
use Rattle.flk_section.proofs.RangeLemmas.{first_small, second_small, reached_after}
use Rattle.flk_section.proofs.section.Section.step.Goals as goal

pub output_of-output-requires-clause-first : goal.output_of-output-requires-clause-first
output_of-output-requires-clause-first c =
    let s = c.args.self.now in
    first_small s.gain s.from_one (as_state s.state) (may_start (coefs_of s.gain) s.from_one s.rests) c.requires.input s.reached

pub state_after-self-requires-clause-second : goal.state_after-self-requires-clause-second
state_after-self-requires-clause-second c =
    let s = c.args.self.now in
    second_small s.gain s.from_one (as_state s.state) (may_start (coefs_of s.gain) s.from_one s.rests) c.requires.input s.reached

pub invariant_of-self : goal.invariant_of-self
invariant_of-self c =
    let s = c.args.self.now in
    let fits : FitsSigned w128 c.args.mid = search rules in
    let k = coefs_of s.gain in
    let made : as_state c.state_after-self.result ≡ after c.coefs-k.result (as_state s.state) c.args.mid = simp to_z-of_z at c.state_after-self.ensures in
    let is : as_state c.state_after-self.result ≡ after k (as_state s.state) c.args.mid = made ∙ ap (λ (j : Coefs). after j (as_state s.state) c.args.mid) c.coefs-k.ensures in
    record {
      rests = s.rests;
      reached = subst (λ (z : State). ∥ IsReachedState k s.from_one z ∥₁) (sym is) (reached_after k s.from_one (as_state s.state) c.args.mid c.requires.mid s.reached);
    }

pub returns-clause-enclosure : goal.returns-clause-enclosure
returns-clause-enclosure c = λ Xs w x y xs ys stands natural run near.
    let s = c.args.self.now in
    let k = coefs_of s.gain in
    let fits : FitsSigned w128 c.args.mid = search rules in
    let made : c.output_of-output.result ≡ output c.coefs-k.result (as_state s.state) c.args.mid = simp to_z-of_z at c.output_of-output.ensures.value in
    let is : c.output_of-output.result ≡ output k (state k s.from_one Xs) c.args.mid =
    made ∙ ap (λ (j : Coefs). output j (as_state s.state) c.args.mid) c.coefs-k.ensures ∙ ap (λ (z : State). output k z c.args.mid) stands in
    let fits_result : FitsSigned w128 c.output_of-output.result = search rules in
    subst (λ (z : ℤ). IsErrorWithin (input_of s.gain) (rounding_of s.gain) w y z) (sym (to_z-of_z w128 c.output_of-output.result fits_result ∙ is))
    (gain_bounds s.gain s.from_one w x y xs ys c.args.mid Xs (may_start k s.from_one s.rests) natural run near)
