use Rattle.std.proofs.Common.{rules, ◌≡◌, ◌+◌, ◌<◌, pos, length, get_or, refl, sym, ap, subst, ◌∙◌, arith}
use Rattle.flk_cert.specs.Gain.{gain_numbers}
use Rattle.flk_section.specs.declared.own.OwnBound.{OwnBound}
use Rattle.flk_section.specs.OwnBounds.{first_bound, both_bounds}
use Rattle.flk_section.specs.Owned.{IsSectionBounds}
use Rattle.flk_section.proofs.FormLemmas.{gain_at, part_at}
use Rattle.flk_section.proofs.OwningLemmas.{IsOwning, AreSectionBounds, owning_step}
use Rattle.flk_section.proofs.own.own_bounds.Goals as goal

pub loop-i-preserved : goal.loop-i-preserved
loop-i-preserved c =
    let gs = c.args.gains.now in
    let fs = c.args.form in
    let i = c.loop-i.i in
    let g = c.index-gains-i.result in
    let s = c.loop-i.signals in
    let f = c.loop-i.of_form in
    let b = c.loop-i.bound in
    let o = c.in_ok-section.section in
    let six : length fs ≡ 6 = search rules in
    let less : i < 6 = c.loop-i-test.true in
    let section : IsSectionBounds (gain_numbers g) b (get_or fs i (record { u = pos 0; v = pos 0 })) o = c.in_ok-section.ensures.value in
    let small : AreSectionBounds (gain_numbers g) b = c.in_ok-section.ensures.some.0 refl in
    let step = owning_step first_bound gs fs i b s f g _ o (gain_at gs i g (omega (arith, less, c.requires.count)) c.index-gains-i.is) (part_at fs i _ (omega (arith, less, six))) less c.loop-i.invariant small section in
    let es : both_bounds s (both_bounds b o.output) ≡ c.sum-signals.result = sym (c.sum-signals.ensures ∙ ap (λ (x : OwnBound). both_bounds s x) c.sum.ensures) in
    let ef : both_bounds f o.part ≡ c.sum-of_form.result = sym c.sum-of_form.ensures in
    subst (λ (x : OwnBound). IsOwning first_bound gs fs (i + 1) o.output x c.sum-of_form.result) es
    (subst (λ (x : OwnBound). IsOwning first_bound gs fs (i + 1) o.output (both_bounds s (both_bounds b o.output)) x) ef step)
