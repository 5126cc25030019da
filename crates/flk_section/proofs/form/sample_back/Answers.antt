use Rattle.std.proofs.Common.{rules, ◌≡◌, ◌+◌, ◌-◌, ◌<◌, ℕ, pos, None, length, map, get_or, FitsSigned, to_z, refl, sym, subst, ◌∙◌, arith}
use Rattle.std.specs.Int.{w128}
use Rattle.std.proofs.lemmas.Int.{to_z-of_z}
use Rattle.flk_cert.specs.Gain.{gain_numbers}
use Rattle.flk_section.specs.Forms.{AreSmallNumbers}
use Rattle.flk_section.specs.Followed.{IsSectionBack}
use Rattle.flk_section.proofs.Held.{none_iff}
use Rattle.flk_section.proofs.FormLemmas.{IsBack, IsSmallSection, back_start, back_step, not_back, part_at, gain_at, before_one}
use Rattle.flk_section.proofs.form.sample_back.Goals as goal

pub loop-left-init : goal.loop-left-init
loop-left-init c =
    let fits : FitsSigned w128 c.args.z = search rules in
    let six : length c.args.form ≡ 6 = search rules in
    simp to_z-of_z (back_start c.args.z c.args.gains.now c.args.form c.requires.count six c.requires.form c.requires.z)

pub loop-left-preserved : goal.loop-left-preserved
loop-left-preserved c =
    let gs = c.args.gains.now in
    let fs = c.args.form in
    let i = c.loop-left.left - 1 in
    let g = c.index-gains-left.result in
    let s = c.in_ok-section.section in
    let w = to_z w128 c.loop-left.weight-bits in
    let fits : FitsSigned w128 c.args.z = search rules in
    let six : length fs ≡ 6 = search rules in
    let one : i + 1 ≡ c.loop-left.left = before_one c.loop-left.left c.loop-left-test.true in
    let back : IsBack c.args.z gs fs c.loop-left.before c.loop-left.left w c.loop-left.share = simp to_z-of_z at c.loop-left.invariant in
    let at : IsBack c.args.z gs fs c.loop-left.before (i + 1) w c.loop-left.share = subst (λ (n : ℕ). IsBack c.args.z gs fs c.loop-left.before n w c.loop-left.share) (sym one) back in
    let few = back.few in
    let less : i < 6 = omega (arith, few, one) in
    let section : IsSectionBack (gain_numbers g) w (get_or fs i (record { u = pos 0; v = pos 0 })) s = c.in_ok-section.ensures.value in
    let small : IsSmallSection (gain_numbers g) w (get_or fs i (record { u = pos 0; v = pos 0 })) = c.in_ok-section.ensures.some.0 refl in
    let small_number = section.small_number in
    let fits_number : FitsSigned w128 s.number = search rules in
    simp to_z-of_z
    (back_step c.args.z gs fs c.loop-left.before i w c.loop-left.share g _ s (gain_at gs i g (omega (arith, less, c.requires.count)) c.index-gains-left.is) (part_at fs i _ (omega (arith, less, six))) less at small section)

pub returns-in_err-section-clause-some : goal.returns-in_err-section-clause-some
returns-in_err-section-clause-some c =
    let gs = c.args.gains.now in
    let fs = c.args.form in
    let i = c.loop-left.left - 1 in
    let g = c.index-gains-left.result in
    let w = to_z w128 c.loop-left.weight-bits in
    let fits : FitsSigned w128 c.args.z = search rules in
    let six : length fs ≡ 6 = search rules in
    let one : i + 1 ≡ c.loop-left.left = before_one c.loop-left.left c.loop-left-test.true in
    let back : IsBack c.args.z gs fs c.loop-left.before c.loop-left.left w c.loop-left.share = simp to_z-of_z at c.loop-left.invariant in
    let at : IsBack c.args.z gs fs c.loop-left.before (i + 1) w c.loop-left.share = subst (λ (n : ℕ). IsBack c.args.z gs fs c.loop-left.before n w c.loop-left.share) (sym one) back in
    let few = back.few in
    let less : i < 6 = omega (arith, few, one) in
    let large : ¬ IsSmallSection (gain_numbers g) w (get_or fs i (record { u = pos 0; v = pos 0 })) = (λ h. let t = c.in_err-section.ensures.some.1 h in cc) in
    let never : ¬ AreSmallNumbers c.args.z (map gain_numbers gs) fs =
    not_back c.args.z gs fs c.loop-left.before i w c.loop-left.share g _ (gain_at gs i g (omega (arith, less, c.requires.count)) c.index-gains-left.is) (part_at fs i _ (omega (arith, less, six))) (c.requires.count ∙ sym six) at large in
    let none : c.from_residual.result ≡ None = search rules in
    none_iff c.from_residual.result none never
