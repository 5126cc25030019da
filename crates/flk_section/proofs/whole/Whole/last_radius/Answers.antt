use Rattle.std.proofs.Common.{rules, ◌≡◌, ◌^◌, ℤ, pos, ◌≤ℤ◌, ◌<ℤ◌, slice_index_or, FitsSigned, sym, ap, subst, ◌∙◌}
use Rattle.std.specs.Int.{w128}
use Rattle.std.proofs.lemmas.Int.{to_z-of_z}
use Rattle.flk_cert.specs.Gain.{input_of}
use Rattle.flk_section.specs.Points.{greatest_point}
use Rattle.flk_section.specs.Radius.{radius_by}
use Rattle.flk_section.specs.Filter.{last_radius}
use Rattle.flk_section.specs.Whole.{numbers_of}
use Rattle.flk_section.proofs.WholeLemmas.{first_by}
use Rattle.flk_section.proofs.ReachedLemmas.{whole_inputs, first_radius_small}
use Rattle.flk_section.proofs.whole.Whole.last_radius.Goals as goal

pub next_radius-first-requires-clause-input_small : goal.next_radius-first-requires-clause-input_small
next_radius-first-requires-clause-input_small c =
    let w = c.args.self.now in
    let fits : FitsSigned w128 c.input.result = search rules in
    let small : input_of (slice_index_or w.gains 0 c.index-self-0.result) <ℤ pos (2 ^ 36) = whole_inputs w 0 c.index-self-0.result w.some in
    simp to_z-of_z (subst (λ (z : ℤ). z <ℤ pos (2 ^ 36)) (sym c.input.ensures.value) small)

pub next_radius-requires-clause-radius_small : goal.next_radius-requires-clause-radius_small
next_radius-requires-clause-radius_small c =
    let w = c.args.self.now in
    let fits : FitsSigned w128 c.next_radius-first.result = search rules in
    let fits_before : FitsSigned w128 c.args.before = search rules in
    let fits_input : FitsSigned w128 c.input.result = search rules in
    let fits_rounding : FitsSigned w128 c.rounding.result = search rules in
    let by : c.next_radius-first.result ≡ radius_by c.input.result c.rounding.result c.args.before = simp to_z-of_z at c.next_radius-first.ensures.value in
    let first = first_by w c.index-self-0.result c.index-self-0-2.result c.args.before c.input.result c.rounding.result c.next_radius-first.result c.input.ensures.value c.rounding.ensures.value by in
    let high : c.args.before ≤ℤ pos greatest_point = record { le = c.requires.small.le } in
    simp to_z-of_z (subst (λ (z : ℤ). z <ℤ pos (2 ^ 60)) (sym first) (first_radius_small w c.args.before high))

pub returns : goal.returns
returns c =
    let w = c.args.self.now in
    let fits_before : FitsSigned w128 c.args.before = search rules in
    let fits_input : FitsSigned w128 c.input.result = search rules in
    let fits_rounding : FitsSigned w128 c.rounding.result = search rules in
    let by : c.next_radius-first.result ≡ radius_by c.input.result c.rounding.result c.args.before = simp to_z-of_z at c.next_radius-first.ensures.value in
    let first = first_by w c.index-self-0.result c.index-self-0-2.result c.args.before c.input.result c.rounding.result c.next_radius-first.result c.input.ensures.value c.rounding.ensures.value by in
    let fits_first : FitsSigned w128 c.next_radius-first.result = search rules in
    let fits_own : FitsSigned w128 w.input = search rules in
    let fits_share : FitsSigned w128 w.rounding = search rules in
    let fits : FitsSigned w128 c.next_radius.result = search rules in
    let is : c.next_radius.result ≡ radius_by w.input w.rounding c.next_radius-first.result = simp to_z-of_z at c.next_radius.ensures.value in
    let all : c.next_radius.result ≡ last_radius (numbers_of w) c.args.before = is ∙ ap (λ (z : ℤ). radius_by w.input w.rounding z) first in
    record { value = simp to_z-of_z all }
