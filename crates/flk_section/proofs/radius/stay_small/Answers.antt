use Rattle.std.proofs.Common.{rules, ◌≡◌, ◌+◌, ◌^◌, false, true, List, [], ◌∷◌, drop, ℤ, pos, ◌≤ℤ◌, ◌<ℤ◌, ◌↔◌, FitsSigned, to_z, refl, sym, subst}
use Rattle.std.specs.Int.{w128}
use Rattle.std.proofs.lemmas.List.{drop_all}
use Rattle.std.proofs.lemmas.Int.{to_z-of_z}
use Rattle.flk_cert.specs.declared.gain.Gain.{Gain}
use Rattle.flk_cert.specs.Gain.{input_of}
use Rattle.flk_section.specs.Points.{greatest_point}
use Rattle.flk_section.specs.Radius.{radius_after as radius_of}
use Rattle.flk_section.proofs.RadiusLemmas.{StaySmall, small_none, left_split, left_decides, not_left}
use Rattle.flk_section.proofs.radius.stay_small.Goals as goal

pub returns-then-radius-ge-RADIUS_LIMIT : goal.returns-then-radius-ge-RADIUS_LIMIT
returns-then-radius-ge-RADIUS_LIMIT c =
    let gains = c.args.gains.now in
    let i = c.loop-gain.gain-index in
    let g = c.gain-item.result in
    let r : ℤ = to_z w128 c.loop-gain.radius-bits in
    let t = c.radius_after-radius.result in
    let value : t ≡ radius_of g r = c.radius_after-radius.ensures.value in
    let large : pos (2 ^ 60) ≤ℤ t = search rules in
    let left : StaySmall (g ∷ drop (i + 1) gains) r ↔ StaySmall gains (pos greatest_point) =
    subst (λ (gs : List Gain). StaySmall gs r ↔ StaySmall gains (pos greatest_point)) (left_split gains i g c.loop-gain-test.true c.gain-item.is) c.loop-gain.invariant.left in
    (λ (h : false ≡ true). cc, λ h. absurd (not_left g (drop (i + 1) gains) gains r (pos greatest_point) t value large left h))

pub loop-gain-preserved : goal.loop-gain-preserved
loop-gain-preserved c =
    let gains = c.args.gains.now in
    let i = c.loop-gain.gain-index in
    let g = c.gain-item.result in
    let r : ℤ = to_z w128 c.loop-gain.radius-bits in
    let t = c.radius_after-radius.result in
    let value : t ≡ radius_of g r = c.radius_after-radius.ensures.value in
    let fits : FitsSigned w128 t = search rules in
    let input : input_of g <ℤ pos (2 ^ 36) = search rules in
    let small : t <ℤ pos (2 ^ 60) = search rules in
    let left : StaySmall (g ∷ drop (i + 1) gains) r ↔ StaySmall gains (pos greatest_point) =
    subst (λ (gs : List Gain). StaySmall gs r ↔ StaySmall gains (pos greatest_point)) (left_split gains i g c.loop-gain-test.true c.gain-item.is) c.loop-gain.invariant.left in
    simp to_z-of_z record {
      natural = c.radius_after-radius.ensures.natural;
      small = small;
      left = left_decides g (drop (i + 1) gains) gains r (pos greatest_point) t value input small left;
    }

pub returns : goal.returns
returns c =
    let gains = c.args.gains.now in
    let r : ℤ = to_z w128 c.loop-gain.radius-bits in
    let none : drop c.loop-gain.gain-index gains ≡ [] = drop_all c.loop-gain.gain-index gains c.loop-gain-test.false in
    let all = c.loop-gain.invariant.left.0 (subst (λ (gs : List Gain). StaySmall gs r) (sym none) (small_none r)) in
    (λ h. all, λ h. refl)
