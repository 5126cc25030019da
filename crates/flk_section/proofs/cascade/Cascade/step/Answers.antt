use Rattle.std.proofs.Common.{rules, ◌≡◌, ◌^◌, Bool, List, ◌∷◌, map, ℤ, pos, ◌≤ℤ◌, ◌<ℤ◌, FitsSigned, sym, subst, arith}
use Rattle.std.specs.Int.{w64, w128}
use Rattle.std.proofs.lemmas.Int.{ints, to_z-of_z}
use Rattle.std.proofs.lemmas.List.Elements.{All-head}
use Rattle.flk_exact.proofs.WholeLemmas.{≤ℤ_trans}
use Rattle.flk_cert.specs.Gain.{coefs_of}
use Rattle.flk_front.specs.declared.point.Point.{Point}
use Rattle.flk_section.specs.declared.cascade.Cascade.{Cascade}
use Rattle.flk_section.specs.declared.row_section.RowSection.{RowSection}
use Rattle.flk_section.specs.RoundedCascade.{last_output}
use Rattle.flk_section.specs.RowSection.{gain_of}
use Rattle.flk_section.specs.Whole.{gains_of}
use Rattle.flk_section.specs.Row.{StandInRow, AreReady}
use Rattle.flk_section.proofs.RadiusLemmas.{last_radius_natural, last_radius_small}
use Rattle.flk_section.proofs.CascadeLemmas.{answer_holds, answer_holds_signal, answer_is_narrow}
use Rattle.flk_section.proofs.ReachedLemmas.{reached_ready, reached_more, reached_design, answer_of}
use Rattle.flk_section.proofs.cascade.Cascade.step.Goals as goal

pub step_in_row-requires-clause-ready : goal.step_in_row-requires-clause-ready
step_in_row-requires-clause-ready c =
    let k = c.take_radius.new.self in
    let fits : FitsSigned w64 c.narrow-mid.result = search rules in
    let is : c.narrow-mid.result ≡ c.args.p.mid = search rules in
    let ready : ∥ AreReady k.sections c.args.p.mid ∥₁ = reached_ready (gains_of k.whole) k.sections c.args.p c.requires k.reached in
    simp to_z-of_z (subst (λ (z : ℤ). ∥ AreReady k.sections z ∥₁) (sym is) ready)

pub step_in_row-requires-clause-design : goal.step_in_row-requires-clause-design
step_in_row-requires-clause-design c =
    let k = c.take_radius.new.self in
    λ h. reached_design (gains_of k.whole) k.sections k.reached (k.design h)

pub invariant_of-self : goal.invariant_of-self
invariant_of-self c =
    let k = c.take_radius.new.self in
    let fits : FitsSigned w64 c.narrow-mid.result = search rules in
    let is : c.narrow-mid.result ≡ c.args.p.mid = search rules in
    let at : (from_one : Bool) (Xs : List ℤ) → StandInRow from_one k.sections Xs → StandInRow from_one c.step_in_row.new.sections (c.narrow-mid.result ∷ Xs) =
    simp to_z-of_z at c.step_in_row.ensures.stand in
    record {
      design = k.design;
      greatest_low = k.greatest_low;
      greatest_high = k.greatest_high;
      follows = k.follows;
      reached = reached_more (gains_of k.whole) k.sections c.step_in_row.new.sections c.args.p c.requires c.step_in_row.ensures.gains
          (subst (λ (z : ℤ). (from_one : Bool) (Xs : List ℤ) → StandInRow from_one k.sections Xs → StandInRow from_one c.step_in_row.new.sections (z ∷ Xs)) is at) k.reached;
    }

-- ---- the radius that is kept

kept_low : (k : Cascade) → pos 0 ≤ℤ k.radius
kept_low k = subst (λ (z : ℤ). pos 0 ≤ℤ z) (sym k.follows) (last_radius_natural k.whole k.greatest k.greatest_low)

kept_small : (k : Cascade) → k.radius <ℤ pos (2 ^ 60)
kept_small k = subst (λ (z : ℤ). z <ℤ pos (2 ^ 60)) (sym k.follows) (last_radius_small k.whole k.greatest k.greatest_high)

pub returns-clause-radius_low : goal.returns-clause-radius_low
returns-clause-radius_low c =
    let k = c.take_radius.new.self in
    let low : pos 0 ≤ℤ k.radius = kept_low k in
    let small : k.radius <ℤ pos (2 ^ 60) = kept_small k in
    let fits : FitsSigned w128 k.radius = omega (arith, ints, low, small) in
    simp to_z-of_z low

pub returns-clause-radius_small : goal.returns-clause-radius_small
returns-clause-radius_small c =
    let k = c.take_radius.new.self in
    let low : pos 0 ≤ℤ k.radius = kept_low k in
    let small : k.radius <ℤ pos (2 ^ 60) = kept_small k in
    let fits : FitsSigned w128 k.radius = omega (arith, ints, low, small) in
    simp to_z-of_z small

-- ---- the answer

-- Y is the last output for the input X
abbrev AnswersWith : List RowSection → (X Y : ℤ) → Type 0
AnswersWith ss X Y = (from_one : Bool) (Xs : List ℤ) → StandInRow from_one ss Xs → Y ≡ last_output (map coefs_of (map gain_of ss)) from_one Xs X

answers_same : (ss : List RowSection) (X A Y B : ℤ) → X ≡ A → B ≡ Y → AnswersWith ss X Y → AnswersWith ss A B
answers_same ss X A Y B same out h = subst (λ (z : ℤ). AnswersWith ss z B) same (subst (λ (z : ℤ). AnswersWith ss X z) (sym out) h)

pub returns-clause-answer : goal.returns-clause-answer
returns-clause-answer c = λ ps stands.
    let old = c.args.self.now in
    let k = c.take_radius.new.self in
    let fits_mid : FitsSigned w128 c.args.p.mid = search rules in
    let fits_narrow : FitsSigned w64 c.narrow-mid.result = search rules in
    let is : c.narrow-mid.result ≡ c.args.p.mid = search rules in
    let at : AnswersWith k.sections c.narrow-mid.result c.step_in_row.result = simp to_z-of_z at c.step_in_row.ensures.output in
    let out : c.from.result ≡ c.step_in_row.result = search rules in
    let fits_out : FitsSigned w128 c.from.result = search rules in
    let output = answers_same k.sections c.narrow-mid.result c.args.p.mid c.step_in_row.result c.from.result is out at in
    let fits_radius : FitsSigned w128 c.args.p.radius = search rules in
    let low : pos 0 ≤ℤ k.radius = kept_low k in
    let small : k.radius <ℤ pos (2 ^ 60) = kept_small k in
    let fits : FitsSigned w128 k.radius = omega (arith, ints, low, small) in
    simp to_z-of_z (answer_of old k ps c.args.p c.from.result stands c.take_radius.ensures.whole c.take_radius.ensures.sections (simp to_z-of_z at c.take_radius.ensures.greatest) output)

pub returns-clause-enclosure : goal.returns-clause-enclosure
returns-clause-enclosure c = λ ps xs ys y stands inside run.
    let old = c.args.self.now in
    let k = c.take_radius.new.self in
    let fits_mid : FitsSigned w128 c.args.p.mid = search rules in
    let fits_narrow : FitsSigned w64 c.narrow-mid.result = search rules in
    let is : c.narrow-mid.result ≡ c.args.p.mid = search rules in
    let at : AnswersWith k.sections c.narrow-mid.result c.step_in_row.result = simp to_z-of_z at c.step_in_row.ensures.output in
    let out : c.from.result ≡ c.step_in_row.result = search rules in
    let fits_out : FitsSigned w128 c.from.result = search rules in
    let output = answers_same k.sections c.narrow-mid.result c.args.p.mid c.step_in_row.result c.from.result is out at in
    let fits_radius : FitsSigned w128 c.args.p.radius = search rules in
    let low : pos 0 ≤ℤ k.radius = kept_low k in
    let small : k.radius <ℤ pos (2 ^ 60) = kept_small k in
    let fits : FitsSigned w128 k.radius = omega (arith, ints, low, small) in
    let answer = answer_of old k ps c.args.p c.from.result stands c.take_radius.ensures.whole c.take_radius.ensures.sections (simp to_z-of_z at c.take_radius.ensures.greatest) output in
    simp to_z-of_z (answer_holds old.whole ps c.args.p _ xs ys y answer inside run)

pub returns-clause-signal : goal.returns-clause-signal
returns-clause-signal c = λ ps T constants xs ws w stands inside design signal.
    let old = c.args.self.now in
    let k = c.take_radius.new.self in
    let fits_mid : FitsSigned w128 c.args.p.mid = search rules in
    let fits_narrow : FitsSigned w64 c.narrow-mid.result = search rules in
    let is : c.narrow-mid.result ≡ c.args.p.mid = search rules in
    let at : AnswersWith k.sections c.narrow-mid.result c.step_in_row.result = simp to_z-of_z at c.step_in_row.ensures.output in
    let out : c.from.result ≡ c.step_in_row.result = search rules in
    let fits_out : FitsSigned w128 c.from.result = search rules in
    let output = answers_same k.sections c.narrow-mid.result c.args.p.mid c.step_in_row.result c.from.result is out at in
    let fits_radius : FitsSigned w128 c.args.p.radius = search rules in
    let low : pos 0 ≤ℤ k.radius = kept_low k in
    let small : k.radius <ℤ pos (2 ^ 60) = kept_small k in
    let fits : FitsSigned w128 k.radius = omega (arith, ints, low, small) in
    let answer = answer_of old k ps c.args.p c.from.result stands c.take_radius.ensures.whole c.take_radius.ensures.sections (simp to_z-of_z at c.take_radius.ensures.greatest) output in
    simp to_z-of_z (answer_holds_signal old.whole ps c.args.p _ T constants xs ws w answer inside design signal)

pub returns-clause-width : goal.returns-clause-width
returns-clause-width c = λ ps r stands all.
    let old = c.args.self.now in
    let k = c.take_radius.new.self in
    let fits_mid : FitsSigned w128 c.args.p.mid = search rules in
    let fits_narrow : FitsSigned w64 c.narrow-mid.result = search rules in
    let is : c.narrow-mid.result ≡ c.args.p.mid = search rules in
    let at : AnswersWith k.sections c.narrow-mid.result c.step_in_row.result = simp to_z-of_z at c.step_in_row.ensures.output in
    let out : c.from.result ≡ c.step_in_row.result = search rules in
    let fits_out : FitsSigned w128 c.from.result = search rules in
    let output = answers_same k.sections c.narrow-mid.result c.args.p.mid c.step_in_row.result c.from.result is out at in
    let fits_radius : FitsSigned w128 c.args.p.radius = search rules in
    let low : pos 0 ≤ℤ k.radius = kept_low k in
    let small : k.radius <ℤ pos (2 ^ 60) = kept_small k in
    let fits : FitsSigned w128 k.radius = omega (arith, ints, low, small) in
    let answer = answer_of old k ps c.args.p c.from.result stands c.take_radius.ensures.whole c.take_radius.ensures.sections (simp to_z-of_z at c.take_radius.ensures.greatest) output in
    let natural : pos 0 ≤ℤ r = ≤ℤ_trans c.requires.radius_low (All-head (λ (q : Point). q.radius ≤ℤ r) c.args.p ps all) in
    simp to_z-of_z (answer_is_narrow old.whole ps c.args.p _ r natural answer all)
