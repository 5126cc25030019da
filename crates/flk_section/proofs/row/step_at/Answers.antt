use Rattle.std.proofs.Common.{rules, ◌≡◌, ◌+◌, List, drop, get_or, set, ℤ, FitsSigned, sym, subst, add-one, arith}
use Rattle.std.specs.Int.{w64}
use Rattle.std.proofs.lemmas.List.{drop-set-lt}
use Rattle.std.proofs.lemmas.Int.{to_z-of_z}
use Rattle.flk_section.specs.declared.row_section.RowSection.{RowSection}
use Rattle.flk_section.specs.RowSection.{IsCalm}
use Rattle.flk_section.specs.Row.{AreReady}
use Rattle.flk_section.proofs.RowLemmas.{IsStepped, midway_next, gains_kept, ready_calm, ready_small, ready_next, ready_from, kind_from}
use Rattle.flk_section.proofs.row.step_at.Goals as goal
use Rattle.flk_section.proofs.row.step_at.Goals.{After-step}

pub step-requires-clause-calm : goal.step-requires-clause-calm
step-requires-clause-calm c =
    let ss = c.args.sections.now in
    let i = c.args.i in
    let s = c.index-sections-i.result in
    let X : ℤ = c.args.signal in
    let fits : FitsSigned w64 X = c.ranges.signal in
    let calm : ∥ IsCalm s X ∥₁ = ready_calm s (drop (i + 1) ss) X (ready_from ss i s X c.requires.within c.index-sections-i.is c.requires.ready) in
    simp to_z-of_z (subst (λ (z : RowSection). ∥ IsCalm z X ∥₁) c.index-sections-i.is calm)

pub step-requires-clause-kind : goal.step-requires-clause-kind
step-requires-clause-kind c = kind_from c.args.kind c.args.sections.now c.args.i c.index-sections-i.result c.requires.kind

-- the section at i took the signal
stepped : (c : After-step) → IsStepped (get_or c.args.sections.now c.args.i c.index-sections-i.result) c.step.new.self c.args.signal c.step.result
stepped c =
    let fits : FitsSigned w64 c.args.signal = c.ranges.signal in
    record {
      gain = c.step.ensures.gain;
      start = c.step.ensures.start;
      stands = simp to_z-of_z at c.step.ensures.stands;
      output = simp to_z-of_z at c.step.ensures.output;
    }

pub returns-clause-gains : goal.returns-clause-gains
returns-clause-gains c = gains_kept c.args.i c.args.sections.now c.index-sections-i.result c.step.new.self c.step.ensures.gain c.requires.within

pub returns-clause-ready : goal.returns-clause-ready
returns-clause-ready c =
    let ss = c.args.sections.now in
    let i = c.args.i in
    let s = c.index-sections-i.result in
    let t = c.step.new.self in
    let X : ℤ = c.args.signal in
    let Y : ℤ = c.step.result in
    let fits : FitsSigned w64 Y = search rules in
    let step : IsStepped s t X Y = subst (λ (z : RowSection). IsStepped z t X Y) (sym c.index-sections-i.is) (stepped c) in
    let next : ∥ AreReady (drop (i + 1) ss) Y ∥₁ = ready_next s t (drop (i + 1) ss) X Y step (ready_from ss i s X c.requires.within c.index-sections-i.is c.requires.ready) in
    let others : drop (i + 1) (set ss i t) ≡ drop (i + 1) ss = drop-set-lt (i + 1) ss i t (omega arith) in
    simp to_z-of_z (subst (λ (zs : List RowSection). ∥ AreReady zs Y ∥₁) (sym others) next)

pub returns-clause-small : goal.returns-clause-small
returns-clause-small c =
    let ss = c.args.sections.now in
    let i = c.args.i in
    let s = c.index-sections-i.result in
    let t = c.step.new.self in
    let X : ℤ = c.args.signal in
    let Y : ℤ = c.step.result in
    let fits : FitsSigned w64 Y = search rules in
    let step : IsStepped s t X Y = subst (λ (z : RowSection). IsStepped z t X Y) (sym c.index-sections-i.is) (stepped c) in
    simp to_z-of_z (ready_small s t (drop (i + 1) ss) X Y step (ready_from ss i s X c.requires.within c.index-sections-i.is c.requires.ready))

pub returns-clause-midway : goal.returns-clause-midway
returns-clause-midway c = λ from_one X Xs midway.
    let ss = c.args.sections.now in
    let i = c.args.i in
    let Y : ℤ = c.step.result in
    let fits : FitsSigned w64 Y = search rules in
    simp to_z-of_z (rw add-one (midway_next i from_one ss c.index-sections-i.result c.step.new.self X Xs c.args.signal Y c.requires.within (stepped c) midway))
