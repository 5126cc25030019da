use Rattle.std.proofs.Common.{sym, ap, ◌∙◌, ◌≡◌, ℕ, length, subst, arith}
use Rattle.std.proofs.lemmas.List.{get_or_default}
use Rattle.flk_phase.specs.Phase.{over_of}
use Rattle.flk_top.specs.Working.{IsFirstOverOfPhases}
use Rattle.flk_top.proofs.phases.first_over.Goals as goal

pub loop-i-preserved : goal.loop-i-preserved
loop-i-preserved c =
    let p = c.index-phases-i.result in
    c.lesser-first.ensures c.args.phases.now c.loop-i.invariant (λ d. ap over_of (get_or_default c.args.phases.now c.loop-i.i d p c.loop-i-test.true ∙ sym c.index-phases-i.is) ∙ sym c.over.ensures)

pub returns : goal.returns
returns c =
    let all : c.loop-i.i ≡ length c.args.phases.now = omega (arith, c.loop-i-test.false, c.loop-i.auto.i-end) in
    subst (λ (n : ℕ). IsFirstOverOfPhases c.args.phases.now n c.loop-i.first) all c.loop-i.invariant
