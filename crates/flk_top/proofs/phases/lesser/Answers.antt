use Rattle.std.proofs.Common.{subst, ◌∙◌, arith, ℕ, ◌<◌, ◌≡◌}
use Rattle.flk_top.specs.Working.{IsFirstOverOfPhases}
use Rattle.flk_top.proofs.PhasesLemmas.{none_more, later_more, lesser_more}
use Rattle.flk_top.proofs.phases.lesser.Goals as goal

pub returns-in_default : goal.returns-in_default
returns-in_default c = λ phases h here. none_more phases c.args.turn c.args.first h (λ d. here d ∙ c.in_default.is)

pub returns-in-None : goal.returns-in-None
returns-in-None c = λ phases h here.
    lesser_more phases c.args.turn c.in-Some.number c.args.first h (λ found is. let none = c.in-None.is in cc) (λ d. here d ∙ c.in-Some.is)

pub returns-then-number-found : goal.returns-then-number-found
returns-then-number-found c = λ phases h here.
    let f = c.in-Some-first.found in
    lesser_more phases c.args.turn c.in-Some.number c.args.first h
    (λ found is.
    let some = c.in-Some-first.is in
    let same : f ≡ found = cc in
    subst (λ (x : ℕ × ℕ). c.in-Some.number < x.0) same c.if-number-found.true)
    (λ d. here d ∙ c.in-Some.is)

pub returns-else-number-found : goal.returns-else-number-found
returns-else-number-found c = λ phases h here.
    let found = c.in-Some-first.found in
    later_more phases c.args.turn c.in-Some.number found.1 found.0 (subst (IsFirstOverOfPhases phases c.args.turn) c.in-Some-first.is h)
    (omega (arith, c.if-number-found.false)) (λ d. here d ∙ c.in-Some.is)
