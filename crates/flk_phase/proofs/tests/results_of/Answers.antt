use Rattle.std.proofs.Common.{arith, sym, ◌∙◌, ◌≡◌, ◌<◌, get_or, length, None}
use Rattle.flk_phase.specs.declared.phase.Phase.{Phase}
use Rattle.flk_phase.specs.Phase.{over_of}
use Rattle.flk_phase.specs.Taking.{MayTake}
use Rattle.flk_phase.proofs.TakingLemmas.{none_of}
use Rattle.flk_phase.proofs.TestLemmas.{may_take, both, full_at}
use Rattle.flk_phase.proofs.tests.results_of.Goals as goal

pub work-requires-clause-ready : goal.work-requires-clause-ready
work-requires-clause-ready g c κs = λ lives.
    let b = c.in_ok-block.block in
    let one = c.in_ok-phase_of.ensures in
    let other = c.in_ok-phase_of-2.ensures in
    let e = c.in_ok-block.ensures in
    both (λ (p : Phase). MayTake p b) c.in_ok-phase_of.field-0 c.in_ok-phase_of-2.field-0 (may_take _ b 0 one.channel (omega arith) e.channels e.records one.spare one.taken)
    (may_take _ b 1 other.channel (omega arith) e.channels e.records other.spare other.taken)

pub end-first-requires : goal.end-first-requires
end-first-requires g c =
    let all = c.work.new.phases in
    let one = c.in_ok-phase_of.ensures in
    let there : 0 < length all = omega (arith, c.work.ensures.count) in
    let none : over_of (get_or all 0 c.index-phases-0.result) ≡ None = sym c.over.ensures ∙ none_of c.over.result (sym c.if-is_some.ensures) in
    let full = full_at c.in_ok-phase_of.field-0 all 0 c.in_ok-block.block c.index-phases-0-2.result c.index-phases-0.result there (λ d. c.work.ensures.takes 0 d (omega arith)) c.in_ok-block.ensures.records one.stands one.enough none in
    (full.samples, full.stands, full.enough)

pub end-second-requires : goal.end-second-requires
end-second-requires g c =
    let all = c.work.new.phases in
    let one = c.in_ok-phase_of-2.ensures in
    let there : 1 < length all = omega (arith, c.work.ensures.count) in
    let none : over_of (get_or all 1 c.index-phases-1.result) ≡ None = sym c.over-2.ensures ∙ none_of c.over-2.result (sym c.if-is_some-2.ensures) in
    let full = full_at c.in_ok-phase_of-2.field-0 all 1 c.in_ok-block.block c.index-phases-1-2.result c.index-phases-1.result there (λ d. c.work.ensures.takes 1 d (omega arith)) c.in_ok-block.ensures.records one.stands one.enough none in
    (full.samples, full.stands, full.enough)
