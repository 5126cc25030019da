use Rattle.std.proofs.Common.{arith, ◌<◌, length, length-set, sym, subst, ◌∙◌}
use Rattle.flk_phase.specs.Taking.{IsSamePhase}
use Rattle.flk_phase.specs.declared.phase.Phase.{Phase}
use Rattle.flk_phase.proofs.WorkersLemmas.{rest_next}
use Rattle.flk_top.specs.Working.{IsReserved}
use Rattle.flk_top.proofs.PhasesLemmas.{reserved_done}
use Rattle.flk_top.proofs.phases.reserve_all.Goals as goal

pub loop-i-preserved : goal.loop-i-preserved
loop-i-preserved c =
    let old = c.args.phases.now in
    let mid = c.loop-i.phases in
    let i = c.loop-i.i in
    let p = c.index-phases-i.result in
    let q = c.reserve.new.self in
    let held = c.loop-i.invariant in
    let there : i < length mid = omega (arith, c.loop-i-test.true, held.count) in
    let one : IsReserved c.args.samples p q = record { same = subst (λ (x : Phase). IsSamePhase x q) (sym c.index-phases-i.is) c.in_ok-reserve.ensures.same; spare = c.in_ok-reserve.ensures.ok } in
    record {
      count = length-set mid i q ∙ held.count;
      done = reserved_done c.args.samples old mid i p q there c.index-phases-i.is one held.done held.rest;
      rest = rest_next old mid i q held.rest;
    }
