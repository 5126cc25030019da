use Rattle.std.proofs.Common.{sym, ap, ◌∙◌, ◌≡◌, ◌++◌, List, take, drop, length, subst, IfOk}
use Rattle.flk_phase.specs.declared.phase.Phase.{Phase}
use Rattle.flk_top.specs.Working.{AreWorked}
use Rattle.flk_top.proofs.PhasesLemmas.{written_back}
use Rattle.flk_top.proofs.report.work_and_read.Goals as goal

pub returns-clause-worked : goal.returns-clause-worked
returns-clause-worked g c =
    let old = c.args.phases.now.items in
    let new = c.work_block_beside.new.phases in
    let over = c.work_block_beside.result.0 in
    let more = c.args.block.now.records in
    let is = c.deref_mut.ensures.value in
    let back : take c.args.phases.now.len (new ++ drop (length new) old) ≡ new =
    written_back c.args.phases.now.len new old (c.work_block_beside.auto.phases ∙ ap (λ (ps : List Phase). length ps) is) (sym c.deref_mut.ensures.len ∙ ap (λ (ps : List Phase). length ps) is)
    in
    subst (λ (ps : List Phase). IfOk over (AreWorked old ps more)) (sym back) (subst (λ (ps : List Phase). IfOk over (AreWorked ps new more)) is c.work_block_beside.ensures.worked)
