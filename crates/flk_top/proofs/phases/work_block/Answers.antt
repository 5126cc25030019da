use Rattle.std.proofs.Common.{sym, ap, ◌∙◌, ◌≡◌, ◌++◌, List, take, drop, length, subst}
use Rattle.flk_phase.specs.declared.phase.Phase.{Phase}
use Rattle.flk_top.specs.Working.{TakeRecords, CanWork, AreWorked, IsFirstOverOfPhases}
use Rattle.flk_top.proofs.PhasesLemmas.{can_some, can_channel, can_few, block_worked, written_back}
use Rattle.flk_top.proofs.phases.work_block.Goals as goal

pub take_block-requires-clause-some : goal.take_block-requires-clause-some
take_block-requires-clause-some g c κs within =
    can_some c.deref_mut.result.now c.args.block.now (subst (λ (ps : List Phase). CanWork ps c.args.block.now) (sym c.deref_mut.ensures.value) c.requires.ready)

pub take_block-requires-clause-channels : goal.take_block-requires-clause-channels
take_block-requires-clause-channels g c κs within =
    can_channel c.deref_mut.result.now c.args.block.now (subst (λ (ps : List Phase). CanWork ps c.args.block.now) (sym c.deref_mut.ensures.value) c.requires.ready)

pub take_block-requires-clause-few : goal.take_block-requires-clause-few
take_block-requires-clause-few g c κs within =
    can_few c.deref_mut.result.now c.args.block.now (subst (λ (ps : List Phase). CanWork ps c.args.block.now) (sym c.deref_mut.ensures.value) c.requires.ready)

pub returns : goal.returns
returns g c =
    let old = c.args.phases.now.items in
    let new = c.take_block.new.phases in
    let more = c.args.block.now.records in
    let takes = subst (λ (ps : List Phase). TakeRecords ps new more) c.deref_mut.ensures.value c.in_ok-take_block.ensures in
    let back : take c.args.phases.now.len (new ++ drop (length new) old) ≡ new =
    written_back c.args.phases.now.len new old takes.count (sym c.deref_mut.ensures.len ∙ ap (λ (ps : List Phase). length ps) c.deref_mut.ensures.value) in
    let first = subst (λ (ps : List Phase). IsFirstOverOfPhases ps (length ps) c.first_over.result) (c.deref.ensures.value ∙ back) c.first_over.ensures in
    subst (λ (ps : List Phase). AreWorked old ps more c.first_over.result) (sym back) (block_worked old new more c.first_over.result takes first)
