use Rattle.std.proofs.Common.{arith, sym, subst, ◌∙◌, ◌++◌, [], ℕ, List, Some, IfOk}
use Rattle.flk_io.proofs.Told.{OnlyReads-trans}
use Rattle.flk_dat.specs.Records.{Rows, layout_of}
use Rattle.flk_section.specs.Whole.{numbers_of}
use Rattle.flk_top.specs.Blocks.{HasRead, records_of, fed_count}
use Rattle.flk_top.specs.ReportDue.{job_layout}
use Rattle.flk_top.specs.Working.{HaveWorked, CanWork, AreWorked, AreLast}
use Rattle.flk_top.specs.declared.blocks.Progress.{Progress}
use Rattle.flk_top.proofs.BlocksLemmas.{empty_can_hold, filled_more, fewer_left, analog_columns, fed_few}
use Rattle.flk_top.proofs.HonestReplies.{failed_told, failed_honest, refused_honest}
use Rattle.flk_top.proofs.ReportReplies.{HasFilledPhases, IsLastReply, filled_can_work, filled_are_last, phases_over, phases_last, composed_honest}
use Rattle.flk_top.proofs.report.phases_reply.Goals as goal

-- ---- the first block

pub returns-in_default-clause-due : goal.returns-in_default-clause-due
returns-in_default-clause-due g c = failed_told _ _ c.read_reply.result c.read_reply.ensures

pub returns-in_default-clause-honest : goal.returns-in_default-clause-honest
returns-in_default-clause-honest g c =
    failed_honest (g.F.Shelf.told c.args.shelf.now) (g.F.Shelf.told c.next.new.shelf) c.read_reply.result c.read_reply.ensures c.in_default.ensures.cause.failed

pub loop-progress-init : goal.loop-progress-init
loop-progress-init g c =
    let j = c.args.job.now in
    let config = c.args.config.now in
    let l = job_layout j config in
    let read = subst (λ (ns : List ℕ). HasRead (layout_of config ns) c.in_ok-blocks.blocks [] []) c.as_slice.ensures c.in_ok-blocks.ensures.nothing in
    record {
      filled = record {
        records = [];
        known = c.in_ok-phases.ensures;
        gives = c.in-Ok.ensures.gives l [] [] read;
        begins = c.in-Ok.ensures.begins l [] [] read;
      };
      columns = c.next.ensures.columns ∙ analog_columns config j.channels c.in_ok-blocks.blocks [] [] read;
      spare = empty_can_hold config j.channels c.in_ok-other.other c.requires.valid c.in_ok-other.ensures.columns c.in_ok-other.ensures.room;
      others = c.next.ensures.others;
      only_reads = c.next.ensures.only_reads;
      faults = c.in-Ok.ensures.cause.kept;
    }

-- ---- a block is worked, and the next one is read

pub work_and_read-over-requires-clause-ready : goal.work_and_read-over-requires-clause-ready
work_and_read-over-requires-clause-ready g c κs within =
    let j = c.args.job.now in
    let config = c.args.config.now in
    let left = (g.F.Shelf.told c.args.shelf.now).left c.args.name.now in
    let here = (g.F.Shelf.told c.loop-progress.shelf).left c.args.name.now in
    let known = c.loop-progress.invariant in
    subst (CanWork c.loop-progress.phases.items) (sym c.exchange.ensures.filled)
    (filled_can_work c.loop-progress.progress j config (numbers_of c.args.whole.now) c.loop-progress.blocks c.loop-progress.phases.items left here c.requires.valid c.requires.sets known.columns known.filled)

pub work_and_read-over-requires-clause-gate : goal.work_and_read-over-requires-clause-gate
work_and_read-over-requires-clause-gate g c κs within =
    let count = c.loop-progress.invariant.filled.known.are_phases.count in
    λ i less. c.requires.gate i (omega (arith, less, count, c.requires.sets.channels.few))

pub work_and_read-over-requires-clause-read : goal.work_and_read-over-requires-clause-read
work_and_read-over-requires-clause-read g c κs within =
    let j = c.args.job.now in
    let config = c.args.config.now in
    let left = (g.F.Shelf.told c.args.shelf.now).left c.args.name.now in
    let here = (g.F.Shelf.told c.loop-progress.shelf).left c.args.name.now in
    let l = job_layout j config in
    let known = c.loop-progress.invariant in
    let h = subst (λ (p : Progress). HasFilledPhases p j config (numbers_of c.args.whole.now) c.loop-progress.blocks c.loop-progress.phases.items left here) c.in-Full.is known.filled in
    let rs = h.records ++ records_of c.loop-progress.blocks in
    (l, h.gives.0, rs, (c.exchange.ensures.read l h.gives.0 rs h.gives.2 known.spare).0)

pub loop-progress-smaller : goal.loop-progress-smaller
loop-progress-smaller g c =
    let j = c.args.job.now in
    let config = c.args.config.now in
    let left = (g.F.Shelf.told c.args.shelf.now).left c.args.name.now in
    let here = (g.F.Shelf.told c.loop-progress.shelf).left c.args.name.now in
    let old = c.loop-progress.blocks in
    let h = subst (λ (p : Progress). HasFilledPhases p j config (numbers_of c.args.whole.now) old c.loop-progress.phases.items left here) c.in-Full.is c.loop-progress.invariant.filled in
    let few = fed_few (job_layout j config) old h.gives.0 (h.records ++ records_of old) h.gives.2 in
    let further = rw c.in-Ok-next.is at c.work_and_read-over.ensures.read.further in
    rw c.in-Full.is
    (fewer_left c.in-Ok-next.next (fed_count old) (fed_count c.work_and_read-over.new.blocks) few
    (λ is. omega (arith, further is, c.exchange.ensures.fed)))

pub loop-progress-preserved : goal.loop-progress-preserved
loop-progress-preserved g c =
    let j = c.args.job.now in
    let config = c.args.config.now in
    let filter = numbers_of c.args.whole.now in
    let left = (g.F.Shelf.told c.args.shelf.now).left c.args.name.now in
    let here = (g.F.Shelf.told c.loop-progress.shelf).left c.args.name.now in
    let now = (g.F.Shelf.told c.work_and_read-over.new.shelf).left c.args.name.now in
    let l = job_layout j config in
    let old = c.loop-progress.blocks in
    let mid = c.exchange.new.self in
    let phases = c.loop-progress.phases.items in
    let new = c.work_and_read-over.new.phases.items in
    let known = c.loop-progress.invariant in
    let read = c.work_and_read-over.ensures.read in
    let h = subst (λ (p : Progress). HasFilledPhases p j config filter old phases left here) c.in-Full.is known.filled in
    let rs = h.records ++ records_of old in
    let exchanged = c.exchange.ensures.read l h.gives.0 rs h.gives.2 known.spare in
    let worked = subst (AreWorked phases new c.exchange.new.other.records) c.in_default-2.is (rw c.in_ok-record.was at c.work_and_read-over.ensures.worked) in
    let after = subst (λ (b : Rows). HaveWorked j config filter new (h.records ++ b.records)) c.exchange.ensures.filled (worked j config filter h.records h.known) in
    record {
      filled = filled_more c.in-Ok-next.next l old mid c.work_and_read-over.new.blocks (HaveWorked j config filter phases) (HaveWorked j config filter new) left here now h
          (λ bytes given has. (c.exchange.ensures.read l bytes given has known.spare).0)
          (rw c.in-Ok-next.is at read.gives) (rw c.in-Ok-next.is at read.begins) after;
      columns = read.columns ∙ analog_columns config j.channels mid h.gives.0 rs exchanged.0;
      spare = exchanged.1;
      others = λ other different. read.others other different ∙ known.others other different;
      only_reads = OnlyReads-trans known.only_reads read.only_reads;
      faults = (rw c.in-Ok-next.is at read.cause.kept) ∙ known.faults;
    }

-- ---- the next read fails

pub returns-in_default-next-clause-due : goal.returns-in_default-next-clause-due
returns-in_default-next-clause-due g c =
    failed_told _ _ c.read_reply-in_default-next.result c.read_reply-in_default-next.ensures

pub returns-in_default-next-clause-honest : goal.returns-in_default-next-clause-honest
returns-in_default-next-clause-honest g c =
    let rose = rw c.in_default-next.is at c.work_and_read-over.ensures.read.cause.failed in
    failed_honest (g.F.Shelf.told c.args.shelf.now) (g.F.Shelf.told c.work_and_read-over.new.shelf) c.read_reply-in_default-next.result c.read_reply-in_default-next.ensures (rw c.loop-progress.invariant.faults at rose)

pub returns-in_default-next-clause-only_reads : goal.returns-in_default-next-clause-only_reads
returns-in_default-next-clause-only_reads g c =
    OnlyReads-trans c.loop-progress.invariant.only_reads c.work_and_read-over.ensures.read.only_reads

pub returns-in_default-next-clause-others : goal.returns-in_default-next-clause-others
returns-in_default-next-clause-others g c = λ other different.
    c.work_and_read-over.ensures.read.others other different ∙ c.loop-progress.invariant.others other different

pub returns-in_err-record-clause-only_reads : goal.returns-in_err-record-clause-only_reads
returns-in_err-record-clause-only_reads g c =
    OnlyReads-trans c.loop-progress.invariant.only_reads c.work_and_read-over.ensures.read.only_reads

pub returns-in_err-record-clause-others : goal.returns-in_err-record-clause-others
returns-in_err-record-clause-others g c = λ other different.
    c.work_and_read-over.ensures.read.others other different ∙ c.loop-progress.invariant.others other different

-- ---- a channel is over range

pub over_reply-requires-clause-some : goal.over_reply-requires-clause-some
over_reply-requires-clause-some g c =
    let h = c.loop-progress.invariant.filled in
    let worked = subst (AreWorked c.loop-progress.phases.items c.work_and_read-over.new.phases.items c.exchange.new.other.records) c.in-Some.is (rw c.in_ok-record.was at c.work_and_read-over.ensures.worked) in
    (worked c.args.job.now c.args.config.now (numbers_of c.args.whole.now) h.records h.known).some

pub over_reply-requires-clause-there : goal.over_reply-requires-clause-there
over_reply-requires-clause-there g c =
    let h = c.loop-progress.invariant.filled in
    let worked = subst (AreWorked c.loop-progress.phases.items c.work_and_read-over.new.phases.items c.exchange.new.other.records) c.in-Some.is (rw c.in_ok-record.was at c.work_and_read-over.ensures.worked) in
    (worked c.args.job.now c.args.config.now (numbers_of c.args.whole.now) h.records h.known).there

pub returns-in-Some-clause-due : goal.returns-in-Some-clause-due
returns-in-Some-clause-due g c =
    let j = c.args.job.now in
    let config = c.args.config.now in
    let left = (g.F.Shelf.told c.args.shelf.now).left c.args.name.now in
    let phases = c.loop-progress.phases.items in
    let new = c.work_and_read-over.new.phases.items in
    let h = c.loop-progress.invariant.filled in
    let worked = subst (AreWorked phases new c.exchange.new.other.records) c.in-Some.is (rw c.in_ok-record.was at c.work_and_read-over.ensures.worked) in
    let same = subst (λ (b : Rows). AreWorked phases new b.records (Some (c.in-Some.record, c.in-Some.turn))) c.exchange.ensures.filled worked in
    phases_over j config (numbers_of c.args.whole.now) left phases new h.records (records_of c.loop-progress.blocks) c.in-Some.record c.in-Some.turn c.over_reply.result h.known same h.begins c.over_reply.ensures

pub returns-in-Some-clause-honest : goal.returns-in-Some-clause-honest
returns-in-Some-clause-honest g c =
    let kept = (rw c.in-Ok-next.is at c.work_and_read-over.ensures.read.cause.kept) ∙ c.loop-progress.invariant.faults in
    refused_honest _ (g.F.Shelf.told c.args.shelf.now) (g.F.Shelf.told c.work_and_read-over.new.shelf) c.over_reply.result c.over_reply.ensures kept

pub returns-in-Some-clause-only_reads : goal.returns-in-Some-clause-only_reads
returns-in-Some-clause-only_reads g c =
    OnlyReads-trans c.loop-progress.invariant.only_reads c.work_and_read-over.ensures.read.only_reads

pub returns-in-Some-clause-others : goal.returns-in-Some-clause-others
returns-in-Some-clause-others g c = λ other different.
    c.work_and_read-over.ensures.read.others other different ∙ c.loop-progress.invariant.others other different

-- ---- the last block

pub last_reply-requires-clause-ready : goal.last_reply-requires-clause-ready
last_reply-requires-clause-ready g c κs within =
    let j = c.args.job.now in
    let config = c.args.config.now in
    let left = (g.F.Shelf.told c.args.shelf.now).left c.args.name.now in
    let here = (g.F.Shelf.told c.loop-progress.shelf).left c.args.name.now in
    let known = c.loop-progress.invariant in
    subst (CanWork c.loop-progress.phases.items) (sym c.block.ensures)
    (filled_can_work c.loop-progress.progress j config (numbers_of c.args.whole.now) c.loop-progress.blocks c.loop-progress.phases.items left here c.requires.valid c.requires.sets known.columns known.filled)

pub last_reply-requires-clause-gate : goal.last_reply-requires-clause-gate
last_reply-requires-clause-gate g c κs within =
    let count = c.loop-progress.invariant.filled.known.are_phases.count in
    λ i less. c.requires.gate i (omega (arith, less, count, c.requires.sets.channels.few))

pub last_reply-requires-clause-last : goal.last_reply-requires-clause-last
last_reply-requires-clause-last g c κs within =
    let j = c.args.job.now in
    let config = c.args.config.now in
    let filter = numbers_of c.args.whole.now in
    let phases = c.loop-progress.phases.items in
    let left = (g.F.Shelf.told c.args.shelf.now).left c.args.name.now in
    let here = (g.F.Shelf.told c.loop-progress.shelf).left c.args.name.now in
    let last = filled_are_last c.loop-progress.progress j config filter c.loop-progress.blocks phases left here c.loop-progress.invariant.filled c.in_default-progress.not-Full in
    (filter, last.0, subst (λ (b : Rows). AreLast c.loop-progress.progress j config filter phases b.records last.0) (sym c.block.ensures) last.2)

pub returns-clause-due : goal.returns-clause-due
returns-clause-due g c =
    let j = c.args.job.now in
    let config = c.args.config.now in
    let filter = numbers_of c.args.whole.now in
    let phases = c.loop-progress.phases.items in
    let p = c.loop-progress.progress in
    let left = (g.F.Shelf.told c.args.shelf.now).left c.args.name.now in
    let here = (g.F.Shelf.told c.loop-progress.shelf).left c.args.name.now in
    let last = filled_are_last p j config filter c.loop-progress.blocks phases left here c.loop-progress.invariant.filled c.in_default-progress.not-Full in
    let due = subst (λ (b : Rows). IfOk c.last_reply.result (IsLastReply p j config phases b.records)) c.block.ensures c.last_reply.ensures.due in
    phases_last p j config filter left phases (records_of c.loop-progress.blocks) c.last_reply.result last due

pub returns-clause-honest : goal.returns-clause-honest
returns-clause-honest g c =
    composed_honest (g.F.Shelf.told c.args.shelf.now) (g.F.Shelf.told c.loop-progress.shelf) c.last_reply.result c.last_reply.ensures.read c.loop-progress.invariant.faults
