use Rattle.std.proofs.Common.{arith, refl, ap, ◌∙◌, ◌+◌, ◌++◌, ◌∷◌, [], length}
use Rattle.std.proofs.lemmas.List.{length-map}
use Rattle.flk_io.proofs.Told.{OnlyReads-same, OnlyReads-trans}
use Rattle.flk_dat.specs.Records.{Rows, layout_of}
use Rattle.flk_top.specs.Blocks.{records_of}
use Rattle.flk_top.specs.Faults.{data_line, range_line}
use Rattle.flk_top.specs.Measuring.{told_voltage}
use Rattle.flk_top.specs.Text.{levels_text}
use Rattle.flk_top.proofs.BlocksLemmas.{come_none, come_full, come_ended, come_fault, come_begins, come_few, analog_columns, fed_few}
use Rattle.flk_top.proofs.DataReplies.{MeasureStands, made_same, stands_more, fault_told, range_told, levels_told}
use Rattle.flk_top.proofs.HonestReplies.{failed_told, failed_honest, refused_honest, done_honest}
use Rattle.flk_top.proofs.levels.measured_reply.Goals as goal

pub loop-progress-init : goal.loop-progress-init
loop-progress-init g c =
    let left = (g.F.Shelf.told c.args.shelf.now).left c.args.name.now in
    record {
      come = come_none (layout_of c.args.config.now (c.args.command.channel ∷ [])) c.in_ok-blocks.blocks (MeasureStands c.new-measure.result) left c.in_ok-blocks.ensures.nothing c.new-measure.ensures.nothing;
      made = record { matched_is = c.new-measure.ensures.matched; channel_is = c.new-measure.ensures.channel };
      others = λ other different. refl;
      only_reads = OnlyReads-same (g.F.Shelf.told c.args.shelf.now);
      faults = refl;
    }

-- ---- a failed read

pub returns-in_default-clause-due : goal.returns-in_default-clause-due
returns-in_default-clause-due g c =
    failed_told _ _ c.read_reply.result c.read_reply.ensures

pub returns-in_default-clause-honest : goal.returns-in_default-clause-honest
returns-in_default-clause-honest g c =
    failed_honest (g.F.Shelf.told c.args.shelf.now) (g.F.Shelf.told c.next.new.shelf) c.read_reply.result c.read_reply.ensures (rw c.loop-progress.invariant.faults at c.in_default.ensures.cause.failed)

pub returns-in_default-clause-only_reads : goal.returns-in_default-clause-only_reads
returns-in_default-clause-only_reads g c =
    OnlyReads-trans c.loop-progress.invariant.only_reads c.next.ensures.only_reads

pub returns-in_default-clause-others : goal.returns-in_default-clause-others
returns-in_default-clause-others g c = λ other different.
    c.next.ensures.others other different ∙ c.loop-progress.invariant.others other different

-- ---- a record over range

pub take-requires-clause-channel : goal.take-requires-clause-channel
take-requires-clause-channel g c =
    let come = c.loop-progress.invariant.come in
    let there = c.requires.matched.1.matches.there in
    let columns = analog_columns c.args.config.now (c.args.command.channel ∷ []) c.loop-progress.blocks come.bytes come.records come.read in
    omega (arith, columns, c.next.ensures.columns, ap (λ (b : Rows). b.analog) c.block.ensures, c.loop-progress.invariant.made.channel_is, there.from, there.within)

pub take-requires-clause-few : goal.take-requires-clause-few
take-requires-clause-few g c =
    let left = (g.F.Shelf.told c.args.shelf.now).left c.args.name.now in
    let mid = (g.F.Shelf.told c.loop-progress.shelf).left c.args.name.now in
    let now = (g.F.Shelf.told c.next.new.shelf).left c.args.name.now in
    let come = c.loop-progress.invariant.come in
    let l = layout_of c.args.config.now (c.args.command.channel ∷ []) in
    let m = c.loop-progress.measure in
    let before = c.loop-progress.blocks in
    let after = c.next.new.self in
    let few = come_few l before (MeasureStands m) (records_of after) left mid come c.in-Ok.ensures.begins in
    omega (arith, few, ap (λ (b : Rows). length b.records) c.block.ensures, come.known.taken, length-map come.records (told_voltage m))

pub returns-in-Err-clause-due : goal.returns-in-Err-clause-due
returns-in-Err-clause-due g c =
    let left = (g.F.Shelf.told c.args.shelf.now).left c.args.name.now in
    let mid = (g.F.Shelf.told c.loop-progress.shelf).left c.args.name.now in
    let now = (g.F.Shelf.told c.next.new.shelf).left c.args.name.now in
    let come = c.loop-progress.invariant.come in
    let l = layout_of c.args.config.now (c.args.command.channel ∷ []) in
    let m = c.loop-progress.measure in
    let before = c.loop-progress.blocks in
    let after = c.next.new.self in
    let begins = come_begins l before (MeasureStands m) (records_of after) left mid come c.in-Ok.ensures.begins in
    range_told c.args.command c.args.config.now c.args.matched m left c.in-Err.record come.records (records_of after) c.range_reply.result c.loop-progress.invariant.made come.known (rw c.block.ensures at c.in-Err.ensures.over) begins
    c.range_reply.ensures

pub returns-in-Err-clause-honest : goal.returns-in-Err-clause-honest
returns-in-Err-clause-honest g c =
    refused_honest (range_line (c.in-Err.record + 1) c.args.command.channel) (g.F.Shelf.told c.args.shelf.now) (g.F.Shelf.told c.next.new.shelf) c.range_reply.result c.range_reply.ensures (c.in-Ok.ensures.cause.kept ∙ c.loop-progress.invariant.faults)

pub returns-in-Err-clause-only_reads : goal.returns-in-Err-clause-only_reads
returns-in-Err-clause-only_reads g c =
    OnlyReads-trans c.loop-progress.invariant.only_reads c.next.ensures.only_reads

pub returns-in-Err-clause-others : goal.returns-in-Err-clause-others
returns-in-Err-clause-others g c = λ other different.
    c.next.ensures.others other different ∙ c.loop-progress.invariant.others other different

-- ---- the next block

pub loop-progress-smaller : goal.loop-progress-smaller
loop-progress-smaller g c =
    let come = c.loop-progress.invariant.come in
    let few = fed_few (layout_of c.args.config.now (c.args.command.channel ∷ [])) c.loop-progress.blocks come.bytes come.records come.read in
    omega (arith, few, c.in-Ok.ensures.further c.in-Full.is)

pub loop-progress-preserved : goal.loop-progress-preserved
loop-progress-preserved g c =
    let left = (g.F.Shelf.told c.args.shelf.now).left c.args.name.now in
    let mid = (g.F.Shelf.told c.loop-progress.shelf).left c.args.name.now in
    let now = (g.F.Shelf.told c.next.new.shelf).left c.args.name.now in
    let come = c.loop-progress.invariant.come in
    let l = layout_of c.args.config.now (c.args.command.channel ∷ []) in
    let m = c.loop-progress.measure in
    let before = c.loop-progress.blocks in
    let after = c.next.new.self in
    let next = c.take.new.self in
    let made = made_same m next c.args.matched c.args.command.channel c.take.ensures.same c.loop-progress.invariant.made in
    let stands = stands_more m next come.records (records_of after) c.take.ensures.same come.known (rw c.block.ensures at c.in_default-take.ensures.measured) in
    record {
      come = come_full c.in-Ok.progress l before after (MeasureStands m) (MeasureStands next) left mid now come c.in-Full.is c.in-Ok.ensures.gives stands;
      made = made;
      others = λ other different. c.next.ensures.others other different ∙ c.loop-progress.invariant.others other different;
      only_reads = OnlyReads-trans c.loop-progress.invariant.only_reads c.next.ensures.only_reads;
      faults = c.in-Ok.ensures.cause.kept ∙ c.loop-progress.invariant.faults;
    }

-- ---- the end of the file

pub returns-in-Ended-clause-due : goal.returns-in-Ended-clause-due
returns-in-Ended-clause-due g c =
    let left = (g.F.Shelf.told c.args.shelf.now).left c.args.name.now in
    let mid = (g.F.Shelf.told c.loop-progress.shelf).left c.args.name.now in
    let now = (g.F.Shelf.told c.next.new.shelf).left c.args.name.now in
    let come = c.loop-progress.invariant.come in
    let l = layout_of c.args.config.now (c.args.command.channel ∷ []) in
    let m = c.loop-progress.measure in
    let before = c.loop-progress.blocks in
    let after = c.next.new.self in
    let next = c.take.new.self in
    let made = made_same m next c.args.matched c.args.command.channel c.take.ensures.same c.loop-progress.invariant.made in
    let stands = stands_more m next come.records (records_of after) c.take.ensures.same come.known (rw c.block.ensures at c.in_default-take.ensures.measured) in
    let accepted = come_ended c.in-Ok.progress l before after (MeasureStands m) left mid now come c.in-Ended.is c.in-Ok.ensures.gives in
    levels_told c.args.command c.args.config.now c.args.matched next left c.levels.result (come.records ++ records_of after) c.levels_done.result made stands c.levels.ensures accepted c.levels_done.ensures

pub returns-in-Ended-clause-honest : goal.returns-in-Ended-clause-honest
returns-in-Ended-clause-honest g c =
    done_honest (levels_text c.args.command.channel c.levels.result) (g.F.Shelf.told c.args.shelf.now) (g.F.Shelf.told c.next.new.shelf) c.levels_done.result c.levels_done.ensures (c.in-Ok.ensures.cause.kept ∙ c.loop-progress.invariant.faults)

pub returns-in-Ended-clause-only_reads : goal.returns-in-Ended-clause-only_reads
returns-in-Ended-clause-only_reads g c =
    OnlyReads-trans c.loop-progress.invariant.only_reads c.next.ensures.only_reads

pub returns-in-Ended-clause-others : goal.returns-in-Ended-clause-others
returns-in-Ended-clause-others g c = λ other different.
    c.next.ensures.others other different ∙ c.loop-progress.invariant.others other different

-- ---- a fault

pub returns-in-Fault-clause-due : goal.returns-in-Fault-clause-due
returns-in-Fault-clause-due g c =
    let left = (g.F.Shelf.told c.args.shelf.now).left c.args.name.now in
    let mid = (g.F.Shelf.told c.loop-progress.shelf).left c.args.name.now in
    let now = (g.F.Shelf.told c.next.new.shelf).left c.args.name.now in
    let come = c.loop-progress.invariant.come in
    let l = layout_of c.args.config.now (c.args.command.channel ∷ []) in
    let m = c.loop-progress.measure in
    let before = c.loop-progress.blocks in
    let after = c.next.new.self in
    let next = c.take.new.self in
    let made = made_same m next c.args.matched c.args.command.channel c.take.ensures.same c.loop-progress.invariant.made in
    let stands = stands_more m next come.records (records_of after) c.take.ensures.same come.known (rw c.block.ensures at c.in_default-take.ensures.measured) in
    let ends = come_fault c.in-Ok.progress c.in-Fault.fault l before after (MeasureStands m) left mid now come c.in-Fault.is c.in-Ok.ensures.gives in
    fault_told c.args.command c.args.config.now c.args.matched next left c.in-Fault.fault (come.records ++ records_of after) c.data_reply.result made stands ends c.data_reply.ensures

pub returns-in-Fault-clause-honest : goal.returns-in-Fault-clause-honest
returns-in-Fault-clause-honest g c =
    refused_honest (data_line c.in-Fault.fault.row c.in-Fault.fault.field c.in-Fault.fault.kind) (g.F.Shelf.told c.args.shelf.now) (g.F.Shelf.told c.next.new.shelf) c.data_reply.result c.data_reply.ensures (c.in-Ok.ensures.cause.kept ∙ c.loop-progress.invariant.faults)

pub returns-in-Fault-clause-only_reads : goal.returns-in-Fault-clause-only_reads
returns-in-Fault-clause-only_reads g c =
    OnlyReads-trans c.loop-progress.invariant.only_reads c.next.ensures.only_reads

pub returns-in-Fault-clause-others : goal.returns-in-Fault-clause-others
returns-in-Fault-clause-others g c = λ other different.
    c.next.ensures.others other different ∙ c.loop-progress.invariant.others other different
