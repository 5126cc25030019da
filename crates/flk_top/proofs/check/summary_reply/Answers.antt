use Rattle.std.proofs.Common.{arith, ◌∙◌, ◌++◌, []}
use Rattle.flk_io.proofs.Told.{OnlyReads-trans}
use Rattle.flk_dat.specs.Records.{layout_of}
use Rattle.flk_top.specs.Blocks.{records_of}
use Rattle.flk_top.specs.Checking.{IsFirstNumber}
use Rattle.flk_top.proofs.BlocksLemmas.{come_full, come_ended, come_fault, fed_few}
use Rattle.flk_top.proofs.DataReplies.{is_first, file_told, summary_told}
use Rattle.flk_top.proofs.check.summary_reply.Goals as goal

pub loop-progress-smaller : goal.loop-progress-smaller
loop-progress-smaller g c =
    let come = c.loop-progress.invariant.come in
    let few = fed_few (layout_of c.args.config.now []) c.loop-progress.blocks come.bytes come.records come.read in
    omega (arith, few, c.in-Ok.ensures.further c.in-Full.is)

pub loop-progress-preserved : goal.loop-progress-preserved
loop-progress-preserved g c =
    let left = (g.F.Shelf.told c.args.shelf.now).left c.args.name.now in
    let mid = (g.F.Shelf.told c.loop-progress.shelf).left c.args.name.now in
    let now = (g.F.Shelf.told c.next.new.shelf).left c.args.name.now in
    let come = c.loop-progress.invariant.come in
    let l = layout_of c.args.config.now [] in
    let before = c.loop-progress.blocks in
    let after = c.next.new.self in
    let known = IsFirstNumber c.loop-progress.first in
    let first = rw c.block.ensures at (c.first_number-first.ensures come.records come.known) in
    record {
      come = come_full c.in-Ok.progress l before after known (IsFirstNumber c.first_number-first.result) left mid now come c.in-Full.is c.in-Ok.ensures.gives first;
      others = λ other different. c.next.ensures.others other different ∙ c.loop-progress.invariant.others other different;
      only_reads = OnlyReads-trans c.loop-progress.invariant.only_reads c.next.ensures.only_reads;
      faults = c.in-Ok.ensures.cause.kept ∙ c.loop-progress.invariant.faults;
    }

pub summary_done-requires : goal.summary_done-requires
summary_done-requires g c =
    let left = (g.F.Shelf.told c.args.shelf.now).left c.args.name.now in
    let mid = (g.F.Shelf.told c.loop-progress.shelf).left c.args.name.now in
    let now = (g.F.Shelf.told c.next.new.shelf).left c.args.name.now in
    let come = c.loop-progress.invariant.come in
    let l = layout_of c.args.config.now [] in
    let before = c.loop-progress.blocks in
    let after = c.next.new.self in
    let known = IsFirstNumber c.loop-progress.first in
    let first = rw c.block.ensures at (c.first_number-first.ensures come.records come.known) in
    let accepted = come_ended c.in-Ok.progress l before after known left mid now come c.in-Ended.is c.in-Ok.ensures.gives in
    is_first c.args.config.now c.first_number-first.result accepted.0 (come.records ++ records_of after) c.requires.endsamp_some accepted.2 first

pub returns-in-Ended-clause-due : goal.returns-in-Ended-clause-due
returns-in-Ended-clause-due g c =
    let left = (g.F.Shelf.told c.args.shelf.now).left c.args.name.now in
    let mid = (g.F.Shelf.told c.loop-progress.shelf).left c.args.name.now in
    let now = (g.F.Shelf.told c.next.new.shelf).left c.args.name.now in
    let come = c.loop-progress.invariant.come in
    let l = layout_of c.args.config.now [] in
    let before = c.loop-progress.blocks in
    let after = c.next.new.self in
    let known = IsFirstNumber c.loop-progress.first in
    let first = rw c.block.ensures at (c.first_number-first.ensures come.records come.known) in
    let accepted = come_ended c.in-Ok.progress l before after known left mid now come c.in-Ended.is c.in-Ok.ensures.gives in
    summary_told c.args.config.now left c.first_number-first.result (come.records ++ records_of after) c.summary_done.result c.requires.endsamp_some first accepted c.summary_done.ensures

pub returns-in-Ended-clause-only_reads : goal.returns-in-Ended-clause-only_reads
returns-in-Ended-clause-only_reads g c =
    OnlyReads-trans c.loop-progress.invariant.only_reads c.next.ensures.only_reads

pub returns-in-Ended-clause-others : goal.returns-in-Ended-clause-others
returns-in-Ended-clause-others g c = λ other different.
    c.next.ensures.others other different ∙ c.loop-progress.invariant.others other different

pub returns-in-Fault-clause-due : goal.returns-in-Fault-clause-due
returns-in-Fault-clause-due g c =
    let left = (g.F.Shelf.told c.args.shelf.now).left c.args.name.now in
    let mid = (g.F.Shelf.told c.loop-progress.shelf).left c.args.name.now in
    let now = (g.F.Shelf.told c.next.new.shelf).left c.args.name.now in
    let come = c.loop-progress.invariant.come in
    let l = layout_of c.args.config.now [] in
    let before = c.loop-progress.blocks in
    let after = c.next.new.self in
    let known = IsFirstNumber c.loop-progress.first in
    let first = rw c.block.ensures at (c.first_number-first.ensures come.records come.known) in
    let ends = come_fault c.in-Ok.progress c.in-Fault.fault l before after known left mid now come c.in-Fault.is c.in-Ok.ensures.gives in
    file_told c.args.config.now left c.in-Fault.fault (come.records ++ records_of after) c.data_reply.result ends c.data_reply.ensures

pub returns-in-Fault-clause-only_reads : goal.returns-in-Fault-clause-only_reads
returns-in-Fault-clause-only_reads g c =
    OnlyReads-trans c.loop-progress.invariant.only_reads c.next.ensures.only_reads

pub returns-in-Fault-clause-others : goal.returns-in-Fault-clause-others
returns-in-Fault-clause-others g c = λ other different.
    c.next.ensures.others other different ∙ c.loop-progress.invariant.others other different
