-- What the block that was filled last tells of the data, and what is known of the phases before it.
use Rattle.std.proofs.Common.{◌≡◌, length}
use Rattle.flk_io.specs.Told.{OnlyReads, ReadsUnder}
use Rattle.flk_section.specs.Whole.{numbers_of}
use Rattle.flk_top.specs.Blocks.{CanHold, block_of, fed_count}
use Rattle.flk_top.specs.ReportDue.{job_layout}
use Rattle.flk_top.proofs.BlocksLemmas.{feeds_left}
use Rattle.flk_top.proofs.ReportReplies.{HasFilledPhases}
use Rattle.flk_top.proofs.report.phases_reply.Given as goal

abbrev pub invariant-loop-progress : goal.invariant-loop-progress
invariant-loop-progress g l =
    let old = g.F.Shelf.told l.fn.shelf in
    let now = g.F.Shelf.told l.shelf in
    record {
      filled : HasFilledPhases l.progress l.job l.config (numbers_of l.whole) l.blocks l.phases.items (old.left l.name) (now.left l.name);
      columns : (block_of l.blocks).analog ≡ length l.config.analog;
      spare : CanHold (job_layout l.job l.config) l.other;
      others : ReadsUnder l.name old now;
      only_reads : OnlyReads old now;
      faults : now.read_faults ≡ old.read_faults;
    }

abbrev pub decreases-loop-progress : goal.decreases-loop-progress
decreases-loop-progress g l = feeds_left l.progress (fed_count l.blocks)
