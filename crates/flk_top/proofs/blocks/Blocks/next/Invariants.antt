-- What has come of the bytes that were read so far.
use Rattle.std.proofs.Common.{◌≡◌, ℕ, ◌-◌, ◌^◌, ◌<◌, ◌≤◌, List, length}
use Rattle.flk_io.specs.Told.{OnlyReads, ReadsUnder}
use Rattle.flk_dat.specs.Records.{DataRecord, Layout}
use Rattle.flk_top.specs.Blocks.{HasRead, block_of, records_of, fed_count}
use Rattle.flk_top.proofs.BlocksLemmas.{HasGone}
use Rattle.flk_top.proofs.blocks.Blocks.next.Given as goal

abbrev pub invariant-loop-self : goal.invariant-loop-self
invariant-loop-self g l =
    let shelf = g.F.Shelf in
    record {
      gone : (k : Layout) (bytes : List ℕ) (rs : List DataRecord) → HasRead k l.fn.self bytes rs → HasGone k l.self bytes rs ((shelf.told l.fn.shelf).left l.name) ((shelf.told l.shelf).left l.name);
      fed : fed_count l.fn.self ≤ fed_count l.self;
      further : 0 < length (records_of l.self) → fed_count l.fn.self < fed_count l.self;
      columns : (block_of l.self).analog ≡ (block_of l.fn.self).analog;
      others : ReadsUnder l.name (shelf.told l.fn.shelf) (shelf.told l.shelf);
      only_reads : OnlyReads (shelf.told l.fn.shelf) (shelf.told l.shelf);
      faults : (shelf.told l.shelf).read_faults ≡ (shelf.told l.fn.shelf).read_faults;
    }

-- fewer bytes than this are fed without a fault
abbrev pub decreases-loop-self : goal.decreases-loop-self
decreases-loop-self g l = 2 ^ 47 - l.self.fed
