use Rattle.std.proofs.Common.{length, vec_len, ◌+◌, ◌-◌, ◌≡◌, ◌≤◌}
use Rattle.std.specs.Io.KnownBytes.{Consumes}
use Rattle.flk_io.specs.Told.{ReadsUnder, OnlyReads}
use Rattle.flk_io.proofs.whole.read_all.Given as goal

abbrev pub invariant-loop-piece : goal.invariant-loop-piece
invariant-loop-piece g l = record {
  within : vec_len l.bytes ≤ l.limit + 1;
  piece : length l.piece ≡ 65536;
  front : Consumes ((g.F.Shelf.told l.initial.shelf).left l.name) ((g.F.Shelf.told l.shelf).left l.name) l.bytes.items;
  others : ReadsUnder l.name (g.F.Shelf.told l.initial.shelf) (g.F.Shelf.told l.shelf);
  only_reads : OnlyReads (g.F.Shelf.told l.initial.shelf) (g.F.Shelf.told l.shelf);
  faults : (g.F.Shelf.told l.shelf).read_faults ≡ (g.F.Shelf.told l.initial.shelf).read_faults;
}

abbrev pub decreases-loop-piece : goal.decreases-loop-piece
decreases-loop-piece g l = l.limit + 1 - vec_len l.bytes
