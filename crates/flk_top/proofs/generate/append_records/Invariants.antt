use Rattle.std.proofs.Common.{◌≡◌, ℕ}
use Rattle.flk_io.specs.Told.{OnlyAppends, AppendsUnder}
use Rattle.flk_gen.specs.Progress.{records_left, HasGiven}
use Rattle.flk_top.proofs.GenData.{HasGivenAndAppended}
use Rattle.flk_top.proofs.generate.append_records.Given as goal

abbrev pub invariant-loop-piece : goal.invariant-loop-piece
invariant-loop-piece g l = record {
  given : (seed seconds : ℕ) → HasGiven l.fn.recording seed seconds 0
      → HasGivenAndAppended ((g.F.Shelf.told l.fn.shelf).added l.name) ((g.F.Shelf.told l.shelf).added l.name) seed seconds l.recording;
  others : AppendsUnder l.name (g.F.Shelf.told l.fn.shelf) (g.F.Shelf.told l.shelf);
  only_appends : OnlyAppends (g.F.Shelf.told l.fn.shelf) (g.F.Shelf.told l.shelf);
  faults : (g.F.Shelf.told l.shelf).append_faults ≡ (g.F.Shelf.told l.fn.shelf).append_faults;
}

abbrev pub decreases-loop-piece : goal.decreases-loop-piece
decreases-loop-piece g l = records_left l.recording
