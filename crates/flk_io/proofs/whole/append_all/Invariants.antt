use Rattle.std.proofs.Common.{length, take, ◌-◌, ◌≡◌, ◌≤◌}
use Rattle.std.specs.Io.KnownBytes.{Appends}
use Rattle.flk_io.specs.Told.{AppendsUnder, OnlyAppends}
use Rattle.flk_io.proofs.whole.append_all.Given as goal

abbrev pub invariant-loop-done : goal.invariant-loop-done
invariant-loop-done g l = record {
  within : l.done ≤ length l.bytes;
  front : Appends ((g.F.Shelf.told l.initial.shelf).added l.name) ((g.F.Shelf.told l.shelf).added l.name) (take l.done l.bytes);
  others : AppendsUnder l.name (g.F.Shelf.told l.initial.shelf) (g.F.Shelf.told l.shelf);
  only_appends : OnlyAppends (g.F.Shelf.told l.initial.shelf) (g.F.Shelf.told l.shelf);
  faults : (g.F.Shelf.told l.shelf).append_faults ≡ (g.F.Shelf.told l.initial.shelf).append_faults;
}

abbrev pub decreases-loop-done : goal.decreases-loop-done
decreases-loop-done g l = length l.bytes - l.done
