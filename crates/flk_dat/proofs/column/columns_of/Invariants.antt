use Rattle.std.proofs.Common.{◌≡◌, length}
use Rattle.flk_dat.specs.Blocks.{HavePlaces}
use Rattle.flk_dat.proofs.column.columns_of.Given as goal

abbrev pub invariant-loop : goal.invariant-loop
invariant-loop g l = record {
  count : length l.columns.items ≡ l.counter;
  places : HavePlaces l.places l.columns.items;
}
