use Rattle.std.proofs.Common.{◌≡◌, ◌<◌, ℕ, [], get_or, length}
use Rattle.flk_dat.specs.Blocks.{row_in, ChangesPlace}
use Rattle.flk_dat.proofs.column.put_row.Given as goal

abbrev pub invariant-loop-column : goal.invariant-loop-column
invariant-loop-column g l = record {
  count : length l.columns.items ≡ length l.fn.columns.items;
  places : (i : ℕ) → length (get_or l.columns.items i []) ≡ length (get_or l.fn.columns.items i []);
  changed : (none : g.row.T.Denot) → ChangesPlace l.place none l.fn.columns.items l.columns.items;
  row : (none : g.row.T.Denot) (k : ℕ) → k < l.column → get_or (row_in l.place none l.columns.items) k none ≡ get_or l.values k none;
}
