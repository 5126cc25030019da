use Rattle.std.proofs.Common.{◌≡◌, ◌≢◌, ◌<◌, ℕ, pos, true, false, get_or}
use Rattle.flk_dat.specs.Records.{missing_value}
use Rattle.flk_dat.specs.BinaryRecords.{value_of}
use Rattle.flk_dat.specs.Blocks.{row_in, ChangesPlace}
use Rattle.flk_dat.proofs.binary.read_values.Given as goal

abbrev pub invariant-loop-i : goal.invariant-loop-i
invariant-loop-i l = record {
  changed : ChangesPlace l.row (pos 0) l.fn.columns l.columns;
  values : (k : ℕ) → k < l.i → get_or (row_in l.row (pos 0) l.columns) k (pos 0) ≡ value_of l.form l.bytes k;
  present : (k : ℕ) → k < l.i → get_or l.selected k false ≡ true → value_of l.form l.bytes k ≢ missing_value l.form;
}
