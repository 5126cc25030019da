use Rattle.std.proofs.Common.{◌≡◌, ◌<◌, ℕ, false, get_or}
use Rattle.flk_dat.specs.BinaryRecords.{bit_of}
use Rattle.flk_dat.specs.Blocks.{row_in, ChangesPlace}
use Rattle.flk_dat.proofs.binary.read_bits.Given as goal

abbrev pub invariant-loop-i : goal.invariant-loop-i
invariant-loop-i l = record {
  changed : ChangesPlace l.row false l.fn.columns.items l.columns.items;
  values : (k : ℕ) → k < l.i → get_or (row_in l.row false l.columns.items) k false ≡ bit_of l.form l.analog l.bytes k;
}
