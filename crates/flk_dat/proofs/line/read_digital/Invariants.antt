use Rattle.std.proofs.Common.{◌≡◌, ◌<◌, ◌≤◌, ℕ, [], length, false, drop, get_or}
use Rattle.flk_field.specs.Values.{IsBit}
use Rattle.flk_dat.specs.Blocks.{row_in, ChangesPlace}
use Rattle.flk_dat.proofs.line.read_digital.Given as goal

abbrev pub invariant-loop-i : goal.invariant-loop-i
invariant-loop-i l = record {
  within : l.i ≤ length l.fn.fields;
  left : l.fields ≡ drop l.i l.fn.fields;
  changed : ChangesPlace l.row false l.fn.columns.items l.columns.items;
  bits : (k : ℕ) → k < l.i → IsBit (get_or l.fn.fields k []) (get_or (row_in l.row false l.columns.items) k false);
}
