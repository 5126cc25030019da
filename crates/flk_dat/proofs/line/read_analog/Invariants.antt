use Rattle.std.proofs.Common.{◌≡◌, ◌<◌, ◌≤◌, ℕ, [], length, pos, false, drop, get_or}
use Rattle.flk_dat.specs.SampleFields.{IsSample, IsThere}
use Rattle.flk_dat.specs.Blocks.{row_in, ChangesPlace}
use Rattle.flk_dat.proofs.line.read_analog.Given as goal

abbrev pub invariant-loop-i : goal.invariant-loop-i
invariant-loop-i l = record {
  within : l.i ≤ length l.fn.fields;
  left : l.fields ≡ drop l.i l.fn.fields;
  changed : ChangesPlace l.row (pos 0) l.fn.columns.items l.columns.items;
  samples : (k : ℕ) → k < l.i → IsSample (get_or l.fn.fields k []) (get_or (row_in l.row (pos 0) l.columns.items) k (pos 0));
  present : (k : ℕ) → k < l.i → IsThere (get_or l.channels.selected.items k false) (get_or (row_in l.row (pos 0) l.columns.items) k (pos 0));
}
