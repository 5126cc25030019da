use Rattle.std.proofs.Common.{◌≡◌, ◌≤◌, ◌+◌, ◌-◌, length, drop, reverse}
use Rattle.std.specs.List.{prefix_len, suffix_len}
use Rattle.flk_text.specs.Lines.{is_byte}
use Rattle.flk_text.proofs.fields.spaces_at_end.Given as goal

abbrev pub invariant-loop-count : goal.invariant-loop-count
invariant-loop-count l = record {
  within : l.count ≤ length l.bytes;
  left : l.count + prefix_len (is_byte 32) (drop l.count (reverse l.bytes)) ≡ suffix_len (is_byte 32) l.bytes;
}

abbrev pub decreases-loop-count : goal.decreases-loop-count
decreases-loop-count l = length l.bytes - l.count
