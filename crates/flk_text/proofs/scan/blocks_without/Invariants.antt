use Rattle.std.proofs.Common.{◌≡◌, ◌+◌, ◌-◌, ◌≤◌, length, drop}
use Rattle.std.specs.List.{position_or_len}
use Rattle.flk_text.specs.Lines.{is_byte}
use Rattle.flk_text.proofs.scan.blocks_without.Given as goal

abbrev pub invariant-loop-count : goal.invariant-loop-count
invariant-loop-count l = record {
  within : l.count ≤ length l.bytes;
  place : l.count + position_or_len (is_byte l.byte) (drop l.count l.bytes) ≡ position_or_len (is_byte l.byte) l.bytes;
}

abbrev pub decreases-loop-count : goal.decreases-loop-count
decreases-loop-count l = length l.bytes - l.count
