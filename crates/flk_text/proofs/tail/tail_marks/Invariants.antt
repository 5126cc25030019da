use Rattle.std.proofs.Common.{◌≡◌, drop, take, ◌≤◌}
use Rattle.std.specs.List.{list_all, count_by}
use Rattle.flk_text.specs.Lines.{is_byte}
use Rattle.flk_text.specs.Tail.{is_tail_byte}
use Rattle.flk_text.proofs.tail.tail_marks.Given as goal

abbrev pub invariant-loop-byte : goal.invariant-loop-byte
invariant-loop-byte l = record {
  bytes : list_all is_tail_byte (drop l.byte-index l.bytes) ≡ list_all is_tail_byte l.bytes;
  marks : l.marks ≡ count_by (is_byte 26) (take l.byte-index l.bytes);
  few : l.marks ≤ l.byte-index;
}
