use Rattle.std.proofs.Common.{◌≡◌, ◌+◌, ◌<◌, IsTrue, length, drop, false}
use Rattle.std.specs.List.{position_or_len}
use Rattle.flk_text.specs.Lines.{is_byte}
use Rattle.flk_text.proofs.scan.has_byte.Given as goal

abbrev pub invariant-loop-each : goal.invariant-loop-each
invariant-loop-each l = record {
  hit : IsTrue l.found → position_or_len (is_byte l.byte) l.bytes < length l.bytes;
  none : l.found ≡ false → l.each-index + position_or_len (is_byte l.byte) (drop l.each-index l.bytes) ≡ position_or_len (is_byte l.byte) l.bytes;
}
