use Rattle.std.proofs.Common.{◌≡◌, ◌+◌, drop}
use Rattle.std.specs.List.{position_or_len}
use Rattle.flk_text.specs.Lines.{is_byte}
use Rattle.flk_text.proofs.scan.position_of.Given as goal

abbrev pub invariant-loop-each : goal.invariant-loop-each
invariant-loop-each l = record {
  place : l.count ≡ l.initial.count + l.each-index;
  left : l.count + position_or_len (is_byte l.byte) (drop l.count l.bytes) ≡ position_or_len (is_byte l.byte) l.bytes;
}
