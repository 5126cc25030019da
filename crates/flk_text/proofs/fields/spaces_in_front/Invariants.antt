use Rattle.std.proofs.Common.{◌≡◌, ◌+◌, drop}
use Rattle.std.specs.List.{prefix_len}
use Rattle.flk_text.specs.Lines.{is_byte}
use Rattle.flk_text.proofs.fields.spaces_in_front.Given as goal

abbrev pub invariant-loop-each : goal.invariant-loop-each
invariant-loop-each l = record {
  place : l.count ≡ l.each-index;
  left : l.count + prefix_len (is_byte 32) (drop l.each-index l.bytes) ≡ prefix_len (is_byte 32) l.bytes;
}
