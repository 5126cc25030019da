use Rattle.std.proofs.Common.{◌≡◌, ◌+◌, drop}
use Rattle.std.specs.List.{prefix_len}
use Rattle.flk_text.specs.Numeral.{is_digit as digit_byte}
use Rattle.flk_text.proofs.numeral.digit_count.Given as goal

abbrev pub invariant-loop-byte : goal.invariant-loop-byte
invariant-loop-byte l = record {
  place : l.count ≡ l.byte-index;
  left : l.count + prefix_len digit_byte (drop l.byte-index l.bytes) ≡ prefix_len digit_byte l.bytes;
}
