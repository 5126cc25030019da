use Rattle.std.proofs.Common.{◌≡◌, drop}
use Rattle.std.specs.List.{list_all}
use Rattle.flk_text.specs.Numeral.{is_digit as digit_byte}
use Rattle.flk_field.proofs.date.are_digits.Given as goal

abbrev pub invariant-loop-byte : goal.invariant-loop-byte
invariant-loop-byte l = list_all digit_byte (drop l.byte-index l.bytes) ≡ list_all digit_byte l.bytes
