use Rattle.std.proofs.Common.{◌≡◌, ◌<◌, ◌^◌, take}
use Rattle.flk_text.specs.Numeral.{AreDigits, number_from}
use Rattle.flk_text.proofs.field_list.digits_to_comma.Given as goal

abbrev pub invariant-loop-byte : goal.invariant-loop-byte
invariant-loop-byte l = record {
  place : l.count ≡ l.byte-index;
  are : AreDigits (take l.byte-index l.bytes);
  value : l.size ≡ number_from 0 (take l.byte-index l.bytes);
  small : l.size < 10 ^ 12;
}
