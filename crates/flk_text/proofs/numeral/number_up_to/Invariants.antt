use Rattle.std.proofs.Common.{◌≡◌, take, min}
use Rattle.flk_text.specs.Numeral.{number_from}
use Rattle.flk_text.proofs.numeral.number_up_to.Given as goal

abbrev pub invariant-loop-byte : goal.invariant-loop-byte
invariant-loop-byte l = record {
  value : l.number ≡ min (number_from 0 (take l.byte-index l.digits)) l.cap;
}
