use Rattle.std.proofs.Common.{◌≤◌, ◌<◌, ◌^◌, ◌+◌, ℕ, take}
use Rattle.flk_text.specs.Numeral.{number_from}
use Rattle.flk_text.specs.DigitsRead.{StandsFor}
use Rattle.flk_text.proofs.digits.with_digits.Given as goal

abbrev pub invariant-loop-digit : goal.invariant-loop-digit
invariant-loop-digit l = record {
  few : l.read.significand < 10 ^ 18;
  stands : (n : ℕ) → StandsFor l.fn.start n → StandsFor l.read (number_from n (take l.digit-index l.digits));
  zeros : l.read.zeros ≤ l.fn.start.zeros + l.digit-index;
}
