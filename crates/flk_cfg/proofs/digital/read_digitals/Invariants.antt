use Rattle.std.proofs.Common.{◌≡◌, ◌+◌, ℕ, List, length}
use Rattle.flk_cfg.specs.Table.{digital_row}
use Rattle.flk_cfg.specs.File.{AreDigitals}
use Rattle.flk_cfg.specs.Reading.{StandsAt, Progress}
use Rattle.flk_cfg.proofs.digital.read_digitals.Given as goal

abbrev pub invariant-loop-i : goal.invariant-loop-i
invariant-loop-i l = record {
  number : l.reader.number ≡ l.fn.reader.number + l.i;
  count : length l.channels ≡ l.i;
  progress : (bytes : List ℕ) (k : ℕ) → StandsAt l.fn.reader bytes k → Progress (λ j. digital_row (j + 1)) bytes k l.i l.reader;
  channels : (bytes : List ℕ) (k : ℕ) → StandsAt l.fn.reader bytes k → AreDigitals bytes k l.channels;
}
