use Rattle.std.proofs.Common.{◌≡◌, ◌+◌, ℕ, List, length}
use Rattle.flk_cfg.specs.Table.{analog_row}
use Rattle.flk_cfg.specs.File.{AreAnalogs}
use Rattle.flk_cfg.specs.Reading.{StandsAt, Progress}
use Rattle.flk_cfg.proofs.analog.read_analogs.Given as goal

abbrev pub invariant-loop-i : goal.invariant-loop-i
invariant-loop-i l = record {
  number : l.reader.number ≡ l.fn.reader.number + l.i;
  count : length l.channels ≡ l.i;
  progress : (bytes : List ℕ) (k : ℕ) → StandsAt l.fn.reader bytes k → Progress (λ j. analog_row (j + 1)) bytes k l.i l.reader;
  channels : (bytes : List ℕ) (k : ℕ) → StandsAt l.fn.reader bytes k → AreAnalogs bytes k l.channels;
}
