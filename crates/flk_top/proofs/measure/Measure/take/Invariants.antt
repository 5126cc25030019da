-- What is found of the records so far.
use Rattle.std.proofs.Common.{◌≡◌, ◌+◌, List, ◌++◌, map, take}
use Rattle.flk_exact.specs.Fraction.{Fraction}
use Rattle.flk_top.specs.Measuring.{told_voltage, HasMeasured, IsSameMeasurement}
use Rattle.flk_top.proofs.measure.Measure.take.Given as goal

abbrev pub invariant-loop-row : goal.invariant-loop-row
invariant-loop-row l = record {
  same : IsSameMeasurement l.initial.self l.self;
  taken : l.self.taken ≡ l.initial.self.taken + l.row;
  measured : (recorded : List Fraction) → HasMeasured l.initial.self recorded → HasMeasured l.self (recorded ++ map (told_voltage l.initial.self) (take l.row l.block.records));
}
