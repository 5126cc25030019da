use Rattle.std.proofs.Common.{◌≡◌, ◌^◌, ◌<◌, Bool, List, map, drop, ℤ}
use Rattle.std.specs.Int.RustNames.{unsigned_abs}
use Rattle.flk_section.specs.RowSection.{gain_of}
use Rattle.flk_section.specs.Row.{StandInRow, Midway, AreReady}
use Rattle.flk_section.proofs.row.step_any.Given as goal

abbrev pub invariant-loop-i : goal.invariant-loop-i
invariant-loop-i l = record {
  small : unsigned_abs l.signal < 2 ^ 60;
  ready : ∥ AreReady (drop l.i l.sections) l.signal ∥₁;
  gains : map gain_of l.sections ≡ map gain_of l.initial.sections;
  midway : (from_one : Bool) (Xs : List ℤ) → StandInRow from_one l.initial.sections Xs → Midway l.i from_one l.sections l.mid Xs l.signal;
}
