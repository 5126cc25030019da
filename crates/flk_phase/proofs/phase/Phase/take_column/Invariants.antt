-- What is found of the samples so far.
use Rattle.std.proofs.Common.{◌≡◌, ◌≤◌, ℕ, ◌+◌, ◌-◌, ◌<◌, length, take, get_or, pos}
use Rattle.flk_scale.specs.Scale.{voltage_of, nominal_of}
use Rattle.flk_scale.specs.Voltage.{IsOverRange}
use Rattle.flk_phase.specs.Phase.{scale_of, spare_of}
use Rattle.flk_phase.specs.Taking.{IsMadeAlike, HasTaken}
use Rattle.flk_phase.proofs.phase.Phase.take_column.Given as goal

abbrev pub invariant-loop-at : goal.invariant-loop-at
invariant-loop-at l =
    let old = l.initial.self in
    record {
      within : l.at ≤ length l.xs;
      alike : IsMadeAlike old l.self;
      spare : spare_of l.self + l.at ≡ spare_of old;
      taken : HasTaken old l.self (take l.at l.xs);
      none : (k : ℕ) → k < l.at → ¬ IsOverRange (nominal_of (scale_of old)) (voltage_of (scale_of old) (get_or l.xs k (pos 0)));
    }

abbrev pub decreases-loop-at : goal.decreases-loop-at
decreases-loop-at l = length l.xs - l.at
