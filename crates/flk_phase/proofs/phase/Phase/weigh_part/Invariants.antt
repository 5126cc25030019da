-- What is found of the points so far.
use Rattle.std.proofs.Common.{◌≡◌, List, drop, reverse, ℤ}
use Rattle.flk_phase.specs.Phase.{spare_of, over_of, taken_of, StandsAhead}
use Rattle.flk_phase.specs.Taking.{IsMadeAlike}
use Rattle.flk_phase.proofs.phase.Phase.weigh_part.Given as goal

abbrev pub invariant-loop-point : goal.invariant-loop-point
invariant-loop-point l =
    let old = l.initial.self in
    record {
      alike : IsMadeAlike old l.self;
      over : over_of l.self ≡ over_of old;
      spare : spare_of l.self ≡ spare_of old;
      taken : taken_of l.self ≡ taken_of old;
      stands : (samples : List ℤ) → StandsAhead old samples (reverse l.points) → StandsAhead l.self samples (reverse (drop l.point-index l.points));
    }
