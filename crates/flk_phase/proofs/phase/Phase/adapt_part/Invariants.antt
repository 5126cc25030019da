-- What is found of the samples of a part so far.
use Rattle.std.proofs.Common.{◌≡◌, ℕ, ◌+◌, ◌<◌, List, ◌++◌, length, take, get_or, pos, reverse, ℤ}
use Rattle.std.specs.List.{All}
use Rattle.flk_scale.specs.Scale.{voltage_of, nominal_of}
use Rattle.flk_scale.specs.Voltage.{IsOverRange}
use Rattle.flk_section.specs.Points.{IsPointInRange}
use Rattle.flk_phase.specs.Phase.{scale_of, spare_of, over_of, taken_of, Stands, StandsAhead}
use Rattle.flk_phase.specs.Taking.{IsMadeAlike}
use Rattle.flk_phase.proofs.phase.Phase.adapt_part.Given as goal

abbrev pub invariant-loop-x : goal.invariant-loop-x
invariant-loop-x l =
    let old = l.initial.self in
    record {
      place : l.count ≡ l.x-index;
      long : length l.points ≡ 256;
      alike : IsMadeAlike old l.self;
      over : over_of l.self ≡ over_of old;
      spare : spare_of l.self + l.x-index ≡ spare_of old;
      taken : taken_of l.self ≡ taken_of old + l.x-index;
      none : (k : ℕ) → k < l.x-index → ¬ IsOverRange (nominal_of (scale_of old)) (voltage_of (scale_of old) (get_or l.xs k (pos 0)));
      ahead : (samples : List ℤ) → Stands old samples → StandsAhead l.self (samples ++ take l.x-index l.xs) (reverse (take l.x-index l.points));
      fine : All IsPointInRange (take l.x-index l.points);
    }
