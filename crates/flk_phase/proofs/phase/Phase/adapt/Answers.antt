use Rattle.std.proofs.Common.{rules, refl, ◌≡◌, to_z, of_z}
use Rattle.std.specs.Int.{w32}
use Rattle.flk_phase.proofs.PhaseLemmas.{stands_adapted}
use Rattle.flk_phase.proofs.phase.Phase.adapt.Goals as goal

pub returns-clause-ahead : goal.returns-clause-ahead
returns-clause-ahead c = λ samples waiting h.
    let same : to_z w32 (of_z w32 c.args.x) ≡ c.args.x = search rules in
    let negative = rw same at c.negative-negative.ensures in
    let within = rw same at c.in-Ok.ensures.within in
    let interval = rw same at c.in-Ok.ensures.interval in
    stands_adapted c.args.self.now _ samples waiting c.args.x c.in-Ok.voltage c.adapt.result (record {
      scale = refl;
      setup = refl;
      whole_is = c.adapt.ensures.whole;
      taken = refl;
      fine = within;
      interval = interval;
      halves = rw negative at c.push.ensures.stands;
      meter = c.adapt.ensures.ahead;
      severities = refl;
    }) h
