use Rattle.std.proofs.Common.{rules, refl, ◌≡◌, to_z, of_z}
use Rattle.std.specs.Int.{w32}
use Rattle.flk_scale.specs.Scale.{voltage_of}
use Rattle.flk_top.proofs.MeasureLemmas.{measured_more}
use Rattle.flk_top.proofs.measure.Measure.sample.Goals as goal

pub returns-clause-measured : goal.returns-clause-measured
returns-clause-measured c = λ recorded h.
    let same : to_z w32 (of_z w32 c.args.x) ≡ c.args.x = search rules in
    let negative = rw same at c.negative-negative.ensures in
    let none = rw negative at c.push-half_period.ensures.none in
    let some = rw negative at c.push-half_period.ensures.some in
    let within = rw same at c.in-Ok.ensures.within in
    let interval = rw same at c.in-Ok.ensures.interval in
    measured_more c.args.self.now _ recorded (voltage_of c.args.self.now.matched.scale c.args.x) c.in-Ok.voltage c.push-half_period.result h refl refl c.with_half_period-self.ensures within interval none some
