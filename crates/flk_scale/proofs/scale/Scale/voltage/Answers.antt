use Rattle.std.proofs.Common.{rules, arith, ◌*◌, ◌^◌, ◌+ℤ◌, ◌*ℤ◌, sym, ◌∙◌}
use Rattle.std.specs.Prelude.{IsTrue, ◌↔◌}
use Rattle.std.proofs.lemmas.Bool.{false≢true}
use Rattle.flk_scale.specs.Samples.{IsAmong}
use Rattle.flk_scale.specs.Unit.{microvolts}
use Rattle.flk_scale.specs.Slope.{divisor_of}
use Rattle.flk_scale.specs.Voltage.{IsVoltageInterval}
use Rattle.flk_scale.specs.Scale.{voltage_of, nominal_of, uncertainty_of}
use Rattle.flk_scale.proofs.VoltageLemmas.{voltage_holds, voltage_narrow, voltage_near, voltage_ends, voltage_small}
use Rattle.flk_scale.proofs.ScaleLemmas.{within_range, over_range}
use Rattle.flk_scale.proofs.UnitLemmas.{microvolts_some}
use Rattle.flk_scale.proofs.scale.Scale.voltage.Goals as goal

pub returns-then-not-has-clause-over : goal.returns-then-not-has-clause-over
returns-then-not-has-clause-over c =
    let s = c.args.self.now in
    let x = c.args.x in
    let among : IsTrue c.has.result ↔ IsAmong s.within x = search rules in
    let range = s.within_is x c.ranges.x in
    omega (
      arith,
      over_range (x *ℤ s.factor +ℤ s.offset) (divisor_of s.slope) (microvolts s.unit) (1000 * s.supply.nominal_mv * 10 ^ 24) (microvolts_some s.unit) s.nominal_is
          (λ between. false≢true (sym c.if-not-has.true ∙ among.1 (range.1 between))),
    )

pub returns-clause-within : goal.returns-clause-within
returns-clause-within c = λ over.
    let s = c.args.self.now in
    let x = c.args.x in
    let among : IsTrue c.has.result ↔ IsAmong s.within x = search rules in
    let range = s.within_is x c.ranges.x in
    within_range (x *ℤ s.factor +ℤ s.offset) (divisor_of s.slope) (microvolts s.unit) (1000 * s.supply.nominal_mv * 10 ^ 24) (microvolts_some s.unit) s.nominal_is
    (range.0 (among.0 c.if-not-has.false))
    (omega (arith, over))

pub returns-clause-interval : goal.returns-clause-interval
returns-clause-interval c = search rules

pub returns-clause-holds : goal.returns-clause-holds
returns-clause-holds c u near =
    let s = c.args.self.now in
    let ends : IsVoltageInterval (nominal_of s) (uncertainty_of s) (voltage_of s c.args.x) c.interval.result = search rules in
    voltage_holds (nominal_of s) (uncertainty_of s) (voltage_of s c.args.x) c.interval.result u (omega arith) ends near

pub returns-clause-narrow : goal.returns-clause-narrow
returns-clause-narrow c delta covers =
    let s = c.args.self.now in
    let ends : IsVoltageInterval (nominal_of s) (uncertainty_of s) (voltage_of s c.args.x) c.interval.result = search rules in
    voltage_narrow (nominal_of s) (uncertainty_of s) (voltage_of s c.args.x) c.interval.result delta (omega arith) ends covers

pub returns-clause-near : goal.returns-clause-near
returns-clause-near c u delta own covers =
    let s = c.args.self.now in
    let ends : IsVoltageInterval (nominal_of s) (uncertainty_of s) (voltage_of s c.args.x) c.interval.result = search rules in
    voltage_near (nominal_of s) (uncertainty_of s) (voltage_of s c.args.x) c.interval.result u delta (omega arith) ends own covers

pub returns-clause-ends : goal.returns-clause-ends
returns-clause-ends c =
    let s = c.args.self.now in
    let ends : IsVoltageInterval (nominal_of s) (uncertainty_of s) (voltage_of s c.args.x) c.interval.result = search rules in
    voltage_ends (nominal_of s) (uncertainty_of s) (voltage_of s c.args.x) c.interval.result (omega arith) (omega arith) (returns-clause-within c) ends

pub returns-clause-small : goal.returns-clause-small
returns-clause-small c =
    let s = c.args.self.now in
    let ends : IsVoltageInterval (nominal_of s) (uncertainty_of s) (voltage_of s c.args.x) c.interval.result = search rules in
    voltage_small (nominal_of s) (uncertainty_of s) (voltage_of s c.args.x) c.interval.result (omega arith) (omega arith) (returns-clause-within c) ends
