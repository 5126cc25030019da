use Rattle.std.proofs.Common.{ℕ, List, refl, subst}
use Rattle.flk_num.specs.declared.interval.Interval.{Interval}
use Rattle.flk_front.specs.Front.{Stands as FrontStands}
use Rattle.flk_front.specs.Rounded.{newest_output, IsPoint}
use Rattle.flk_phase.proofs.MeterLemmas.{stands_adapted}
use Rattle.flk_phase.proofs.meter.Meter.adapt.Goals as goal

pub returns-clause-ahead : goal.returns-clause-ahead
returns-clause-ahead c = λ voltages levels waiting h.
    let old = c.args.self.now in
    let point = c.push.result in
    let v = c.args.voltage in
    let at_rate = subst (λ (e : ℕ). (vs : List Interval) → FrontStands old.front vs → IsPoint (newest_output e vs v) point) old.one_rate c.push.ensures.point in
    stands_adapted old _ voltages levels waiting v point refl refl refl refl c.push.ensures.stands at_rate h
