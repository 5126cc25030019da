use Rattle.std.proofs.Common.{refl}
use Rattle.flk_phase.proofs.MeterLemmas.{stands_weighed}
use Rattle.flk_phase.proofs.meter.Meter.weigh.Goals as goal

pub returns-clause-ahead : goal.returns-clause-ahead
returns-clause-ahead c = λ voltages levels waiting h.
    stands_weighed c.args.self.now _ voltages levels waiting c.args.point c.step-answer.result c.step.result c.step.ensures.rate c.step-answer.ensures.whole refl c.step-answer.ensures.stands
    c.step-answer.ensures.answer c.step.ensures.stands c.step.ensures.level h
