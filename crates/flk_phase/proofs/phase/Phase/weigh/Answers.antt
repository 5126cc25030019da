use Rattle.std.proofs.Common.{refl}
use Rattle.flk_phase.proofs.PhaseLemmas.{stands_weighed}
use Rattle.flk_phase.proofs.phase.Phase.weigh.Goals as goal

pub returns-clause-ahead : goal.returns-clause-ahead
returns-clause-ahead c = λ samples waiting h.
    stands_weighed c.args.self.now _ samples waiting c.args.point c.weigh-level.result (record {
      scale = refl;
      setup = refl;
      whole_is = c.weigh-level.ensures.whole;
      taken = refl;
      halves = refl;
      meter = c.weigh-level.ensures.ahead;
      severities = c.push.ensures.stands;
    }) h
