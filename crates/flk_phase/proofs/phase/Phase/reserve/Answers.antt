use Rattle.std.proofs.Common.{refl}
use Rattle.flk_phase.proofs.TakingLemmas.{same_refitted}
use Rattle.flk_phase.proofs.phase.Phase.reserve.Goals as goal

pub returns-clause-same : goal.returns-clause-same
returns-clause-same c =
    same_refitted c.args.self.now _ (record { scale = refl; channel = refl; setup = refl; taken = refl; meter = refl; severities = refl; halves = c.reserve.ensures.same }) refl
