use Rattle.std.proofs.Common.{arith, refl}
use Rattle.flk_phase.specs.Phase.{scale_of, conditions_of, whole_of, told_by}
use Rattle.flk_phase.proofs.ResultLemmas.{result_of, sensible}
use Rattle.flk_result.proofs.HoldLemmas.{result_keeps}
use Rattle.flk_result.proofs.WidthLemmas.{widths_kept}
use Rattle.flk_result.proofs.RangeLemmas.{result_proper}
use Rattle.flk_phase.proofs.phase.Phase.end.Goals as goal

pub returns-clause-result : goal.returns-clause-result
returns-clause-result c = λ samples h.
    let p = c.args.self.now in
    result_of p samples _ (record { halves = c.count.ensures; changes = c.changes.ensures; severities = c.severities.ensures; count = refl; long_term = c.long_term.ensures }) (omega (arith, c.requires.2, c.requires.1.taken, h.taken)) h

pub returns-clause-promise : goal.returns-clause-promise
returns-clause-promise c = λ samples h.
    let p = c.args.self.now in
    result_keeps (conditions_of p) (whole_of p) (told_by (scale_of p) samples) _ (sensible p).nominal h.filter (returns-clause-result c samples h)

pub returns-clause-widths : goal.returns-clause-widths
returns-clause-widths c = λ samples h.
    let p = c.args.self.now in
    widths_kept (conditions_of p) (whole_of p) (told_by (scale_of p) samples) _ (sensible p).nominal h.filter (returns-clause-result c samples h)

pub returns-clause-proper : goal.returns-clause-proper
returns-clause-proper c =
    let p = c.args.self.now in
    let samples = c.requires.0 in
    let h = c.requires.1 in
    result_proper (conditions_of p) (told_by (scale_of p) samples) _ (sensible p) p.scale.supply.uncertainty_high h.within (omega (arith, c.count.ensures, p.halves.few)) (returns-clause-result c samples h)
