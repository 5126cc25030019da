use Rattle.std.proofs.Common.{arith, ◌<◌}
use Rattle.flk_num.specs.declared.interval.Interval.{Interval}
use Rattle.flk_change.specs.declared.summary.ChangeSummary.{ChangeSummary}
use Rattle.flk_change.specs.Changes.{Quantity, Dc, Dmax, Tmax}
use Rattle.flk_change.specs.Resolutions.{IsHull, HoldsEachList, interval_of}
use Rattle.flk_change.proofs.EnclosureLemmas.{hull_holds, wide_dc, wide_dmax, wide_t}
use Rattle.flk_change.proofs.WidthLemmas.{dc_keeps_width, dmax_keeps_width, t_keeps_count, swings_keep_width, near_limit}
use Rattle.flk_change.proofs.summary.changes.Goals as goal
use Rattle.flk_change.proofs.summary.changes.Goals.{then-doubtful-le-MOST_RESOLVED, else-doubtful-le-MOST_RESOLVED}

pub returns-clause-dc_width : goal.returns-clause-dc_width
returns-clause-dc_width c = dc_keeps_width c.args.window c.args.halves.now c.args.flags.now (omega arith) c.requires.flags

pub returns-clause-dmax_width : goal.returns-clause-dmax_width
returns-clause-dmax_width c = dmax_keeps_width c.args.window c.args.halves.now c.args.flags.now (omega arith) c.requires.flags

pub returns-clause-t_width : goal.returns-clause-t_width
returns-clause-t_width c = t_keeps_count c.args.window c.args.halves.now c.args.flags.now

pub returns-clause-swing_width : goal.returns-clause-swing_width
returns-clause-swing_width c = swings_keep_width c.args.window c.args.halves.now c.args.flags.now (omega arith) c.requires.flags

pub returns-clause-near : goal.returns-clause-near
returns-clause-near c = near_limit c.args.window c.args.halves.now c.args.flags.now c.requires.flags

each : (P : Quantity → Interval → Type 0) (s : ChangeSummary) → P Dc s.dc → P Dmax s.dmax → P Tmax s.t → (q : Quantity) → P q (interval_of q s)
each P s dc dmax t Dc = dc
each P s dc dmax t Dmax = dmax
each P s dc dmax t Tmax = t

pub returns-clause-resolved : goal.returns-clause-resolved
returns-clause-resolved c = elim c.if-doubtful-le-MOST_RESOLVED.branch [
  | then-doubtful-le-MOST_RESOLVED w ↦ (λ q few.
      let r = w.resolved-outcome.ensures in
      each (λ q v. IsHull q c.args.window c.args.halves.now c.args.flags.now v) _ (rw w.outcome-is r.dc) (rw w.outcome-is r.dmax) (rw w.outcome-is r.t) q)
  | else-doubtful-le-MOST_RESOLVED w ↦ (λ q few. absurd (omega (arith, few, w.if-doubtful-le-MOST_RESOLVED.false)))
]

pub returns-clause-wide : goal.returns-clause-wide
returns-clause-wide c = elim c.if-doubtful-le-MOST_RESOLVED.branch [
  | then-doubtful-le-MOST_RESOLVED w ↦ (λ many. absurd (omega (arith, many, w.if-doubtful-le-MOST_RESOLVED.true)))
  | else-doubtful-le-MOST_RESOLVED w ↦ (λ many. rw w.outcome-is w.wide-outcome.ensures)
]

pub returns-clause-encloses : goal.returns-clause-encloses
returns-clause-encloses c =
    let window = c.args.window in
    let halves = c.args.halves.now in
    let flags = c.args.flags.now in
    let some : 0 < window = omega arith in
    elim c.if-doubtful-le-MOST_RESOLVED.branch [
      | then-doubtful-le-MOST_RESOLVED w ↦ (
          let r = w.resolved-outcome.ensures in
          each (λ q v. HoldsEachList q window halves v) _
          (rw w.outcome-is (hull_holds Dc window halves flags w.resolved-outcome.result.dc some c.requires.flags r.dc))
          (rw w.outcome-is (hull_holds Dmax window halves flags w.resolved-outcome.result.dmax some c.requires.flags r.dmax))
          (rw w.outcome-is (hull_holds Tmax window halves flags w.resolved-outcome.result.t some c.requires.flags r.t)))
      | else-doubtful-le-MOST_RESOLVED w ↦ (
          let r = w.wide-outcome.result in
          let h = w.wide-outcome.ensures in
          each (λ q v. HoldsEachList q window halves v) _
          (rw w.outcome-is (wide_dc window halves r.dc r.dmax r.t some h))
          (rw w.outcome-is (wide_dmax window halves r.dc r.dmax r.t some h))
          (rw w.outcome-is (wide_t window halves r.dc r.dmax r.t h)))
    ]
