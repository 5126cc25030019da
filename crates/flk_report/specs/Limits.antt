-- The limits that a report judges by (IEC 61000-3-3, clause 5), and the lines of a result that are judged.
use Rattle.std.specs.Prelude.{◌*◌, ◌/◌, List, [], ◌∷◌, ◌++◌, map, take, Option, Some, None, ℤ, pos}
use Rattle.flk_num.specs.declared.interval.Interval.{Interval}
use Rattle.flk_num.specs.declared.lamp.Lamp.{Lamp}
use Rattle.flk_num.specs.Lamp.{window_of}
use Rattle.flk_change.specs.declared.summary.ChangeSummary.{ChangeSummary}
use Rattle.flk_job.specs.declared.job.Job.{Job}
use Rattle.flk_result.specs.declared.result.PhaseResult.{PhaseResult}
use Rattle.flk_result.specs.RunQuantities.{RunQuantities}

-- dc: 3.3 percent of nominal, in billionths
abbrev pub dc_limit : ℤ
dc_limit = pos 33000000

-- dmax: 4, 6 or 7 percent of nominal, as the job says, in billionths
abbrev pub dmax_limit : Job → ℤ
dmax_limit j = pos (10000000 * j.dmax_percent)

-- Tmax: 500 ms, in half-periods
abbrev pub tmax_limit : Lamp → ℤ
tmax_limit lamp = pos (window_of lamp / 2)

-- Pst: 1.0 and Plt: 0.65, in billionths
abbrev pub pst_limit : ℤ
pst_limit = pos 1000000000

abbrev pub plt_limit : ℤ
plt_limit = pos 650000000

-- an interval with the limit by which it is judged
pub record JudgedLine : Type 0 where
  pub interval : Interval
  pub limit : ℤ

abbrev pub judged_by : ℤ → Interval → JudgedLine
judged_by limit v = record { interval = v; limit = limit }

abbrev pub judged_changes : Job → ChangeSummary → List JudgedLine
judged_changes j s = judged_by dc_limit s.dc ∷ judged_by (dmax_limit j) s.dmax ∷ judged_by (tmax_limit j.lamp) s.t ∷ []

abbrev pub judged_long_term : Option Interval → List JudgedLine
judged_long_term None = []
judged_long_term (Some v) = judged_by plt_limit v ∷ []

-- the judged lines of a channel: dc, dmax, Tmax, one Pst for each interval, and Plt where it stands
abbrev pub judged_lines : Job → PhaseResult → List JudgedLine
judged_lines j r =
    judged_changes j r.changes ++ (map (judged_by pst_limit) (take r.count r.pst) ++ judged_long_term r.plt)

-- ---- the same quantities of one exact run

-- a quantity with the limit by which it is judged
pub record JudgedQuantity : Type 0 where
  pub value : ℤ
  pub limit : ℤ

abbrev pub quantity_by : ℤ → ℤ → JudgedQuantity
quantity_by limit z = record { value = z; limit = limit }

abbrev pub long_term_quantities : Option ℤ → List JudgedQuantity
long_term_quantities None = []
long_term_quantities (Some w) = quantity_by plt_limit w ∷ []

abbrev pub judged_quantities : Job → RunQuantities → List JudgedQuantity
judged_quantities j q =
    (quantity_by dc_limit q.dc ∷ quantity_by (dmax_limit j) q.dmax ∷ quantity_by (tmax_limit j.lamp) q.tmax ∷ [])
    ++ (map (quantity_by pst_limit) q.severities ++ long_term_quantities q.long_term)
