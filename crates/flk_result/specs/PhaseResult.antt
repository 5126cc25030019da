-- What is seen of the result of a phase: the ranges of its values, and when it holds the quantities of a run.
use Rattle.std.specs.Prelude.{◌≡◌, ℕ, ◌<◌, ◌≤◌, ◌^◌, ◌↔◌, length, slice_index_or, Option, Some, None, ℤ, pos, ◌≤ℤ◌}
use lib.Signed.{le_z_yes}
use Rattle.flk_exact.specs.Rounding.{IsBetween}
use Rattle.flk_num.specs.declared.interval.Interval.{Interval}
use Rattle.flk_change.specs.Changes.{Quantity}
use Rattle.flk_change.specs.Resolutions.{interval_of}
use Rattle.flk_result.specs.declared.result.PhaseResult.{PhaseResult}
use Rattle.flk_result.specs.RunQuantities.{RunQuantities}

-- the interval of 0 alone
abbrev pub zero_interval : Interval
zero_interval = record { lo = pos 0; hi = pos 0; ordered = le_z_yes tt }

-- the short-term severity of interval i, from 0
abbrev pub pst_at : PhaseResult → ℕ → Interval
pst_at r i = slice_index_or r.pst i zero_interval

-- ---- ranges

-- the ends are from 0 to 10^12
pub record IsJudgeable (v : Interval) : Type 0 where
  pub low : pos 0 ≤ℤ v.lo
  pub high : v.hi ≤ℤ pos (10 ^ 12)

-- One to twelve intervals were judged, Plt is there exactly where twelve were, and the values are from 0 to 10^12.
pub record IsProper (r : PhaseResult) : Type 0 where
  pub some : 1 ≤ r.count
  pub few : r.count ≤ 12
  pub long_term : (r.count ≡ 12) ↔ ((v : Interval) × (r.plt ≡ Some v))
  pub changes : (quantity : Quantity) → IsJudgeable (interval_of quantity r.changes)
  pub severities : (i : ℕ) → i < 12 → IsJudgeable (pst_at r i)
  pub long_term_value : (v : Interval) → r.plt ≡ Some v → IsJudgeable v

-- ---- the quantities of a run

-- Plt lies within its interval, and stands exactly where the interval does
abbrev pub LongTermIsHeld : Option Interval → Option ℤ → Type 0
LongTermIsHeld None None = Unit {0}
LongTermIsHeld (Some v) (Some w) = IsBetween v.lo v.hi w
LongTermIsHeld _ _ = ⊥

-- each quantity lies within its interval
pub record AreHeld (r : PhaseResult) (q : RunQuantities) : Type 0 where
  pub dc : IsBetween r.changes.dc.lo r.changes.dc.hi q.dc
  pub dmax : IsBetween r.changes.dmax.lo r.changes.dmax.hi q.dmax
  pub tmax : IsBetween r.changes.t.lo r.changes.t.hi q.tmax
  pub count : length q.severities ≡ r.count
  pub severities : (i : ℕ) → i < r.count
      → IsBetween (pst_at r i).lo (pst_at r i).hi (slice_index_or q.severities i (pos 0))
  pub long_term : LongTermIsHeld r.plt q.long_term
