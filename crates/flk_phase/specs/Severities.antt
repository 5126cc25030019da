-- What the state of the severities of a channel stands for. Lists are in the order of time, and have one level for each
-- sample.
use Rattle.std.specs.Prelude.{◌≡◌, ℕ, ◌+◌, ◌-◌, ◌*◌, ◌<◌, ◌≤◌, List, [], ◌∷◌, ◌++◌, length, drop, slice_index_or}
use Rattle.flk_num.specs.declared.interval.Interval.{Interval}
use Rattle.flk_stat.specs.declared.levels.Levels.{Levels}
use Rattle.flk_stat.specs.Levels.{Added, room_of}
use Rattle.flk_result.specs.Conditions.{interval_items}
use Rattle.flk_result.specs.Digits.{IsSeverityInterval}
use Rattle.flk_result.specs.PhaseResult.{zero_interval, IsJudgeable}
use Rattle.flk_phase.specs.declared.severities.Severities.{Severities}

-- one level more, behind which the interval still has room
pub record Gains (old new : Levels) (level : Interval) : Type 0 where
  pub room : 1 < room_of old
  pub added : (n : ℕ) (levels : List Interval) → Added old n levels → Added new n (levels ++ level ∷ [])

-- the last level of an interval, and the severity v of the interval
pub record Ends (old new : Levels) (level v : Interval) : Type 0 where
  pub room : room_of old ≡ 1
  pub added : (n : ℕ) (levels : List Interval) → Added old n levels → Added new n []
  pub severity : (n : ℕ) (levels : List Interval) → Added old n levels → IsSeverityInterval (levels ++ level ∷ []) v
  pub judgeable : IsJudgeable v

-- the severities of the intervals, of which those that have none yet are 0
abbrev pub severities_in : Severities → List Interval
severities_in s = s.pst

-- for how many intervals it was made
abbrev pub count_of : Severities → ℕ
count_of s = s.count

-- The state stands for these levels, where so many belong to the run-in and to an interval, and so many intervals are
-- judged: of the intervals that have all their levels it has the severities, and of the next one the levels so far.
pub record StandsFor (s : Severities) (run_in interval count : ℕ) (levels : List Interval) : Type 0 where
  pub count_is : s.count ≡ count
  pub left : s.run_in ≡ run_in - length levels
  pub none_done : length levels < run_in → s.done ≡ 0
  pub reached : run_in ≤ length levels → run_in + s.done * interval ≤ length levels
  pub newest : List Interval
  pub added : Added s.levels interval newest
  pub newest_is : s.done < count → newest ≡ drop (run_in + s.done * interval) levels
  pub severities : (i : ℕ) → i < s.done
      → IsSeverityInterval (interval_items run_in interval i levels) (slice_index_or s.pst i zero_interval)
  pub none_after : (i : ℕ) → s.done ≤ i → i < 12 → slice_index_or s.pst i zero_interval ≡ zero_interval
