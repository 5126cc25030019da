-- Steady windows, and the flags that tell them over intervals. IEC 61000-3-3 speaks of a voltage change between times
-- at which the voltage is steady for at least one second. The limit on the values of such a second is the project's
-- own: 4,000,000 billionths of nominal between any two of them.
use Rattle.std.specs.Prelude.{◌≡◌, ℕ, ◌+◌, ◌-◌, ◌<◌, ◌≤◌, List, length, map, slice_index_or, slice_range, ℤ, pos, neg_ℤ, ◌-ℤ◌, ◌<ℤ◌, ◌≤ℤ◌}
use Rattle.std.specs.List.{Contains}
use Rattle.flk_exact.specs.Extreme.{IsLeast, IsGreatest}
use Rattle.flk_num.specs.declared.interval.Interval.{Interval}
use Rattle.flk_num.specs.Interval.{lows, highs}
use Rattle.flk_change.specs.declared.flag.Flag.{Flag}
use Rattle.flk_change.specs.declared.flag.Flag.TheVariants.{Early, Sure, Not, Doubtful}
use Rattle.flk_change.specs.declared.steady.Steady.{Steady}
use Rattle.flk_change.specs.Extreme.{Stands as ExtremeStands}

-- The window that ends after the first j half-periods: the last `window` of them. (All of them where they are fewer.)
abbrev pub window_at : {A : Type 0} → ℕ → List A → ℕ → List A
window_at window xs j = slice_range xs (j - window) j

-- no two of the values differ by more than the limit
abbrev pub AreWithinLimit : List ℤ → Type 0
AreWithinLimit values = (x y : ℤ) → Contains values x → Contains values y → (x -ℤ y) ≤ℤ pos 4000000

-- the window that ends after the first j values is whole, and steady
pub record IsSteady (window : ℕ) (values : List ℤ) (j : ℕ) : Type 0 where
  pub whole : window ≤ j
  pub there : j ≤ length values
  pub close : AreWithinLimit (window_at window values j)

-- the greatest of the values less the least
pub record IsSpread (values : List ℤ) (spread : ℤ) : Type 0 where
  pub greatest : ℤ
  pub least : ℤ
  pub is_greatest : IsGreatest values greatest
  pub is_least : IsLeast values least
  pub is : spread ≡ greatest -ℤ least

-- whichever values the intervals hold, no two differ by more than the limit
abbrev pub AreSurelyClose : List Interval → Type 0
AreSurelyClose halves = (v w : Interval) → Contains halves v → Contains halves w → (v.hi -ℤ w.lo) ≤ℤ pos 4000000

-- whichever values the intervals hold, some two differ by more than the limit
abbrev pub AreSurelyApart : List Interval → Type 0
AreSurelyApart halves = (v : Interval) × (w : Interval) × Contains halves v × Contains halves w
    × (pos 4000000 <ℤ (v.lo -ℤ w.hi))

-- What the flag after the first j half-periods says of the window that ends there: that it is not whole yet, that it
-- is steady for certain, that it is not for certain, or neither.
abbrev pub IsFlag : ℕ → List Interval → ℕ → Flag → Type 0
IsFlag window halves j Early = j < window
IsFlag window halves j Sure = (window ≤ j) × AreSurelyClose (window_at window halves j)
IsFlag window halves j Not = (window ≤ j) × AreSurelyApart (window_at window halves j)
IsFlag window halves j Doubtful = (window ≤ j) × (¬ AreSurelyClose (window_at window halves j))
    × (¬ AreSurelyApart (window_at window halves j))

-- one flag for each half-period, of the window that ends with it
pub record AreFlags (window : ℕ) (halves : List Interval) (flags : List Flag) : Type 0 where
  pub same_length : length flags ≡ length halves
  pub each : (i : ℕ) → i < length flags → IsFlag window halves (i + 1) (slice_index_or flags i Early)

-- how many half-periods the state has taken
abbrev pub taken : Steady → ℕ
taken s = s.count

-- the state stands for these half-periods: it keeps the extremes of the ends of the newest of them, the least as the
-- greatest with the signs turned, and how many they are
pub record Stands (s : Steady) (window : ℕ) (halves : List Interval) : Type 0 where
  pub same_window : s.window ≡ window
  pub count : s.count ≡ length halves
  pub least_low : ExtremeStands s.least_low window (map neg_ℤ (lows halves))
  pub greatest_low : ExtremeStands s.greatest_low window (lows halves)
  pub least_high : ExtremeStands s.least_high window (map neg_ℤ (highs halves))
  pub greatest_high : ExtremeStands s.greatest_high window (highs halves)
