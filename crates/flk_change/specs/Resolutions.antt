-- Changes over intervals, where some windows may be steady or not. Each way to take them is a resolution. All of this
-- is the project's own.
use Rattle.std.specs.Prelude.{◌≡◌, ℕ, ◌+◌, ◌-◌, ◌<◌, ◌≤◌, Bool, true, false, ◌&&◌, List, ◌∷◌, ◌++◌, length, map, slice_index_or, ℤ, pos, ◌+ℤ◌, ◌-ℤ◌, ◌≤ℤ◌, int_lt, int_le}
use Rattle.std.specs.Int.{int_max}
use Rattle.std.specs.List.{All, AllZip, count_by, range_with_len}
use Rattle.flk_exact.specs.Rounding.{IsBetween}
use Rattle.flk_exact.specs.Extreme.{IsLeast, IsGreatest}
use Rattle.flk_num.specs.declared.interval.Interval.{Interval}
use Rattle.flk_change.specs.declared.flag.Flag.{Flag}
use Rattle.flk_change.specs.declared.flag.Flag.TheVariants.{Early, Sure, Not, Doubtful}
use Rattle.flk_change.specs.declared.summary.ChangeSummary.{ChangeSummary}
use Rattle.flk_num.specs.Interval.{lows, highs}
use Rattle.flk_num.specs.Values.{HoldValues, IsNoWider}
use Rattle.flk_change.specs.Steady.{window_at, IsSpread}
use Rattle.flk_change.specs.Changes.{Change, IsChange, first, stop, level, before, distance, Readings, Quantity, Dc, Dmax, Tmax, IsQuantity, IsOfValues}

-- whether a window with this flag may be taken as steady
abbrev pub Resolves : Flag → Bool → Type 0
Resolves Early steady = steady ≡ false
Resolves Sure steady = steady ≡ true
Resolves Not steady = steady ≡ false
Resolves Doubtful steady = Unit {0}

-- one answer for each flag: a Doubtful window is taken as steady or as not steady
abbrev pub AreResolved : List Flag → List Bool → Type 0
AreResolved flags resolution = AllZip Resolves flags resolution

-- the window that ends after the first j half-periods is taken as steady
abbrev pub IsTaken : List Bool → ℕ → Type 0
IsTaken resolution j = slice_index_or (false ∷ resolution) j false ≡ true

abbrev pub is_doubtful : Flag → Bool
is_doubtful Early = false
is_doubtful Sure = false
is_doubtful Not = false
is_doubtful Doubtful = true

abbrev pub doubtful_count : List Flag → ℕ
doubtful_count flags = count_by is_doubtful flags

-- the least and the greatest distance of a number from p to ph and one from q to qh
abbrev pub least_distance : ℤ → ℤ → ℤ → ℤ → ℤ
least_distance p ph q qh = int_max (pos 0) (int_max (p -ℤ qh) (q -ℤ ph))

abbrev pub greatest_distance : ℤ → ℤ → ℤ → ℤ → ℤ
greatest_distance p ph q qh = int_max (ph -ℤ q) (qh -ℤ p)

-- readings of the ends of intervals: by the least distances, and by the greatest ones
abbrev pub readings_by : (ℤ → ℤ → ℤ → ℤ → ℤ) → ℕ → List ℤ → List ℤ → Readings
readings_by between_ends window low high = record {
  step = λ j k. between_ends (level window low k) (level window high k) (level window low j) (level window high j);
  swing = λ c i.
      between_ends (slice_index_or low i (pos 0)) (slice_index_or high i (pos 0))
      (before window low c) (before window high c);
}

abbrev pub least_readings : ℕ → List Interval → Readings
least_readings window halves = readings_by least_distance window (lows halves) (highs halves)

abbrev pub greatest_readings : ℕ → List Interval → Readings
greatest_readings window halves = readings_by greatest_distance window (lows halves) (highs halves)

-- in this resolution the quantity runs from lo to hi
pub record RunsFrom (quantity : Quantity) (window : ℕ) (halves : List Interval) (resolution : List Bool)
    (lo hi : ℤ) : Type 0 where
  pub low : IsQuantity quantity window (length halves) (IsTaken resolution) (least_readings window halves) lo
  pub high : IsQuantity quantity window (length halves) (IsTaken resolution) (greatest_readings window halves) hi

-- v is the least interval that holds the quantity's intervals of all resolutions: it holds each, and some reach its
-- ends
pub record IsHull (quantity : Quantity) (window : ℕ) (halves : List Interval) (flags : List Flag)
    (v : Interval) : Type 0 where
  pub holds : (resolution : List Bool) (lo hi : ℤ) → AreResolved flags resolution
      → RunsFrom quantity window halves resolution lo hi → (v.lo ≤ℤ lo) × (hi ≤ℤ v.hi)
  pub low_reached : (resolution : List Bool) × (hi : ℤ) × AreResolved flags resolution
      × RunsFrom quantity window halves resolution v.lo hi
  pub high_reached : (resolution : List Bool) × (lo : ℤ) × AreResolved flags resolution
      × RunsFrom quantity window halves resolution lo v.hi

-- the interval of a quantity
abbrev pub interval_of : Quantity → ChangeSummary → Interval
interval_of Dc s = s.dc
interval_of Dmax s = s.dmax
interval_of Tmax s = s.t

-- The wide intervals of half-periods whose doubt is not resolved: from 0 to how far their ends are apart; from 0 to
-- that, or to how far one is from nominal where that is more; and from 0 to their number.
pub record AreWide (halves : List Interval) (dc dmax t : Interval) : Type 0 where
  pub least : ℤ
  pub greatest : ℤ
  pub is_least : IsLeast (lows halves) least
  pub is_greatest : IsGreatest (highs halves) greatest
  pub dc_low : dc.lo ≡ pos 0
  pub dc_high : dc.hi ≡ greatest -ℤ least
  pub dmax_low : dmax.lo ≡ pos 0
  pub dmax_high : IsGreatest ((greatest -ℤ least) ∷ map (λ z. distance z (pos 1000000000))
      (lows halves ++ highs halves)) dmax.hi
  pub t_low : t.lo ≡ pos 0
  pub t_high : t.hi ≡ pos (length halves)

-- The summary of half-periods with these flags: the number of Doubtful ones; with up to six of them, for each
-- quantity, the least interval over all resolutions; with more the wide intervals.
pub record IsSummary (window : ℕ) (halves : List Interval) (flags : List Flag) (s : ChangeSummary) : Type 0 where
  pub doubtful : s.doubtful ≡ doubtful_count flags
  pub resolved : (quantity : Quantity) → s.doubtful ≤ 6 → IsHull quantity window halves flags (interval_of quantity s)
  pub wide : 6 < s.doubtful → AreWide halves s.dc s.dmax s.t

-- for every list of values within the intervals, the quantity of that list lies within v
abbrev pub HoldsEachList : Quantity → ℕ → List Interval → Interval → Type 0
HoldsEachList quantity window halves v =
    (values : List ℤ) (m : ℤ) → HoldValues halves values → IsOfValues quantity window values m → IsBetween v.lo v.hi m

-- where no half-period's interval is wider than `width`, the quantity is at most twice as wide in each resolution
abbrev pub KeepsQuantityWidth : Quantity → ℕ → List Interval → List Flag → Type 0
KeepsQuantityWidth quantity window halves flags =
    (width : ℕ) (resolution : List Bool) (lo hi : ℤ) → All (IsNoWider width) halves → AreResolved flags resolution
    → RunsFrom quantity window halves resolution lo hi → hi ≤ℤ (lo +ℤ pos (width + width))

-- how many half-periods of a change may or may not be more than 3.3 percent from the level before
abbrev pub in_doubt : ℕ → List Interval → Change → ℕ
in_doubt window halves c =
    count_by (λ i. int_le ((least_readings window halves).swing c i) (pos 33000000)
    && int_lt (pos 33000000) ((greatest_readings window halves).swing c i))
    (range_with_len (first c) (stop window (length halves) c - first c))

-- in each resolution Tmax is at most as wide as the count of half-periods in doubt, in the change that has most of them
abbrev pub KeepsCount : ℕ → List Interval → List Flag → Type 0
KeepsCount window halves flags =
    (most : ℕ) (resolution : List Bool) (lo hi : ℤ) → AreResolved flags resolution
    → ((c : Change) → IsChange (IsTaken resolution) (length halves) c → in_doubt window halves c ≤ most)
    → RunsFrom Tmax window halves resolution lo hi → hi ≤ℤ (lo +ℤ pos most)

-- where no half-period's interval is wider than `width`, that of how far it is from the level before a change is at
-- most twice as wide
abbrev pub KeepsSwings : ℕ → List Interval → List Flag → Type 0
KeepsSwings window halves flags =
    (width : ℕ) (resolution : List Bool) (c : Change) (i : ℕ) → All (IsNoWider width) halves
    → AreResolved flags resolution
    → IsChange (IsTaken resolution) (length halves) c → i < length halves
    → (greatest_readings window halves).swing c i ≤ℤ ((least_readings window halves).swing c i +ℤ pos (width + width))

-- Where no half-period's interval is wider than `width`, a Doubtful window is near the limit: every list of values
-- within the intervals has a spread there that differs from it by at most twice the width.
abbrev pub AreNearLimit : ℕ → List Interval → List Flag → Type 0
AreNearLimit window halves flags =
    (width i : ℕ) (values : List ℤ) (spread : ℤ) → All (IsNoWider width) halves → i < length flags
    → slice_index_or flags i Early ≡ Doubtful
    → HoldValues halves values → IsSpread (window_at window values (i + 1)) spread
    → IsBetween (pos 4000000 -ℤ pos (width + width)) (pos 4000000 +ℤ pos (width + width)) spread
