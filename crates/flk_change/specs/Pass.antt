-- What the parts of `changes` keep on their way through the half-periods. No public contract speaks of it.
use Rattle.std.specs.Prelude.{◌≡◌, ℕ, zero, suc, ◌+◌, ◌<◌, ◌≤◌, Bool, Option, Some, None, List, All, Contains, length, slice_index_or, ℤ, pos, ◌≤ℤ◌}
use Rattle.flk_num.specs.declared.interval.Interval.{Interval}
use Rattle.flk_change.specs.declared.flag.Flag.{Flag}
use Rattle.flk_change.specs.declared.flag.Flag.TheVariants.{Early, Sure, Not, Doubtful}
use Rattle.flk_change.specs.declared.level.Sums.{Sums}
use Rattle.flk_change.specs.declared.swings.Swings.{Swings}
use Rattle.flk_change.specs.declared.outcome.Outcome.{Outcome}
use Rattle.flk_change.specs.declared.pass.Pass.{Pass}
use Rattle.flk_num.specs.Interval.{lows, highs}
use Rattle.flk_num.specs.Values.{IsHalfPeriodRange}
use Rattle.flk_change.specs.Steady.{window_at}
use Rattle.flk_change.specs.Changes.{Change, between, after, whole, IsChange, total, before, Readings, IsAmong, excesses, IsGreatestOrZero, Quantity, Dc, Dmax, Tmax, Gives, IsQuantity}
use Rattle.flk_change.specs.Resolutions.{Resolves, AreResolved, IsTaken, least_distance, greatest_distance, least_readings, greatest_readings}

-- the sums of the lower and of the upper ends in the window that ends after the first j half-periods
pub record AreSums (window : ℕ) (halves : List Interval) (j : ℕ) (s : Sums) : Type 0 where
  pub low : s.low ≡ total (window_at window (lows halves) j)
  pub high : s.high ≡ total (window_at window (highs halves) j)

-- how far half-period i is from a level, at least and at most
abbrev pub least_swing : List Interval → Interval → ℕ → ℤ
least_swing halves level i =
    least_distance (slice_index_or (lows halves) i (pos 0)) (slice_index_or (highs halves) i (pos 0)) level.lo level.hi

abbrev pub greatest_swing : List Interval → Interval → ℕ → ℤ
greatest_swing halves level i =
    greatest_distance (slice_index_or (lows halves) i (pos 0)) (slice_index_or (highs halves) i (pos 0))
    level.lo level.hi

-- the greatest of these from half-period `first` to before `stop`, and how many are above 3.3 percent
pub record AreSwings (halves : List Interval) (level : Interval) (first stop : ℕ) (s : Swings) : Type 0 where
  pub furthest_low : IsGreatestOrZero (IsAmong (least_swing halves level) first stop) s.furthest.lo
  pub furthest_high : IsGreatestOrZero (IsAmong (greatest_swing halves level) first stop) s.furthest.hi
  pub certain : s.over.lo ≡ pos (excesses (least_swing halves level) first stop)
  pub possible : s.over.hi ≡ pos (excesses (greatest_swing halves level) first stop)

-- the changes that are not open
abbrev pub IsClosed : (ℕ → Type 0) → ℕ → Change → Type 0
IsClosed steady n (between j k) = IsChange steady n (between j k)
IsClosed steady n (after j) = ⊥
IsClosed steady n whole = ⊥

-- The greatest number that one of these changes gives, or 0. The half-periods are `count` in all, and the changes are
-- over before the first n of them are.
abbrev pub IsClosedQuantity : Quantity → ℕ → ℕ → ℕ → (ℕ → Type 0) → Readings → ℤ → Type 0
IsClosedQuantity quantity window count n steady r m =
    IsGreatestOrZero (λ x. (c : Change) × IsClosed steady n c × Gives quantity window count r c x) m

-- the last steady window of the first n ends after the first `last`; 0 where there is none
pub record IsLastTaken (steady : ℕ → Type 0) (n last : ℕ) : Type 0 where
  pub within : last ≤ n
  pub here : 0 < last → steady last
  pub none : (i : ℕ) → last < i → i ≤ n → ¬ steady i

-- the open change after it
abbrev pub open_change : ℕ → Change
open_change zero = whole
open_change (suc j) = after (suc j)

-- ---- of many resolutions at once

-- v is the first of these resolutions' numbers in an order: one of them has it, and each has a number that v doesn't
-- come after
pub record IsFirst (order : ℤ → ℤ → Type 0) (family : List Bool → Type 0) (number : List Bool → ℤ → Type 0)
    (v : ℤ) : Type 0 where
  pub reached : (resolution : List Bool) × family resolution × number resolution v
  pub bounds : (resolution : List Bool) → family resolution → (m : ℤ) × number resolution m × order v m

abbrev pub at_most : ℤ → ℤ → Type 0
at_most v m = v ≤ℤ m

abbrev pub at_least : ℤ → ℤ → Type 0
at_least v m = m ≤ℤ v

abbrev pub interval_in : Quantity → Outcome → Interval
interval_in Dc o = o.dc
interval_in Dmax o = o.dmax
interval_in Tmax o = o.t

-- the least intervals that hold those of these resolutions: their lower ends are least, their upper ends greatest
pub record AreHulls (window : ℕ) (halves : List Interval) (family : List Bool → Type 0)
    (number : Quantity → Readings → List Bool → ℤ → Type 0) (o : Outcome) : Type 0 where
  pub low : (quantity : Quantity)
      → IsFirst at_most family (number quantity (least_readings window halves)) (interval_in quantity o).lo
  pub high : (quantity : Quantity)
      → IsFirst at_least family (number quantity (greatest_readings window halves)) (interval_in quantity o).hi

-- the number of a resolution, by the changes that are over before the first n half-periods are
abbrev pub closed_number : ℕ → ℕ → ℕ → Quantity → Readings → List Bool → ℤ → Type 0
closed_number window count n quantity r resolution m = IsClosedQuantity quantity window count n (IsTaken resolution) r m

-- the same by all changes
abbrev pub all_number : ℕ → ℕ → Quantity → Readings → List Bool → ℤ → Type 0
all_number window count quantity r resolution m = IsQuantity quantity window count (IsTaken resolution) r m

-- the resolutions whose last steady window, of the first n, ends after the first `last`
abbrev pub HasLast : List Flag → ℕ → ℕ → List Bool → Type 0
HasLast flags n last resolution = AreResolved flags resolution × IsLastTaken (IsTaken resolution) n last

-- those of them that take the window as steady that ends after one half-period more
abbrev pub HasNext : List Flag → ℕ → ℕ → List Bool → Type 0
HasNext flags n last resolution = HasLast flags n last resolution × IsTaken resolution (n + 1)

-- that window may be taken as steady, or as not steady
abbrev pub MayResolve : List Flag → ℕ → Bool → Type 0
MayResolve flags n steady = (n < length flags) × Resolves (slice_index_or flags n Early) steady

-- the pass has gone through the first n half-periods, for all resolutions with its last steady window
pub record HasPassed (window : ℕ) (halves : List Interval) (flags : List Flag) (n : ℕ) (p : Pass) : Type 0 where
  pub before_low : p.before.lo ≡ before window (lows halves) (open_change p.last)
  pub before_high : p.before.hi ≡ before window (highs halves) (open_change p.last)
  pub in_range : IsHalfPeriodRange p.before
  pub outcome : AreHulls window halves (HasLast flags n p.last) (closed_number window (length halves) n) p.outcome

-- these passes have, and each resolution has its last steady window in one of them
pub record HavePassed (window : ℕ) (halves : List Interval) (flags : List Flag) (n : ℕ)
    (passes : List Pass) : Type 0 where
  pub each : All (HasPassed window halves flags n) passes
  pub cover : (resolution : List Bool) → AreResolved flags resolution
      → (p : Pass) × Contains passes p × IsLastTaken (IsTaken resolution) n p.last

abbrev pub IsPassInRange : Pass → Type 0
IsPassInRange p = IsHalfPeriodRange p.before

-- how many of so many passes stay before that of a window with this flag
abbrev pub kept_before : Flag → ℕ → Option ℕ
kept_before Early count = None
kept_before Sure count = Some 0
kept_before Not count = None
kept_before Doubtful count = Some count
