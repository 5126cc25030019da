-- Voltage changes (IEC 61000-3-3, clause 3), and the three quantities that are judged by them: dc, dmax and Tmax.
-- They are stated once, for any set of steady windows and any reading of distances, so that exact values and the two
-- ends of intervals are cases of one rule.
use Rattle.std.specs.Prelude.{◌≡◌, ◌⊎◌, ℕ, ◌+◌, ◌-◌, ◌<◌, ◌≤◌, List, [], ◌∷◌, length, slice_index_or, ℤ, pos, ◌+ℤ◌, ◌-ℤ◌, ◌≤ℤ◌, int_lt}
use Rattle.std.specs.Int.{int_max}
use Rattle.std.specs.List.{count_by, range_with_len}
use Rattle.flk_exact.specs.Rounding.{floor_of}
use Rattle.flk_change.specs.Steady.{window_at, IsSteady}

-- A change stands between a steady window, which ends after the first j half-periods, and the next one, which ends
-- after the first k; or it is open, after the last steady window; or no window is steady, and all half-periods form
-- one open change.
pub data Change : Type 0 where
  between : ℕ → ℕ → Change
  after : ℕ → Change
  whole : Change

-- These are the changes of n half-periods, where `steady j` says that the window that ends after the first j is
-- steady. Between windows that end one half-period apart there is none.
abbrev pub IsChange : (ℕ → Type 0) → ℕ → Change → Type 0
IsChange steady n (between j k) = steady j × steady k × (j + 1 < k) × (k ≤ n) × ((i : ℕ) → j < i → i < k → ¬ steady i)
IsChange steady n (after j) = steady j × (j < n) × ((i : ℕ) → j < i → i ≤ n → ¬ steady i)
IsChange steady n whole = (i : ℕ) → i ≤ n → ¬ steady i

-- The half-periods of a change, counted from 0, are those from `first` to before `stop`: what follows the first
-- window and comes before the second.
abbrev pub first : Change → ℕ
first (between j k) = j
first (after j) = j
first whole = 0

abbrev pub stop : ℕ → ℕ → Change → ℕ
stop window n (between j k) = k - window
stop window n (after j) = n
stop window n whole = n

abbrev pub total : List ℤ → ℤ
total [] = pos 0
total (x ∷ xs) = x +ℤ total xs

-- the level of a steady window: the mean of its values, rounded down
abbrev pub level : ℕ → List ℤ → ℕ → ℤ
level window values j = floor_of (total (window_at window values j)) (pos window)

-- the level from which a change is reckoned: that of the steady window before it, or nominal where there is none
abbrev pub before : ℕ → List ℤ → Change → ℤ
before window values (between j k) = level window values j
before window values (after j) = level window values j
before window values whole = pos 1000000000

abbrev pub distance : ℤ → ℤ → ℤ
distance p q = int_max (p -ℤ q) (q -ℤ p)

-- What is read of changes: how far the levels of two steady windows are apart, and how far half-period i is from the
-- level before a change.
pub record Readings : Type 0 where
  pub step : ℕ → ℕ → ℤ
  pub swing : Change → ℕ → ℤ

-- the readings of exact values
abbrev pub readings : ℕ → List ℤ → Readings
readings window values = record {
  step = λ j k. distance (level window values k) (level window values j);
  swing = λ c i. distance (slice_index_or values i (pos 0)) (before window values c);
}

-- x is the step of a change that has a steady window after it
abbrev pub IsStep : Readings → Change → ℤ → Type 0
IsStep r (between j k) x = x ≡ r.step j k
IsStep r (after j) x = ⊥
IsStep r whole x = ⊥

-- x is the number at one of the places from `a` to before `b`
abbrev pub IsAmong : (ℕ → ℤ) → ℕ → ℕ → ℤ → Type 0
IsAmong f a b x = (i : ℕ) × (a ≤ i) × (i < b) × (x ≡ f i)

-- at how many of those places the number is above 3.3 percent of nominal
abbrev pub excesses : (ℕ → ℤ) → ℕ → ℕ → ℕ
excesses f a b = count_by (λ i. int_lt (pos 33000000) (f i)) (range_with_len a (b - a))

-- IEC 61000-3-3, clauses 3 and 5: dc is the maximum steady-state voltage change, dmax the maximum absolute voltage
-- change, and Tmax the most time of one change, added up and here in half-periods, at which the voltage is more than
-- 3.3 percent from the level before.
pub data Quantity : Type 0 where
  Dc : Quantity
  Dmax : Quantity
  Tmax : Quantity

-- the numbers that a change gives to a quantity
abbrev pub Gives : Quantity → ℕ → ℕ → Readings → Change → ℤ → Type 0
Gives Dc window n r c x = IsStep r c x
Gives Dmax window n r c x = IsStep r c x ⊎ IsAmong (r.swing c) (first c) (stop window n c) x
Gives Tmax window n r c x = x ≡ pos (excesses (r.swing c) (first c) (stop window n c))

-- m is the greatest number of a set of numbers that are not below 0, or 0 where the set has none
pub record IsGreatestOrZero (set : ℤ → Type 0) (m : ℤ) : Type 0 where
  pub natural : pos 0 ≤ℤ m
  pub bounds : (x : ℤ) → set x → x ≤ℤ m
  pub reached : (m ≡ pos 0) ⊎ set m

-- the greatest number that a change of these n half-periods gives, or 0
abbrev pub IsQuantity : Quantity → ℕ → ℕ → (ℕ → Type 0) → Readings → ℤ → Type 0
IsQuantity quantity window n steady r m =
    IsGreatestOrZero (λ x. (c : Change) × IsChange steady n c × Gives quantity window n r c x) m

-- dc, dmax or Tmax of exact values
abbrev pub IsOfValues : Quantity → ℕ → List ℤ → ℤ → Type 0
IsOfValues quantity window values m =
    IsQuantity quantity window (length values) (IsSteady window values) (readings window values) m
