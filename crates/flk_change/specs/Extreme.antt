-- The greatest of the newest values of a list, and the values that can still become it.
use Rattle.std.specs.Prelude.{◌≡◌, ◌↔◌, ℕ, ◌-◌, ◌<◌, ◌≤◌, List, length, map, slice_index_or, Option, Some, None, ℤ, pos, ◌<ℤ◌}
use Rattle.std.specs.List.{All, Contains}
use Rattle.circular_buffer.specs.Buffer.{keep_last}
use Rattle.flk_exact.specs.Extreme.{IsGreatest}
use Rattle.flk_change.specs.declared.extreme.Extreme.{Extreme}

-- the greatest value of the window, which is the last `window` values, or all where they are fewer; none exactly
-- where the list is empty
abbrev pub IsGreatestOfWindow : ℕ → List ℤ → Option ℤ → Type 0
IsGreatestOfWindow window values None = length values ≡ 0
IsGreatestOfWindow window values (Some m) = IsGreatest (keep_last window values) m

-- the value at a place of the list, counted from 0
abbrev pub value_at : List ℤ → ℕ → ℤ
value_at values i = slice_index_or values i (pos 0)

-- the first place of the window
abbrev pub window_begin : ℕ → List ℤ → ℕ
window_begin window values = length values - window

-- a place of the window whose value is greater than every later one
pub record IsCandidate (window : ℕ) (values : List ℤ) (i : ℕ) : Type 0 where
  pub within : window_begin window values ≤ i
  pub there : i < length values
  pub greater : (j : ℕ) → i < j → j < length values → value_at values j <ℤ value_at values i

-- these are all the candidates, in the order of the list
pub record AreCandidates (window : ℕ) (values : List ℤ) (places : List ℕ) : Type 0 where
  pub ascending : (k l d : ℕ) → k < l → l < length places → slice_index_or places k d < slice_index_or places l d
  pub each : (i : ℕ) → Contains places i ↔ IsCandidate window values i

-- the list has so many candidates
abbrev pub HasCandidates : ℕ → List ℤ → ℕ → Type 0
HasCandidates window values count = (places : List ℕ) × AreCandidates window values places × (length places ≡ count)

-- how many values the state has taken
abbrev pub pushed : Extreme → ℕ
pushed e = e.count

-- the state stands for these values: it keeps the candidates alone, each with its place, and how many values they are
pub record Stands (e : Extreme) (window : ℕ) (values : List ℤ) : Type 0 where
  pub same_window : e.ring.capacity ≡ window
  pub count : e.count ≡ length values
  pub places : AreCandidates window values (map (λ c. c.place) e.ring.items)
  pub value : All (λ c. c.value ≡ value_at values c.place) e.ring.items
