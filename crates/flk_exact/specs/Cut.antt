-- Where a recording is cut into half-periods. The cut reads the signs of the recorded samples alone, so every run has
-- the same cut. IEC 61000-3-3, clause 3, judges r.m.s. values of half-periods; this rule of their ends is the
-- project's own.
use Rattle.std.specs.Prelude.{◌≡◌, ◌≢◌, ◌⊎◌, ℕ, ◌+◌, ◌-◌, ◌*◌, ◌<◌, ◌≤◌, Bool, false, List, [], ◌∷◌, length, slice_index_or, slice_range}

-- The half-period that begins at sample s ends before sample p: after twice as many samples as half a nominal period
-- has, or where the sign changes after at least half of them. (`half` is the number of samples of half a nominal
-- period.)
abbrev pub Ends : ℕ → List Bool → ℕ → ℕ → Type 0
Ends half negative s p =
    (p ≡ s + 2 * half)
    ⊎ ((half ≤ 2 * (p - s)) × (slice_index_or negative p false ≢ slice_index_or negative (p - 1) false))

-- p is the least position after s at which it ends
pub record IsNextCut (half : ℕ) (negative : List Bool) (s p : ℕ) : Type 0 where
  pub later : s < p
  pub there : p < length negative
  pub ends : Ends half negative s p
  pub least : (q : ℕ) → s < q → q < p → ¬ Ends half negative s q

-- from s on, these are all the cuts
abbrev pub AreCutsFrom : ℕ → List Bool → ℕ → List ℕ → Type 0
AreCutsFrom half negative s [] = (q : ℕ) → s < q → q < length negative → ¬ Ends half negative s q
AreCutsFrom half negative s (p ∷ ps) = IsNextCut half negative s p × AreCutsFrom half negative p ps

-- The half-periods of the recording end before these positions. The first begins at sample 0, each other one where the
-- one before ends; what follows the last cut belongs to no half-period.
abbrev pub AreCuts : ℕ → List Bool → List ℕ → Type 0
AreCuts half negative cuts = AreCutsFrom half negative 0 cuts

-- the parts of a list that end at the cuts, the first of them from s on
abbrev pub parts_from : {A : Type 0} → ℕ → List ℕ → List A → List (List A)
parts_from s [] xs = []
parts_from s (p ∷ ps) xs = slice_range xs s p ∷ parts_from p ps xs

-- the half-periods of a list with one item for each sample
abbrev pub half_periods : {A : Type 0} → List ℕ → List A → List (List A)
half_periods cuts xs = parts_from 0 cuts xs

-- the last of the cuts, or s where there is none
abbrev pub last_cut_from : ℕ → List ℕ → ℕ
last_cut_from s [] = s
last_cut_from s (p ∷ ps) = last_cut_from p ps

-- where the half-period that is not over begins: at the last of the cuts, or at 0
abbrev pub last_cut : List ℕ → ℕ
last_cut cuts = last_cut_from 0 cuts
