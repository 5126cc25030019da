-- The squaring and smoothing of the flickermeter of IEC 61000-4-15 (its block 4) over exact fractions: the weighted signal is squared and
-- goes through a sliding mean of the first order with a time constant of 300 ms. The scale of the levels is the project's own. Lists have
-- the newest value first.
use Rattle.std.specs.Prelude.{ℕ, ◌^◌, List, [], ◌∷◌, pos}
use Rattle.flk_exact.specs.Fraction.{Fraction, ◌≈ℚ◌, ◌-ℚ◌, ◌*ℚ◌, whole}

-- by which a square is multiplied, so that a sine of 8.8 Hz and 0.25 % gives a level of about 1
abbrev pub scale : ℕ
scale = 310700

-- From the level before the weighted signal w to the level p after it: `2^32 * (p - before) = c * (scale * w^2 - before)`. (flk_num's
-- `smoothing_number` is the c of each sampling rate.)
pub record IsNextLevel (c : ℕ) (before w p : Fraction) : Type 0 where
  pub is : (whole (pos (2 ^ 32)) *ℚ (p -ℚ before)) ≈ℚ (whole (pos c) *ℚ (whole (pos scale) *ℚ (w *ℚ w) -ℚ before))

-- the newest level, and 0 before the first sample
abbrev pub newest_level : List Fraction → Fraction
newest_level [] = whole (pos 0)
newest_level (p ∷ ps) = p

-- ps are the levels of the weighted signal ws, one for each sample
abbrev pub AreLevels : (c : ℕ) → (ws ps : List Fraction) → Type 0
AreLevels c [] [] = Unit {0}
AreLevels c (w ∷ ws) (p ∷ ps) = IsNextLevel c (newest_level ps) w p × AreLevels c ws ps
AreLevels c _ _ = ⊥
