-- Sections in a row, as the code holds them.
use Rattle.std.specs.Prelude.{◌≡◌, ℕ, zero, suc, ◌^◌, Bool, true, false, List, [], ◌∷◌, map, ℤ, pos, ◌≤ℤ◌, ◌<ℤ◌}
use Rattle.std.specs.List.{All}
use Rattle.flk_cert.specs.declared.gain.Gain.{Gain}
use Rattle.flk_cert.specs.RoundedSection.{state, output, outputs}
use Rattle.flk_front.specs.declared.point.Point.{Point}
use Rattle.flk_section.specs.declared.row_section.RowSection.{RowSection}
use Rattle.flk_section.specs.Kept.{IsNearRest}
use Rattle.flk_section.specs.RowSection.{gain_of, coefs_in, starts_from_one, SectionStands}
use Rattle.flk_section.specs.Points.{mids, IsPointInRange}
use Rattle.flk_section.specs.Radius.{radii, FitsCascade}

-- The sections stand in a row for these inputs of the first, newest first: each for the outputs of the one before it.
abbrev pub StandInRow : (from_one : Bool) → List RowSection → List ℤ → Type 0
StandInRow from_one [] Xs = Unit {0}
StandInRow from_one (s ∷ ss) Xs = (starts_from_one s ≡ from_one) × SectionStands s Xs
    × StandInRow false ss (outputs (coefs_in s) from_one Xs)

-- The input X went through the first i sections after the inputs Xs, and came to Y; the others are as before.
abbrev pub Midway : ℕ → (from_one : Bool) → List RowSection → (X : ℤ) → List ℤ → (Y : ℤ) → Type 0
Midway zero from_one ss X Xs Y = (Y ≡ X) × StandInRow from_one ss Xs
Midway (suc i) from_one [] X Xs Y = ⊥
Midway (suc i) from_one (s ∷ ss) X Xs Y = (starts_from_one s ≡ from_one) × SectionStands s (X ∷ Xs)
    × Midway i false ss (output (coefs_in s) (state (coefs_in s) from_one Xs) X) (outputs (coefs_in s) from_one Xs) Y

-- ---- what the code keeps

-- The sections stand in a row for inputs that lie, with the next one, X, within r of the first section's rest; and r
-- and the radii from it on are below 2^60.
pub record AreReady (ss : List RowSection) (X : ℤ) : Type 0 where
  pub from_one : Bool
  pub r : ℤ
  pub inputs : List ℤ
  pub natural : pos 0 ≤ℤ r
  pub small : r <ℤ pos (2 ^ 60)
  pub near : All (IsNearRest from_one r) (X ∷ inputs)
  pub stand : StandInRow from_one ss inputs
  pub radii : All (λ z. z <ℤ pos (2 ^ 60)) (radii (map gain_of ss) r)

-- The sections have these gains, which fit, and stand in a row for the middles of points in the adaptor's range.
pub record AreReached (gains : List Gain) (ss : List RowSection) : Type 0 where
  pub gains_are : map gain_of ss ≡ gains
  pub points : List Point
  pub ranges : All IsPointInRange points
  pub stand : StandInRow true ss (mids points)
  pub fits : FitsCascade gains
