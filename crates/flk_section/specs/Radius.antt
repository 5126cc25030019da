-- How far the exact signal may lie from the rounded one behind each section of a cascade by the sections' own gains, in
-- units of 2^-48. This keeps the numbers of the sections small. The rule is the project's own.
use Rattle.std.specs.Prelude.{◌^◌, List, [], ◌∷◌, ℤ, pos, ◌+ℤ◌, ◌*ℤ◌, ◌<ℤ◌}
use Rattle.std.specs.List.{All}
use Rattle.flk_exact.specs.Fraction.{Fraction}
use Rattle.flk_exact.specs.Rounding.{ceil_of}
use Rattle.flk_cert.specs.declared.gain.Gain.{Gain}
use Rattle.flk_cert.specs.Bound.{StartsAtRest}
use Rattle.flk_cert.specs.Gain.{coefs_of, input_of, rounding_of}
use Rattle.flk_section.specs.Points.{greatest_point}

-- the radius that follows from the radius r by a gain: `r * input / 2^32`, rounded up, and the share of rounding
abbrev pub radius_by : (input rounding r : ℤ) → ℤ
radius_by input rounding r = ceil_of (r *ℤ input) (pos (2 ^ 32)) +ℤ rounding

-- the radius behind a section, from the radius before it
abbrev pub radius_after : Gain → ℤ → ℤ
radius_after g r = radius_by (input_of g) (rounding_of g) r

-- the radius behind each section, in their order
abbrev pub radii : List Gain → ℤ → List ℤ
radii [] r = []
radii (g ∷ gs) r = radius_after g r ∷ radii gs (radius_after g r)

-- the least whole number of units that is at least w
abbrev pub units_above : Fraction → ℤ
units_above w = ceil_of (pos (2 ^ 48) *ℤ w.num) (pos w.den)

-- the section of the first gain may start from one
abbrev pub FirstStartsAtRest : List Gain → Type 0
FirstStartsAtRest [] = Unit {0}
FirstStartsAtRest (g ∷ gs) = StartsAtRest (coefs_of g)

-- The gains bound the numbers of a cascade: each input gain is below 2^36, the first section may start from one, and
-- from the greatest radius of the adaptor on each radius is below 2^60.
pub record FitsCascade (gains : List Gain) : Type 0 where
  pub inputs : All (λ g. input_of g <ℤ pos (2 ^ 36)) gains
  pub start : FirstStartsAtRest gains
  pub radii : All (λ r. r <ℤ pos (2 ^ 60)) (radii gains (pos greatest_point))
