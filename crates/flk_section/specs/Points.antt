-- The points that a cascade takes: the adaptor's outputs, in units of 2^-48. Lists have the newest value first.
use Rattle.std.specs.Prelude.{ℕ, ◌*◌, ◌^◌, List, [], ◌∷◌, map, ℤ, pos, ◌≤ℤ◌}
use Rattle.std.specs.Int.{int_max}
use Rattle.flk_front.specs.declared.point.Point.{Point}

-- 66 times nominal squared: neither the middle nor the radius of a point of the adaptor is above it
abbrev pub greatest_point : ℕ
greatest_point = 66 * 2 ^ 48

-- the point is in the adaptor's range
pub record IsPointInRange (p : Point) : Type 0 where
  pub mid_low : pos 0 ≤ℤ p.mid
  pub mid_high : p.mid ≤ℤ pos greatest_point
  pub radius_low : pos 0 ≤ℤ p.radius
  pub radius_high : p.radius ≤ℤ pos greatest_point

-- the middles of points
abbrev pub mids : List Point → List ℤ
mids ps = map (λ p. p.mid) ps

-- the greatest radius of the points, and 0 where there is none
abbrev pub greatest_radius : List Point → ℤ
greatest_radius [] = pos 0
greatest_radius (p ∷ ps) = int_max p.radius (greatest_radius ps)
