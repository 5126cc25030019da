-- What the state of a front stands for, and what a point says of exact outputs.
use Rattle.std.specs.Prelude.{◌≡◌, ℕ, List}
use Rattle.flk_exact.specs.Fraction.{Fraction, ◌≤ℚ◌, ◌-ℚ◌, size, units}
use Rattle.flk_num.specs.declared.interval.Interval.{Interval}
use Rattle.flk_front.specs.declared.front.Front.{Front}
use Rattle.flk_front.specs.declared.point.Point.{Point}
use Rattle.flk_front.specs.Rounded.{mean_of}

-- the exponent of the front's sampling rate: a sample counts for one part in 2 to this in the mean
abbrev pub exponent_of : Front → ℕ
exponent_of front = front.exponent

-- The state stands for these samples, newest first: it keeps the mean after them.
abbrev pub Stands : Front → List Interval → Type 0
Stands front vs = front.mean ≡ mean_of (exponent_of front) vs

-- y is at most the radius of p away from its middle
pub record IsWithin (p : Point) (y : Fraction) : Type 0 where
  pub within : size (y -ℚ units p.mid) ≤ℚ units p.radius
