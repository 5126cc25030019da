-- How wide levels and severities are, where the radius of the weighted signal has a bound: a fraction in the unit of the signal.
use Rattle.std.specs.Prelude.{ℕ, ◌+◌, ◌*◌, ◌^◌, ◌<◌, pos, ◌≤ℤ◌}
use Rattle.flk_exact.specs.Fraction.{Fraction, ◌≤ℚ◌, ◌+ℚ◌, ◌*ℚ◌, whole, units}
use Rattle.flk_num.specs.declared.interval.Interval.{Interval}
use Rattle.flk_front.specs.declared.point.Point.{Point}

-- The point's radius is at most `bound - 2^-25`. (2^-25 is 2^23 units of 2^-48.)
pub record BoundsRadius (bound : Fraction) (w : Point) : Type 0 where
  pub natural : pos 0 ≤ℤ w.radius
  pub within : (units w.radius +ℚ units (pos (2 ^ 23))) ≤ℚ bound

-- The root of the upper end is at most that of the lower end and `2 * bound * sqrt(310700)`. Without roots: for every positive fraction `a / b`
-- `hi <= (1 + a/b) * lo + (1 + b/a) * 4 * 310700 * bound^2` holds, here times `a * b`.
pub record IsSpread (bound : Fraction) (v : Interval) : Type 0 where
  pub spread : (a b : ℕ) → 0 < a → 0 < b
      → (whole (pos (a * b)) *ℚ units v.hi)
      ≤ℚ (whole (pos (a * (a + b))) *ℚ units v.lo +ℚ whole (pos (b * (a + b) * 1242800)) *ℚ (bound *ℚ bound))

-- how wide the interval of a short-term severity may be, in billionths: `10^9 * 796 * bound` and 1000
abbrev pub severity_width : Fraction → Fraction
severity_width bound = whole (pos (796 * 10 ^ 9)) *ℚ bound +ℚ whole (pos 1000)
