-- How wide the points are.
use Rattle.std.specs.Prelude.{List, drop, pos, ◌<ℤ◌}
use Rattle.std.specs.List.{All, AllZip}
use Rattle.flk_exact.specs.Fraction.{Fraction, ◌≤ℚ◌, ◌+ℚ◌, ◌-ℚ◌, ◌*ℚ◌, size, whole, units}
use Rattle.flk_num.specs.declared.interval.Interval.{Interval}
use Rattle.flk_num.specs.Interval.{IsNear, hundredth}
use Rattle.flk_front.specs.Adaptor.{divisor}

-- delta is from 2^-47 to `1/100 + 2^-47` (a unit is 2^-48); every voltage is within `delta - 2^-48` of both ends of
-- its interval, and at most a in size, which is at most 4; and r is positive and at most each number by which a
-- square was divided. (The first of the means is the newest: no square was divided by it yet.)
pub record AreClose (delta a r : Fraction) (vs : List Interval) (us means : List Fraction) : Type 0 where
  pub delta_low : units (pos 2) ≤ℚ delta
  pub delta_high : delta ≤ℚ (hundredth +ℚ units (pos 2))
  pub near : AllZip (IsNear (delta -ℚ units (pos 1))) vs us
  pub sizes : All (λ u. size u ≤ℚ a) us
  pub a_high : a ≤ℚ whole (pos 4)
  pub r_low : pos 0 <ℤ r.num
  pub divisors : All (λ m. r ≤ℚ divisor m) (drop 1 means)

-- how far the square of a voltage of size at most a moves where the voltage moves by at most delta
abbrev pub square_reach : Fraction → Fraction → Fraction
square_reach delta a = whole (pos 2) *ℚ a *ℚ delta +ℚ delta *ℚ delta

-- w is at least `2 * E * (1/r + a^2/r^2) + 2^-40`, where E is the reach of the squares: both sides times r^2. (2^-40
-- is 256 units.)
pub record CoversOutput (delta a r w : Fraction) : Type 0 where
  pub covers : (whole (pos 2) *ℚ square_reach delta a *ℚ (r +ℚ a *ℚ a) +ℚ units (pos 256) *ℚ (r *ℚ r)) ≤ℚ (w *ℚ
      (r *ℚ r))
