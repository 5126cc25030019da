-- Rounding a quotient of fractions to the nearest whole number of parts of 2^-32.
use Rattle.std.specs.Prelude.{ℤ, pos, ◌*ℤ◌, ◌<ℤ◌, ◌^◌}
use Rattle.std.proofs.Common.{lit<}
use Rattle.flk_exact.specs.Fraction.{Fraction, ◌≤ℚ◌, ◌+ℚ◌, ◌-ℚ◌, ◌*ℚ◌, whole}

infix 50 ◌<ℚ◌
-- p is less than q
pub record ◌<ℚ◌ (p q : Fraction) : Type 0 where
  pub cross : (p.num *ℤ pos q.den) <ℤ (q.num *ℤ pos p.den)

abbrev pub half : Fraction
half = record { num = pos 1; den = 2; positive = lit< tt }

-- k is the nearest whole number to 2^32 times p over q, halves upward, for a positive q:
-- `(k - 1/2) q <= 2^32 p < (k + 1/2) q`
pub record IsNearestQuotient (p q : Fraction) (k : ℤ) : Type 0 where
  pub positive : whole (pos 0) <ℚ q
  pub not_above : ((whole k -ℚ half) *ℚ q) ≤ℚ (whole (pos (2 ^ 32)) *ℚ p)
  pub not_below : (whole (pos (2 ^ 32)) *ℚ p) <ℚ ((whole k +ℚ half) *ℚ q)
