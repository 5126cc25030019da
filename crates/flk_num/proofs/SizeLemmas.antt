-- The least and the greatest size of an interval: the sizes of the voltages that it holds lie between them, and how far they are apart.
use Rattle.std.proofs.Common.{◌≡◌, ℕ, ◌+◌, ◌*◌, ◌^◌, ◌<◌, ◌≤◌, max, ℤ, pos, ◌+ℤ◌, ◌*ℤ◌, ◌≤ℤ◌, arith}
use Rattle.std.specs.Prelude.{suc, negsuc}
use Rattle.std.specs.Int.RustNames.{unsigned_abs}
use Rattle.std.proofs.lemmas.Int.{ints}
use Rattle.std.proofs.Math.Nat.{mul-le-mul_right}
use Rattle.flk_exact.specs.Fraction.{Fraction}
use Rattle.flk_exact.proofs.NumeratorLemmas.{IsOver, above_own, below_own}
use Rattle.flk_num.specs.declared.interval.Interval.{Interval}
use Rattle.flk_num.specs.Interval.{Holds}
use Rattle.flk_num.specs.Square.{least_size, greatest_size}

least_of : (lo hi z : ℤ) (d : ℕ) → 0 < d → (lo *ℤ pos d) ≤ℤ (z *ℤ pos (2 ^ 48)) → (z *ℤ pos (2 ^ 48)) ≤ℤ (hi *ℤ pos d) → least_size lo hi * d ≤ unsigned_abs z * 2 ^ 48
least_of (pos a) hi (pos z) d h p q = omega (arith, ints)
least_of (pos a) hi (negsuc z) d h p q = absurd (omega (arith, ints))
least_of (negsuc a) (pos b) z d h p q = omega arith
least_of (negsuc a) (negsuc b) (pos z) d h p q = absurd (omega (arith, ints))
least_of (negsuc a) (negsuc b) (negsuc z) d h p q = omega (arith, ints)

greatest_of : (lo hi z : ℤ) (d : ℕ) → 0 < d → (lo *ℤ pos d) ≤ℤ (z *ℤ pos (2 ^ 48)) → (z *ℤ pos (2 ^ 48)) ≤ℤ (hi *ℤ pos d) → unsigned_abs z * 2 ^ 48 ≤ greatest_size lo hi * d
greatest_of lo (pos b) (pos z) d h p q = omega (arith, ints, mul-le-mul_right {m = b} {n = max (unsigned_abs lo) b} d (omega arith))
greatest_of lo (negsuc b) (pos z) d h p q = absurd (omega (arith, ints))
greatest_of (negsuc a) hi (negsuc z) d h p q = omega (arith, ints, mul-le-mul_right {m = suc a} {n = max (suc a) (unsigned_abs hi)} d (omega arith))
greatest_of (pos a) hi (negsuc z) d h p q = absurd (omega (arith, ints))

-- the voltage is z over delta
pub least_held : (v : Interval) (u : Fraction) (delta : ℕ) (z : ℤ) → 0 < delta → IsOver delta u z → Holds v u → least_size v.lo v.hi * delta ≤ unsigned_abs z * 2 ^ 48
least_held v u delta z some over held = least_of v.lo v.hi z delta some (above_own delta _ u z over held.above) (below_own delta u _ z over held.below)

pub greatest_held : (v : Interval) (u : Fraction) (delta : ℕ) (z : ℤ) → 0 < delta → IsOver delta u z → Holds v u → unsigned_abs z * 2 ^ 48 ≤ greatest_size v.lo v.hi * delta
greatest_held v u delta z some over held = greatest_of v.lo v.hi z delta some (above_own delta _ u z over held.above) (below_own delta u _ z over held.below)

pub sizes_ordered : (lo hi : ℤ) → least_size lo hi ≤ greatest_size lo hi
sizes_ordered (pos a) hi = omega arith
sizes_ordered (negsuc a) (pos b) = omega arith
sizes_ordered (negsuc a) (negsuc b) = omega arith

-- the greatest size is at most the least and the width, each times q
pub sizes_apart : (lo hi : ℤ) (q t : ℕ) → lo ≤ℤ hi → (hi *ℤ pos q) ≤ℤ (lo *ℤ pos q +ℤ pos t) → greatest_size lo hi * q ≤ least_size lo hi * q + t
sizes_apart (pos a) (pos b) q t o h =
    let top : max a b ≡ b = omega (arith, ints) in
    rw top (omega (arith, ints))
sizes_apart (pos a) (negsuc b) q t o h = absurd (omega (arith, ints))
sizes_apart (negsuc a) (pos b) q t o h =
    let top : max (suc a) b ≤ suc a + b = omega arith in
    omega (arith, ints, mul-le-mul_right q top)
sizes_apart (negsuc a) (negsuc b) q t o h =
    let top : max (suc a) (suc b) ≡ suc a = omega (arith, ints) in
    rw top (omega (arith, ints))
