-- Squares and their order, and the least and the greatest square of a number between two whole numbers.
use Rattle.std.proofs.Common.{◌≡◌, suc, ◌*◌, ◌≤◌, ℤ, pos, ◌*ℤ◌, ◌≤ℤ◌, max, refl, sym, subst, ⊎_elim, arith}
use Rattle.std.specs.Prelude.{negsuc, neg_ℤ}
use Rattle.std.specs.Int.RustNames.{unsigned_abs}
use Rattle.std.specs.Int.{int_max}
use Rattle.std.proofs.lemmas.Int.{ints, clamps}
use Rattle.std.proofs.lemmas.Bool.{cases_lt}
use Rattle.std.proofs.lemmas.Nat.{mul-le}
use Rattle.flk_num.specs.Square.{AreSquares, least_size, greatest_size}
use Rattle.flk_exact.proofs.WholeLemmas.{square_is}

-- squares keep the order of sizes
pub square_≤ : (y z : ℤ) → unsigned_abs y ≤ unsigned_abs z → (y *ℤ y) ≤ℤ (z *ℤ z)
square_≤ y z h = omega (arith, ints, square_is y, square_is z, mul-le (unsigned_abs y) (unsigned_abs y) (unsigned_abs z) (unsigned_abs z) h h)

pub square_natural : (z : ℤ) → pos 0 ≤ℤ (z *ℤ z)
square_natural z = omega (arith, ints, square_is z)

pub AreSquares-above_zero : (lo hi : ℤ) → lo ≤ℤ hi → pos 0 ≤ℤ lo → AreSquares lo hi (lo *ℤ lo) (hi *ℤ hi)
AreSquares-above_zero lo hi h k = record {
  bounds = λ z b. record { above = square_≤ lo z (omega (arith, ints, b.above)); below = square_≤ z hi (omega (arith, ints, b.above, b.below)) };
  least_met = (lo, record { above = omega (arith, ints); below = h }, refl);
  greatest_met = (hi, record { above = h; below = omega (arith, ints) }, refl);
}

pub AreSquares-below_zero : (lo hi : ℤ) → lo ≤ℤ hi → hi ≤ℤ pos 0 → AreSquares lo hi (hi *ℤ hi) (lo *ℤ lo)
AreSquares-below_zero lo hi h k = record {
  bounds = λ z b. record { above = square_≤ hi z (omega (arith, ints, b.below)); below = square_≤ z lo (omega (arith, ints, b.above, b.below)) };
  least_met = (hi, record { above = h; below = omega (arith, ints) }, refl);
  greatest_met = (lo, record { above = omega (arith, ints); below = h }, refl);
}

pub AreSquares-at : (lo hi p q least greatest : ℤ) → AreSquares lo hi p q → least ≡ p → greatest ≡ q → AreSquares lo hi least greatest
AreSquares-at lo hi p q least greatest h e f =
    subst (λ (x : ℤ). AreSquares lo hi x greatest) (sym e) (subst (λ (y : ℤ). AreSquares lo hi p y) (sym f) h)

pub AreSquares-across_low : (lo hi : ℤ) → lo ≤ℤ pos 0 → pos 0 ≤ℤ hi → unsigned_abs lo ≤ unsigned_abs hi → AreSquares lo hi (pos 0) (hi *ℤ hi)
AreSquares-across_low lo hi h k m = record {
  bounds = λ z b. record { above = square_natural z; below = square_≤ z hi (omega (arith, ints, b.above, b.below)) };
  least_met = (pos 0, record { above = h; below = k }, refl);
  greatest_met = (hi, record { above = omega (arith, ints); below = omega (arith, ints) }, refl);
}

pub AreSquares-across_high : (lo hi : ℤ) → lo ≤ℤ pos 0 → pos 0 ≤ℤ hi → unsigned_abs hi ≤ unsigned_abs lo → AreSquares lo hi (pos 0) (lo *ℤ lo)
AreSquares-across_high lo hi h k m = record {
  bounds = λ z b. record { above = square_natural z; below = square_≤ z lo (omega (arith, ints, b.above, b.below)) };
  least_met = (pos 0, record { above = h; below = k }, refl);
  greatest_met = (lo, record { above = omega (arith, ints); below = omega (arith, ints) }, refl);
}

-- the two squares are those of the least and of the greatest size
pub sizes_squared : (lo hi : ℤ) → lo ≤ℤ hi → AreSquares lo hi (pos (least_size lo hi * least_size lo hi)) (pos (greatest_size lo hi * greatest_size lo hi))
sizes_squared (pos a) (pos b) h =
    let f : max a b ≡ b = omega (arith, ints) in
    rw f (AreSquares-above_zero (pos a) (pos b) h (omega (arith, ints)))
sizes_squared (pos a) (negsuc b) h = absurd (omega (arith, ints))
sizes_squared (negsuc a) (pos b) h =
    ⊎_elim
    (λ less.
    let f : max (suc a) b ≡ b = omega arith in
    rw f (AreSquares-across_low (negsuc a) (pos b) (omega (arith, ints)) (omega (arith, ints)) (omega arith)))
    (λ most.
    let f : max (suc a) b ≡ suc a = omega arith in
    rw f (AreSquares-across_high (negsuc a) (pos b) (omega (arith, ints)) (omega (arith, ints)) (omega arith)))
    (cases_lt (suc a) b)
sizes_squared (negsuc a) (negsuc b) h =
    let f : max (suc a) (suc b) ≡ suc a = omega (arith, ints) in
    rw f (AreSquares-below_zero (negsuc a) (negsuc b) h (omega (arith, ints)))

pub least_within : (lo hi : ℤ) → lo ≤ℤ hi → least_size lo hi ≤ greatest_size lo hi
least_within (pos a) hi h = omega (arith, ints)
least_within (negsuc a) (pos b) h = omega (arith, ints)
least_within (negsuc a) (negsuc b) h = omega (arith, ints)

-- the sizes without a case
pub least_size_is : (lo hi : ℤ) → lo ≤ℤ hi → int_max (int_max lo (neg_ℤ hi)) (pos 0) ≡ pos (least_size lo hi)
least_size_is (pos a) (pos b) h = omega (arith, ints, clamps)
least_size_is (pos a) (negsuc b) h = absurd (omega (arith, ints))
least_size_is (negsuc a) (pos b) h = omega (arith, ints, clamps)
least_size_is (negsuc a) (negsuc b) h = omega (arith, ints, clamps)

pub greatest_size_is : (lo hi : ℤ) → lo ≤ℤ hi → int_max hi (neg_ℤ lo) ≡ pos (greatest_size lo hi)
greatest_size_is (pos a) (pos b) h = omega (arith, ints, clamps)
greatest_size_is (pos a) (negsuc b) h = absurd (omega (arith, ints))
greatest_size_is (negsuc a) (pos b) h = omega (arith, ints, clamps)
greatest_size_is (negsuc a) (negsuc b) h = omega (arith, ints, clamps)
