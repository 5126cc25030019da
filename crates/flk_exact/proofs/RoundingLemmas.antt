-- What quotients of whole numbers say of products: their rests, the whole numbers that are at most or at least a quotient, and that
-- each rounding has one answer.
use Rattle.std.proofs.Common.{◌≡◌, ℕ, ◌-◌, ◌%◌, ◌<◌, ℤ, pos, neg_ℤ, ◌+ℤ◌, ◌-ℤ◌, ◌*ℤ◌, ◌≤ℤ◌, ◌<ℤ◌, refl, sym, ◌∙◌, subst, arith}
use Rattle.std.specs.Prelude.{negsuc, ◌↔◌}
use Rattle.std.specs.Int.{int_rem_euclid}
use Rattle.std.specs.Int.RustNames.{unsigned_abs}
use Rattle.std.proofs.lemmas.Int.{ints, by_lt_z}
use Rattle.std.proofs.Math.IntN.{neg_ℤ-neg_ℤ, *ℤ_comm}
use Rattle.std.proofs.lemmas.Nat.{div-add-mod', mod_below}
use Rattle.flk_exact.specs.Rounding.{floor_of, ceil_of, IsFloor, IsCeil}
use Rattle.flk_exact.proofs.WholeLemmas.{sum-*ℤ, neg-*ℤ, scale_≤}

-- the quotient and the remainder make the dividend, and the remainder is below the divisor
pub floor_parts : (a : ℤ) (b : ℕ) → 0 < b → (r : ℕ) × (r < b) × (int_rem_euclid a (pos b) ≡ pos r) × (floor_of a (pos b) *ℤ pos b +ℤ pos r ≡ a)
floor_parts (pos n) b h = (n % b, mod_below n b h, refl, omega (arith, ints, div-add-mod' n b))
floor_parts (negsuc n) b h =
    let m = mod_below n b h in
    (b - 1 - n % b, omega (arith, m), refl, omega (arith, ints, div-add-mod' n b, m))

pub IsFloor-floor_of : (a : ℤ) (b : ℕ) → 0 < b → IsFloor a (pos b) (floor_of a (pos b))
IsFloor-floor_of a b h =
    let p = floor_parts a b h in
    record { within = omega (arith, ints, p.1, p.3); greatest = omega (arith, ints, p.1, p.3) }

-- what is cut off is below the divisor
pub floor_rest : (a : ℤ) (b : ℕ) (q : ℤ) → IsFloor a (pos b) q → (a ≡ pos b *ℤ q +ℤ pos (unsigned_abs (a -ℤ pos b *ℤ q))) × (unsigned_abs (a -ℤ pos b *ℤ q) < b)
floor_rest a b q f =
    let low : (q *ℤ pos b) ≤ℤ a = f.within in
    let high : a <ℤ (q *ℤ pos b +ℤ pos b) = f.greatest in
    let turned = *ℤ_comm q (pos b) in
    (omega (arith, ints), omega (arith, ints))

-- a whole number that is at most the quotient is at most its floor
pub floor_at_least : (a : ℤ) (b : ℕ) (q z : ℤ) → IsFloor a (pos b) q → (z *ℤ pos b) ≤ℤ a → z ≤ℤ q
floor_at_least a b q z f h =
    by_lt_z q z
    (λ above. let step : (q +ℤ pos 1) ≤ℤ z = omega (arith, ints) in
    absurd (omega (arith, ints, scale_≤ (q +ℤ pos 1) z b step, sum-*ℤ q (pos 1) b, h, f.greatest)))
    (λ within. within)

-- the floor is the only one
pub floor_unique : (a : ℤ) (b : ℕ) (p q : ℤ) → IsFloor a (pos b) p → IsFloor a (pos b) q → p ≡ q
floor_unique a b p q x y = omega (arith, ints, floor_at_least a b q p y x.within, floor_at_least a b p q x y.within)

-- rounding up is rounding the negative down
pub IsCeil-neg : (a : ℤ) (b : ℕ) (q : ℤ) → IsFloor (neg_ℤ a) (pos b) (neg_ℤ q) → IsCeil a (pos b) q
IsCeil-neg a b q h = record { within = omega (arith, ints, h.within, neg-*ℤ q b); least = omega (arith, ints, h.greatest, neg-*ℤ q b) }

pub IsFloor-neg : (a : ℤ) (b : ℕ) (q : ℤ) → IsCeil a (pos b) q → IsFloor (neg_ℤ a) (pos b) (neg_ℤ q)
IsFloor-neg a b q h = record { within = omega (arith, ints, h.within, neg-*ℤ q b); greatest = omega (arith, ints, h.least, neg-*ℤ q b) }

pub IsCeil-ceil_of : (a : ℤ) (b : ℕ) → 0 < b → IsCeil a (pos b) (ceil_of a (pos b))
IsCeil-ceil_of a b h =
    IsCeil-neg a b (ceil_of a (pos b)) (subst (λ (p : ℤ). IsFloor (neg_ℤ a) (pos b) p) (sym (neg_ℤ-neg_ℤ (floor_of (neg_ℤ a) (pos b)))) (IsFloor-floor_of (neg_ℤ a) b h))

-- a whole number that is at least the quotient is at least its ceiling
pub ceil_at_most : (a : ℤ) (b : ℕ) (q z : ℤ) → IsCeil a (pos b) q → a ≤ℤ (z *ℤ pos b) → q ≤ℤ z
ceil_at_most a b q z c h =
    let low = floor_at_least (neg_ℤ a) b (neg_ℤ q) (neg_ℤ z) (IsFloor-neg a b q c) (omega (arith, ints, h, neg-*ℤ z b)) in
    omega (arith, ints, low)

-- the ceiling is the only one
pub ceil_unique : (a : ℤ) (b : ℕ) (p q : ℤ) → IsCeil a (pos b) p → IsCeil a (pos b) q → p ≡ q
ceil_unique a b p q x y = omega (arith, ints, ceil_at_most a b p q x y.within, ceil_at_most a b q p y x.within)

pub ceil_is : (a : ℤ) (b : ℕ) (q : ℤ) → 0 < b → IsCeil a (pos b) q → q ≡ ceil_of a (pos b)
ceil_is a b q h c = ceil_unique a b q (ceil_of a (pos b)) c (IsCeil-ceil_of a b h)

-- rounding up, from the rounding down and the remainder
pub IsCeil-whole : (a : ℤ) (b : ℕ) → 0 < b → int_rem_euclid a (pos b) ≡ pos 0 → IsCeil a (pos b) (floor_of a (pos b))
IsCeil-whole a b h e =
    let p = floor_parts a b h in
    record { within = omega (arith, ints, p.2, p.3); least = omega (arith, ints, p.2, p.3) }

pub IsCeil-more : (a : ℤ) (b : ℕ) → 0 < b → ¬ (int_rem_euclid a (pos b) ≡ pos 0) → IsCeil a (pos b) (floor_of a (pos b) +ℤ pos 1)
IsCeil-more a b h e =
    let p = floor_parts a b h in
    let d = sum-*ℤ (floor_of a (pos b)) (pos 1) b in
    record { within = omega (arith, ints, p.1, p.3, d); least = omega (arith, ints, p.2, p.3, d) }

-- ---- at the divisors of the code, which are whole numbers above 0

pub IsFloor-at : (a b q : ℤ) → pos 0 <ℤ b → q ≡ floor_of a b → IsFloor a b q
IsFloor-at a (pos n) q h e = subst (λ (p : ℤ). IsFloor a (pos n) p) (sym e) (IsFloor-floor_of a n (omega (arith, ints)))
IsFloor-at a (negsuc n) q h e = absurd (omega (arith, ints))

pub IsCeil-at_whole : (a b q r : ℤ) → pos 0 <ℤ b → q ≡ floor_of a b → r ≡ int_rem_euclid a b → r ≡ pos 0 → IsCeil a b q
IsCeil-at_whole a (pos n) q r h e f z = subst (λ (p : ℤ). IsCeil a (pos n) p) (sym e) (IsCeil-whole a n (omega (arith, ints)) (sym f ∙ z))
IsCeil-at_whole a (negsuc n) q r h e f z = absurd (omega (arith, ints))

pub IsCeil-at_more : (a b q r : ℤ) → pos 0 <ℤ b → q ≡ floor_of a b +ℤ pos 1 → r ≡ int_rem_euclid a b → ¬ (r ≡ pos 0) → IsCeil a b q
IsCeil-at_more a (pos n) q r h e f z = subst (λ (p : ℤ). IsCeil a (pos n) p) (sym e) (IsCeil-more a n (omega (arith, ints)) (λ g. z (f ∙ g)))
IsCeil-at_more a (negsuc n) q r h e f z = absurd (omega (arith, ints))

pub ceil_of-at : (a b q : ℤ) → pos 0 <ℤ b → IsCeil a b q → q ≡ ceil_of a b
ceil_of-at a (pos n) q h c = ceil_is a n q (omega (arith, ints)) c
ceil_of-at a (negsuc n) q h c = absurd (omega (arith, ints))

pub floor_of-at : (a b q : ℤ) → pos 0 <ℤ b → IsFloor a b q → q ≡ floor_of a b
floor_of-at a (pos n) q h c = floor_unique a n q (floor_of a (pos n)) c (IsFloor-floor_of a n (omega (arith, ints)))
floor_of-at a (negsuc n) q h c = absurd (omega (arith, ints))

pub IsCeil-at : (a b q : ℤ) → pos 0 <ℤ b → q ≡ ceil_of a b → IsCeil a b q
IsCeil-at a (pos n) q h e = subst (λ (p : ℤ). IsCeil a (pos n) p) (sym e) (IsCeil-ceil_of a n (omega (arith, ints)))
IsCeil-at a (negsuc n) q h e = absurd (omega (arith, ints))

-- ---- the function and the bracket are one

pub floor_is_bracket : (a b q : ℤ) → pos 0 <ℤ b → IsFloor a b q ↔ (q ≡ floor_of a b)
floor_is_bracket a b q h = (floor_of-at a b q h, IsFloor-at a b q h)

pub ceil_is_bracket : (a b q : ℤ) → pos 0 <ℤ b → IsCeil a b q ↔ (q ≡ ceil_of a b)
ceil_is_bracket a b q h = (ceil_of-at a b q h, IsCeil-at a b q h)
