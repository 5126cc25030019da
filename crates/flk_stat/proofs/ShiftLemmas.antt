-- A step toward a number by a part of what is between them, as a shift forms it: it is a mean, rounded.
use Rattle.std.proofs.Common.{◌≡◌, ℕ, ◌+◌, ◌-◌, ◌*◌, ◌/◌, ◌^◌, ◌<◌, ◌≤◌, ℤ, pos, ◌+ℤ◌, ◌-ℤ◌, ◌*ℤ◌, ◌≤ℤ◌, ◌<ℤ◌, ap, ◌∙◌, arith}
use Rattle.std.specs.Prelude.{negsuc}
use Rattle.std.specs.Int.{div_ceil, int_shr}
use Rattle.std.specs.Int.RustNames.{unsigned_abs}
use Rattle.std.proofs.lemmas.Int.{ints}
use Rattle.std.proofs.Math.Nat.{mul-le-mul_right}
use Rattle.flk_exact.proofs.WholeLemmas.{natural_is}
use Rattle.flk_exact.proofs.ProductLemmas.{sub_scaled}
use Rattle.flk_front.proofs.SquareSteps.{ceil_unique}

-- the shift rounds down
record IsShift (a q : ℤ) : Type 0 where
  within : (q *ℤ pos 4294967296) ≤ℤ a
  next : a <ℤ (q *ℤ pos 4294967296 +ℤ pos 4294967296)

shift_is : (a : ℤ) → IsShift a (int_shr a 32)
shift_is (pos a) = record { within = omega (arith, ints); next = omega (arith, ints) }
shift_is (negsuc a) = record { within = omega (arith, ints); next = omega (arith, ints) }

-- no other number is between a mean's multiples
quotient_is : (x n : ℕ) → n * 4294967296 ≤ x → x < n * 4294967296 + 4294967296 → n ≡ x / 4294967296
quotient_is x n low high = omega arith

record Mean (c p z : ℕ) (gap : ℤ) : Type 0 where
  sum : pos ((2 ^ 32 - c) * p + c * z) ≡ pos 4294967296 *ℤ pos p +ℤ gap

mean_up : (c p z : ℕ) → c ≤ 2 ^ 32 → Mean c p z (pos c *ℤ (pos z -ℤ pos p))
mean_up c p z most =
    let whole : (2 ^ 32 - c + c) * p ≡ 2 ^ 32 * p = ap (λ (n : ℕ). n * p) (omega arith) in
    let parts = sub_scaled (pos c) (pos z) (pos p) in
    record { sum = omega (arith, ints, whole, parts) }

-- the step of the lower end
pub moved_down_is : (c p z : ℕ) → c ≤ 2 ^ 32 → pos p +ℤ int_shr (pos c *ℤ (pos z -ℤ pos p)) 32 ≡ pos (((2 ^ 32 - c) * p + c * z) / 2 ^ 32)
moved_down_is c p z most =
    let gap = pos c *ℤ (pos z -ℤ pos p) in
    let q = int_shr gap 32 in
    let s = shift_is gap in
    let m = mean_up c p z most in
    let natural : pos 0 ≤ℤ (pos p +ℤ q) = omega (arith, ints, s.next, m.sum) in
    let n = unsigned_abs (pos p +ℤ q) in
    let e : pos p +ℤ q ≡ pos n = natural_is (pos p +ℤ q) natural in
    let is = quotient_is ((2 ^ 32 - c) * p + c * z) n (omega (arith, ints, e, s.within, m.sum)) (omega (arith, ints, e, s.next, m.sum)) in
    e ∙ ap pos is

-- the step of the upper end
pub moved_up_is : (c p z : ℕ) → c ≤ 2 ^ 32 → pos p -ℤ int_shr (pos c *ℤ (pos p -ℤ pos z)) 32 ≡ pos (div_ceil ((2 ^ 32 - c) * p + c * z) (2 ^ 32))
moved_up_is c p z most =
    let back = pos c *ℤ (pos p -ℤ pos z) in
    let q = int_shr back 32 in
    let s = shift_is back in
    let m = mean_up c p z most in
    let a = sub_scaled (pos c) (pos z) (pos p) in
    let b = sub_scaled (pos c) (pos p) (pos z) in
    let natural : pos 0 ≤ℤ (pos p -ℤ q) = omega (arith, ints, s.within, m.sum, a, b) in
    let n = unsigned_abs (pos p -ℤ q) in
    let e : pos p -ℤ q ≡ pos n = natural_is (pos p -ℤ q) natural in
    let is = ceil_unique ((2 ^ 32 - c) * p + c * z) (2 ^ 32) n (omega arith) (omega (arith, ints, e, s.within, m.sum, a, b)) (omega (arith, ints, e, s.next, m.sum, a, b)) in
    e ∙ ap pos is

-- ranges on the way
pub gap_small : (c p z : ℕ) → c ≤ 2 ^ 32 → p < 2 ^ 93 → z < 2 ^ 93 → unsigned_abs (pos c *ℤ (pos z -ℤ pos p)) ≤ 2 ^ 125
gap_small c p z most hp hz =
    let a = sub_scaled (pos c) (pos z) (pos p) in
    let b = mul-le-mul_right {m = c} {n = 2 ^ 32} p most in
    let d = mul-le-mul_right {m = c} {n = 2 ^ 32} z most in
    omega (arith, ints, a, b, d)

pub between_small : (c : ℕ) (p z : ℤ) → c ≤ 2 ^ 32 → pos 0 ≤ℤ p → p <ℤ pos (2 ^ 93) → pos 0 ≤ℤ z → z <ℤ pos (2 ^ 93) → unsigned_abs (pos c *ℤ (z -ℤ p)) ≤ 2 ^ 125
between_small c (pos p) (pos z) most lp hp lz hz = gap_small c p z most (omega (arith, ints, hp)) (omega (arith, ints, hz))
between_small c (negsuc p) z most lp hp lz hz = absurd (omega (arith, ints, lp))
between_small c (pos p) (negsuc z) most lp hp lz hz = absurd (omega (arith, ints, lz))

pub shift_small : (a : ℤ) → unsigned_abs a ≤ 2 ^ 125 → unsigned_abs (int_shr a 32) ≤ 2 ^ 94
shift_small a small = let s = shift_is a in omega (arith, ints, small, s.within, s.next)
