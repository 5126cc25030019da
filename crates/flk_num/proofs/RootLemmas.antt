-- Newton's method for the root; roots rounded up; and the halving that finds cube roots.
use Rattle.std.proofs.Common.{◌≡◌, ℕ, zero, suc, ◌+◌, ◌-◌, ◌*◌, ◌/◌, ◌%◌, ◌^◌, ◌<◌, ◌≤◌, ℤ, pos, ◌+ℤ◌, ◌*ℤ◌, ◌≤ℤ◌, ⊎_elim, arith}
use Rattle.std.specs.Prelude.{◌≢◌, negsuc}
use Rattle.std.specs.Int.RustNames.{unsigned_abs}
use Rattle.std.proofs.lemmas.Bool.{cases_lt}
use Rattle.std.proofs.lemmas.Int.{ints}
use Rattle.flk_exact.specs.Rounding.{IsRootFloor, IsRootCeil, IsCubeRootCeil}
use Rattle.flk_exact.proofs.RootLemmas.{cube_root_up_least}
use Rattle.std.proofs.Math.Nat.{mul-le-mul_right}
use Rattle.std.proofs.Math.Pow.{pow_mono}
use Rattle.std.proofs.lemmas.Nat.{mul-le, div-add-mod', mod_below, pow-add, pow_below, leading_top}
use Rattle.std.specs.Int.Count.{count_leading_zeros}
use Rattle.flk_exact.proofs.WholeLemmas.{twice_product}

-- the mean of x and v / x is never below the root
mean_above : (v x q r : ℕ) → v < (q + 1) * x → x + q ≤ 2 * r + 1 → v < (r + 1) * (r + 1)
mean_above v x q r h k =
    let top : x + q + 1 ≤ 2 * (r + 1) = omega arith in
    omega (arith, mul-le (x + q + 1) (x + q + 1) (2 * (r + 1)) (2 * (r + 1)) top top, twice_product x (q + 1))

pub step_above : (v x : ℕ) → 0 < x → v < ((x + v / x) / 2 + 1) * ((x + v / x) / 2 + 1)
step_above v x some = mean_above v x (v / x) ((x + v / x) / 2) (omega (arith, div-add-mod' v x, mod_below v x some)) (omega arith)

pub step_last : (v x : ℕ) → 0 < x → x ≤ (x + v / x) / 2 → x * x ≤ v
step_last v x some h =
    let most : x ≤ v / x = omega arith in
    omega (arith, div-add-mod' v x, mul-le-mul_right x most)

-- the power of two that the code starts from is above the root
pub power_large : (v : ℕ) → 0 < v → v < 2 ^ 64
    → v < 1 * 2 ^ ((65 - count_leading_zeros 64 v) / 2) % 2 ^ 64 * (1 * 2 ^ ((65 - count_leading_zeros 64 v) / 2) % 2 ^ 64)
power_large v some fits =
    let top = leading_top 64 v some fits in
    let e = (65 - count_leading_zeros 64 v) / 2 in
    let count : count_leading_zeros 64 v + suc top.0 ≡ 64 = top.1 in
    let far : suc top.0 ≤ e + e = omega arith in
    let near : e < 64 = omega arith in
    let word : 1 * 2 ^ e % 2 ^ 64 ≡ 2 ^ e = omega (arith, pow_below e 64 near) in
    rw word (omega (arith, top.3, pow_mono far, pow-add 2 e e))

-- ---- roots, rounded up

-- squares and cubes keep the order of natural numbers, and show it
square_back : (a b : ℕ) → a * a ≤ b * b → a ≤ b
square_back a b h =
    ⊎_elim
    (λ more. absurd (omega (arith, mul-le (b + 1) (b + 1) a a (omega arith) (omega arith))))
    (λ within. within)
    (cases_lt b a)

square_before : (a b : ℕ) → a * a < b * b → a < b
square_before a b h =
    ⊎_elim
    (λ less. less)
    (λ most. absurd (omega (arith, mul-le b b a a most most)))
    (cases_lt a b)

exact_least : (v : ℤ) (b : ℕ) (z : ℤ) → pos 0 ≤ℤ z → pos b *ℤ pos b ≡ v → v ≤ℤ (z *ℤ z) → pos b ≤ℤ z
exact_least v b (pos a) low is reached =
    let order : b * b ≤ a * a = omega (arith, ints, is, reached) in
    omega (arith, ints, square_back b a order)
exact_least v b (negsuc a) low is reached = absurd (omega (arith, ints, low))

next_least : (v : ℤ) (b : ℕ) (z : ℤ) → pos 0 ≤ℤ z → (pos b *ℤ pos b) ≤ℤ v → pos b *ℤ pos b ≢ v → v ≤ℤ (z *ℤ z) → (pos b +ℤ pos 1) ≤ℤ z
next_least v b (pos a) low within other reached =
    let order : b * b < a * a = ⊎_elim (λ less. less) (λ most. absurd (other (omega (arith, ints, within, reached, most)))) (cases_lt (b * b) (a * a)) in
    omega (arith, ints, square_before b a order)
next_least v b (negsuc a) low within other reached = absurd (omega (arith, ints, low))

-- the root rounded down is the one rounded up where its square is the number
pub root_exact : (v w : ℤ) → IsRootFloor v w → w *ℤ w ≡ v → IsRootCeil v w
root_exact v (pos b) h is = record { natural = h.natural; within = omega (arith, ints, is); least = λ z low reached. exact_least v b z low is reached }
root_exact v (negsuc b) h is = absurd (omega (arith, ints, h.natural))

-- and else the next number is
pub root_next : (v w : ℤ) → IsRootFloor v w → w *ℤ w ≢ v → IsRootCeil v (w +ℤ pos 1)
root_next v (pos b) h other = record {
  natural = omega (arith, ints);
  within = omega (arith, ints, h.greatest);
  least = λ z low reached. next_least v b z low h.within other reached;
}
root_next v (negsuc b) h other = absurd (omega (arith, ints, h.natural))

-- a root is at most its square
pub root_within : (v w : ℤ) → IsRootFloor v w → w ≤ℤ v
root_within v (pos zero) h = omega (arith, ints, h.within)
root_within v (pos (suc b)) h = omega (arith, ints, h.within, mul-le (suc b) 1 (suc b) (suc b) (omega arith) (omega arith))
root_within v (negsuc b) h = absurd (omega (arith, ints, h.natural))

-- ---- cube roots

pub cube_≤ : (a b : ℕ) → a ≤ b → a * a * a ≤ b * b * b
cube_≤ a b h = mul-le (a * a) a (b * b) b (mul-le a a b b h h) h

-- where the cube of m is below v, no number up to m reaches v
pub cube_above : (v m z : ℕ) → m * m * m < v → v ≤ z * z * z → m + 1 ≤ z
cube_above v m z below reached =
    ⊎_elim
    (λ more. omega arith)
    (λ most. absurd (omega (arith, cube_≤ z m most)))
    (cases_lt m z)

pub cube_root_of : (v : ℤ) (r : ℕ) → pos 0 ≤ℤ v → unsigned_abs v ≤ r * r * r → ((k : ℕ) → unsigned_abs v ≤ k * k * k → r ≤ k) → IsCubeRootCeil v (pos r)
cube_root_of (pos n) r low reached least = record { natural = omega (arith, ints); within = omega (arith, ints, reached); least = λ z above reaches. cube_root_up_least n r z least above reaches }
cube_root_of (negsuc n) r low reached least = absurd (omega (arith, ints, low))
