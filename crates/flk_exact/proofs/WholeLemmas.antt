-- Laws of whole numbers: products with natural numbers, orders, squares, two numbers of which neither is less, and each whole number
-- as a difference of two natural ones.
use Rattle.std.proofs.Common.{◌≡◌, ℕ, ◌+◌, ◌-◌, ◌*◌, ◌<◌, ◌≤◌, ℤ, pos, neg_ℤ, ◌+ℤ◌, ◌*ℤ◌, ◌≤ℤ◌, ◌<ℤ◌, refl, ap, ⊎_elim, arith}
use Rattle.std.specs.Prelude.{negsuc}
use Rattle.std.specs.Int.RustNames.{unsigned_abs}
use Rattle.std.proofs.Math.Nat.{mul-le-mul_right}
use Rattle.std.proofs.lemmas.Bool.{cases_lt}
use Rattle.std.proofs.lemmas.Int.{ints, by_lt_z}
use Rattle.flk_exact.proofs.ProductLemmas.{distrib_right, neg_right, mul_assoc}
use borrow.Author.Differences.{up, down, sum_is_lem, product_is, neg_is, le_out, lt_out, same_in, at_most_in, below_in}

-- a product with a natural number takes sums and negatives apart
pub sum-*ℤ : (a b : ℤ) (c : ℕ) → (a +ℤ b) *ℤ pos c ≡ a *ℤ pos c +ℤ b *ℤ pos c
sum-*ℤ a b c = distrib_right a b (pos c)

pub neg-*ℤ : (a : ℤ) (c : ℕ) → neg_ℤ a *ℤ pos c ≡ neg_ℤ (a *ℤ pos c)
neg-*ℤ a c = neg_right a (pos c)

-- a product with two natural numbers is one with their product
pub assoc-*ℤ : (a : ℤ) (b c : ℕ) → (a *ℤ pos b) *ℤ pos c ≡ a *ℤ pos (b * c)
assoc-*ℤ a b c = mul_assoc a (pos b) (pos c)

-- a product with a natural number keeps the order, and one with a positive number keeps no other
pub scale_≤ : (a b : ℤ) (c : ℕ) → a ≤ℤ b → (a *ℤ pos c) ≤ℤ (b *ℤ pos c)
scale_≤ a b c h =
    let p : up a + down b ≤ up b + down a = omega (arith, ints) in
    omega (arith, ints, mul-le-mul_right c p)

pub cancel_≤ : (a b : ℤ) (c : ℕ) → 0 < c → (a *ℤ pos c) ≤ℤ (b *ℤ pos c) → a ≤ℤ b
cancel_≤ a b c some h =
    by_lt_z b a
    (λ more. let step : (b +ℤ pos 1) ≤ℤ a = omega (arith, ints) in
    absurd (omega (arith, ints, scale_≤ (b +ℤ pos 1) a c step, sum-*ℤ b (pos 1) c)))
    (λ within. within)

pub ≤ℤ_trans : {a b c : ℤ} → a ≤ℤ b → b ≤ℤ c → a ≤ℤ c
≤ℤ_trans h k = omega (arith, ints)

-- two natural numbers of which neither is less are the same
pub neither_less : (m n : ℕ) → (m < n → ⊥) → (n < m → ⊥) → m ≡ n
neither_less m n f g = ⊎_elim (λ less. absurd (f less)) (λ most. ⊎_elim (λ less. absurd (g less)) (λ also. omega (arith, most, also)) (cases_lt n m)) (cases_lt m n)

-- a square is that of the size
pub square_is : (z : ℤ) → z *ℤ z ≡ pos (unsigned_abs z * unsigned_abs z)
square_is (pos n) = refl
square_is (negsuc n) = refl

-- a whole number above 0 is a natural one
pub positive_is : (b : ℤ) → pos 0 <ℤ b → (n : ℕ) × (0 < n) × (b ≡ pos n)
positive_is (pos n) h = (n, omega (arith, ints), refl)
positive_is (negsuc n) h = absurd (omega (arith, ints))

-- a whole number that is not below 0 is its size
pub natural_is : (z : ℤ) → pos 0 ≤ℤ z → z ≡ pos (unsigned_abs z)
natural_is (pos n) h = refl
natural_is (negsuc n) h = absurd (omega (arith, ints))

twice_by : (x k : ℕ) → 2 * (x * (x + k)) ≤ x * x + (x + k) * (x + k)
twice_by x k = omega arith

-- twice a product is at most the sum of the squares
pub twice_product : (x y : ℕ) → 2 * (x * y) ≤ x * x + y * y
twice_product x y =
    ⊎_elim
    (λ less. let e : x + (y - x) ≡ y = omega arith in rw e at (twice_by x (y - x)))
    (λ more. let e : y + (x - y) ≡ x = omega arith in let t = rw e at (twice_by y (x - y)) in omega arith)
    (cases_lt x y)

-- ---- equations and orders of whole numbers, by those of natural numbers

-- z is the difference of the natural numbers x and y
pub record Is (z : ℤ) (x y : ℕ) : Type 0 where
  pub is : up z + y ≡ down z + x

pub atom : (z : ℤ) → Is z (up z) (down z)
atom z = record { is = omega arith }

pub nat : (n : ℕ) → Is (pos n) n 0
nat n = record { is = omega arith }

pub plus_is : {a b : ℤ} {x y u v : ℕ} → Is a x y → Is b u v → Is (a +ℤ b) (x + u) (y + v)
plus_is {a} {b} p q = record { is = omega (arith, p.is, q.is, sum_is_lem a b) }

pub minus_is : {b : ℤ} {u v : ℕ} → Is b u v → Is (neg_ℤ b) v u
minus_is {b} q = record { is = omega (arith, q.is, neg_is b) }

pub times_is : {a b : ℤ} {x y u v : ℕ} → Is a x y → Is b u v → Is (a *ℤ b) (x * u + y * v) (x * v + y * u)
times_is {a} {b} {x} {y} {u} {v} p q =
    record { is = omega (arith, product_is a b, ap (λ n. n * up b) p.is, ap (λ n. n * down b) p.is, ap (λ n. n * x) q.is, ap (λ n. n * y) q.is) }

pub same : {a b : ℤ} {x y u v : ℕ} → Is a x y → Is b u v → x + v ≡ u + y → a ≡ b
same {a} {b} p q e = same_in a b (omega (arith, p.is, q.is))

pub at_most : {a b : ℤ} {x y u v : ℕ} → Is a x y → Is b u v → x + v ≤ u + y → a ≤ℤ b
at_most {a} {b} p q e = at_most_in a b (omega (arith, p.is, q.is))

pub from_at_most : {a b : ℤ} {x y u v : ℕ} → Is a x y → Is b u v → a ≤ℤ b → x + v ≤ u + y
from_at_most {a} {b} p q h = omega (arith, p.is, q.is, le_out a b h)

pub below : {a b : ℤ} {x y u v : ℕ} → Is a x y → Is b u v → x + v < u + y → a <ℤ b
below {a} {b} p q e = below_in a b (omega (arith, p.is, q.is))

pub from_below : {a b : ℤ} {x y u v : ℕ} → Is a x y → Is b u v → a <ℤ b → x + v < u + y
from_below {a} {b} p q h = omega (arith, p.is, q.is, lt_out a b h)
