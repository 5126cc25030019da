-- Laws of products of whole numbers: linear arithmetic over them, in which a product is an unknown, rests on these. And the sizes of sums
-- and products.
use Rattle.std.proofs.Common.{◌≡◌, ℕ, ◌+◌, ◌*◌, ◌≤◌, sym, ap, ◌∙◌, arith}
use Rattle.std.proofs.Math.IntN.{ℤ, ◌+ℤ◌, ◌-ℤ◌, ◌*ℤ◌, neg_ℤ, *ℤ_comm}
use Rattle.std.specs.Int.RustNames.{unsigned_abs}
use Rattle.std.proofs.Math.Nat.{mul-le-mul_left, mul-le-mul_right}
use Rattle.std.proofs.lemmas.Int.{ints, unsigned_abs-mul}
use borrow.Author.Differences.{up, down, sum_is_lem, product_is, neg_is, same_in, same_out, le_out, at_most_in, abs_is}

-- linear arithmetic over whole numbers, in which a product is an unknown
pub ruleset lin = (same_out, same_in, le_out, at_most_in, sum_is_lem, neg_is, abs_is)

pub distrib : (a b c : ℤ) → a *ℤ (b +ℤ c) ≡ a *ℤ b +ℤ a *ℤ c
distrib a b c = omega (arith, ints, ap (λ (n : ℕ). up a * n) (sum_is_lem b c), ap (λ (n : ℕ). down a * n) (sum_is_lem b c))

pub distrib_neg : (a b : ℤ) → a *ℤ neg_ℤ b ≡ neg_ℤ (a *ℤ b)
distrib_neg a b =
    omega (
      arith,
      ints,
      ap (λ (n : ℕ). up a * n) (neg_is b).0,
      ap (λ (n : ℕ). down a * n) (neg_is b).0,
      ap (λ (n : ℕ). up a * n) (neg_is b).1,
      ap (λ (n : ℕ). down a * n) (neg_is b).1,
    )

pub mul_assoc : (a b c : ℤ) → (a *ℤ b) *ℤ c ≡ a *ℤ (b *ℤ c)
mul_assoc a b c =
    omega (
      arith,
      ints,
      ap (λ (n : ℕ). n * up c) (product_is a b).0,
      ap (λ (n : ℕ). n * down c) (product_is a b).0,
      ap (λ (n : ℕ). n * up c) (product_is a b).1,
      ap (λ (n : ℕ). n * down c) (product_is a b).1,
      ap (λ (n : ℕ). up a * n) (product_is b c).0,
      ap (λ (n : ℕ). down a * n) (product_is b c).0,
      ap (λ (n : ℕ). up a * n) (product_is b c).1,
      ap (λ (n : ℕ). down a * n) (product_is b c).1,
    )

pub distrib_right : (a b c : ℤ) → (a +ℤ b) *ℤ c ≡ a *ℤ c +ℤ b *ℤ c
distrib_right a b c = *ℤ_comm (a +ℤ b) c ∙ distrib c a b ∙ ap (λ (z : ℤ). z +ℤ c *ℤ b) (*ℤ_comm c a) ∙ ap (λ (z : ℤ). a *ℤ c +ℤ z) (*ℤ_comm c b)

pub neg_right : (a b : ℤ) → neg_ℤ a *ℤ b ≡ neg_ℤ (a *ℤ b)
neg_right a b = *ℤ_comm (neg_ℤ a) b ∙ distrib_neg b a ∙ ap neg_ℤ (*ℤ_comm b a)

-- a (b c) = b (a c)
pub left_comm : (a b c : ℤ) → a *ℤ (b *ℤ c) ≡ b *ℤ (a *ℤ c)
left_comm a b c = sym (mul_assoc a b c) ∙ ap (λ (z : ℤ). z *ℤ c) (*ℤ_comm a b) ∙ mul_assoc b a c

-- (a b) c = (a c) b
pub swap : (a b c : ℤ) → (a *ℤ b) *ℤ c ≡ (a *ℤ c) *ℤ b
swap a b c = mul_assoc a b c ∙ ap (λ (z : ℤ). a *ℤ z) (*ℤ_comm b c) ∙ sym (mul_assoc a c b)

pub sub_scaled : (k a b : ℤ) → k *ℤ (a -ℤ b) ≡ k *ℤ a -ℤ k *ℤ b
sub_scaled k a b = distrib k a (neg_ℤ b) ∙ ap (λ (z : ℤ). k *ℤ a +ℤ z) (distrib_neg k b)

pub triangle : (a b : ℤ) → unsigned_abs (a +ℤ b) ≤ unsigned_abs a + unsigned_abs b
triangle a b = omega (arith, ints)

pub size_of_product_within : (a b : ℤ) (m n : ℕ) → unsigned_abs a ≤ m → unsigned_abs b ≤ n → unsigned_abs (a *ℤ b) ≤ m * n
size_of_product_within a b m n h k = omega (arith, unsigned_abs-mul a b, mul-le-mul_right (unsigned_abs b) h, mul-le-mul_left m k)
