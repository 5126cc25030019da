-- Quotients with their rests: bounds, products, and sums rounded down and up.
use Rattle.std.proofs.Common.{◌≡◌, ℕ, ◌+◌, ◌*◌, ◌/◌, ◌%◌, ◌<◌, ◌≤◌, ℤ, pos, ◌+ℤ◌, ◌*ℤ◌, ⊎_elim, arith}
use Rattle.std.specs.Prelude.{negsuc, suc}
use Rattle.std.specs.Int.RustNames.{unsigned_abs}
use Rattle.std.proofs.Math.Nat.{mul-le-mul_right, mul-le-mul_left}
use Rattle.std.proofs.lemmas.Bool.{cases_lt}
use Rattle.std.proofs.lemmas.Int.{ints}
use Rattle.std.proofs.lemmas.Nat.{div-add-mod'}
use Rattle.flk_exact.specs.Rounding.{IsFloor, IsCeil}
use Rattle.flk_exact.proofs.WholeLemmas.{sum-*ℤ, atom, nat, plus_is, times_is, same}

-- n times d is more than m times d where n is more than m
apart : (n m d r : ℕ) → r < d → n * d < m * d + d → n ≤ m
apart n m d r rest less =
    ⊎_elim
    (λ more. let next : m + 1 ≤ n = omega arith in absurd (omega (arith, mul-le-mul_right d next)))
    (λ within. within)
    (cases_lt m n)

-- a quotient by a divisor of k or more is at most m, where the dividend is at most m * k in size
pub quotient_bound : (q z : ℤ) (r d m k : ℕ) → r < d → k ≤ d → unsigned_abs z ≤ m * k → q *ℤ pos d +ℤ pos r ≡ z → unsigned_abs q ≤ m
quotient_bound (pos n) z r d m k rest least small e =
    let most : m * k ≤ m * d = mul-le-mul_left m least in
    let size : n * d + r ≤ unsigned_abs z = omega (arith, ints) in
    apart n m d r rest (omega arith)
quotient_bound (negsuc n) z r d m k rest least small e =
    let most : m * k ≤ m * d = mul-le-mul_left m least in
    let size : suc n * d ≤ unsigned_abs z + r = omega (arith, ints) in
    apart (suc n) m d r rest (omega arith)

-- a product with a quotient, by that with its rest
pub times_parts : (q z : ℤ) (r d s f : ℕ) → z ≡ q *ℤ pos f +ℤ pos (s / d) → s ≡ r * f → z *ℤ pos d +ℤ pos (s % d) ≡ (q *ℤ pos d +ℤ pos r) *ℤ pos f
times_parts q z r d s f e g =
    rw e
    (same
    (plus_is (times_is (plus_is (times_is (atom q) (nat f)) (nat (s / d))) (nat d)) (nat (s % d)))
    (times_is (plus_is (times_is (atom q) (nat d)) (nat r)) (nat f))
    (omega (arith, div-add-mod' s d, g)))

-- the sum, by how many divisors the rests have or need
pub down_by : (m k z : ℤ) (d r s n : ℕ) → n * d ≤ r + s → r + s < n * d + d → z ≡ m +ℤ k +ℤ pos n → IsFloor ((m *ℤ pos d +ℤ pos r) +ℤ (k *ℤ pos d +ℤ pos s)) (pos d) z
down_by m k z d r s n most more e =
    let split : z *ℤ pos d ≡ m *ℤ pos d +ℤ k *ℤ pos d +ℤ pos (n * d) = rw e (omega (arith, ints, sum-*ℤ (m +ℤ k) (pos n) d, sum-*ℤ m k d)) in
    record { within = omega (arith, ints); greatest = omega (arith, ints) }

pub up_by : (m k z : ℤ) (d r s n : ℕ) → r + s ≤ n * d → n * d < r + s + d → z ≡ m +ℤ k +ℤ pos n → IsCeil ((m *ℤ pos d +ℤ pos r) +ℤ (k *ℤ pos d +ℤ pos s)) (pos d) z
up_by m k z d r s n most more e =
    let split : z *ℤ pos d ≡ m *ℤ pos d +ℤ k *ℤ pos d +ℤ pos (n * d) = rw e (omega (arith, ints, sum-*ℤ (m +ℤ k) (pos n) d, sum-*ℤ m k d)) in
    record { within = omega (arith, ints); least = omega (arith, ints) }
