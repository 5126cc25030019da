-- The estimate of a quotient by a share.
use Rattle.std.proofs.Common.{◌≡◌, ℕ, ◌+◌, ◌*◌, ◌^◌, ◌<◌, ◌≤◌, ℤ, pos, ◌+ℤ◌, ◌*ℤ◌, arith}
use Rattle.std.proofs.Math.Nat.{mul-le-mul_right, mul-le-mul_left}
use Rattle.flk_exact.specs.Rounding.{IsFloor, IsCeil}
use Rattle.flk_scale.specs.Parts.{IsShare}
use Rattle.flk_exact.proofs.WholeLemmas.{atom, nat, plus_is, times_is, same}
use Rattle.flk_scale.proofs.PartsLemmas.{down_by, up_by}

-- x times the share is at most x times the rest, and less than twice the divisor below it
pub estimate_low : (x share c r d : ℕ) → c * 2 ^ 64 ≤ x * share → share * d ≤ r * 2 ^ 64 → c * d ≤ x * r
estimate_low x share c r d few low =
    let one : c * 2 ^ 64 * d ≤ x * share * d = mul-le-mul_right d few in
    let two : x * (share * d) ≤ x * (r * 2 ^ 64) = mul-le-mul_left x low in
    omega (arith, one, two)

pub estimate_high : (x share c r d : ℕ) → x < 2 ^ 32 → 0 < d → x * share < c * 2 ^ 64 + 2 ^ 64 → r * 2 ^ 64 < share * d + d → x * r < c * d + 2 * d
estimate_high x share c r d few some most high =
    let one : x * share * d + d ≤ (c * 2 ^ 64 + 2 ^ 64) * d = (let next : x * share + 1 ≤ c * 2 ^ 64 + 2 ^ 64 = omega arith in omega (arith, mul-le-mul_right d next)) in
    let two : x * (r * 2 ^ 64) ≤ x * (share * d + d) = mul-le-mul_left x (omega arith) in
    let three : x * d ≤ 2 ^ 32 * d = mul-le-mul_right d (omega arith) in
    omega (arith, one, two, three)

-- the product, by the estimate
pub product_parts : (q z : ℤ) (x c r d t : ℕ) → z ≡ pos x *ℤ q +ℤ pos c → t + c * d ≡ x * r → z *ℤ pos d +ℤ pos t ≡ pos x *ℤ (q *ℤ pos d +ℤ pos r)
product_parts q z x c r d t e f =
    rw e
    (same
    (plus_is (times_is (plus_is (times_is (nat x) (atom q)) (nat c)) (nat d)) (nat t))
    (times_is (nat x) (plus_is (times_is (atom q) (nat d)) (nat r)))
    (omega (arith, f)))

-- ---- the shares of x rests r and of another rest q

shares_low : (x s t r q d : ℕ) → IsShare r d s → IsShare q d t → (x * s + t) * d ≤ (x * r + q) * 2 ^ 64
shares_low x s t r q d one other =
    let most : x * (s * d) ≤ x * (r * 2 ^ 64) = mul-le-mul_left x one.within in
    omega (arith, most, other.within)

shares_high : (x s t r q d : ℕ) → x < 2 ^ 32 → IsShare r d s → IsShare q d t → (x * r + q) * 2 ^ 64 < (x * s + t + 2 ^ 32) * d
shares_high x s t r q d few one other =
    let more : x * (r * 2 ^ 64) ≤ x * (s * d + d) = mul-le-mul_left x (omega (arith, one.greatest)) in
    let next : (x + 1) * d ≤ 2 ^ 32 * d = mul-le-mul_right d (omega arith) in
    omega (arith, more, next, other.greatest)

-- the product and the other quotient together
product_is : (u : ℤ) (x r d : ℕ) → (pos x *ℤ u) *ℤ pos d +ℤ pos (x * r) ≡ pos x *ℤ (u *ℤ pos d +ℤ pos r)
product_is u x r d =
    same
    (plus_is (times_is (times_is (nat x) (atom u)) (nat d)) (nat (x * r)))
    (times_is (nat x) (plus_is (times_is (atom u) (nat d)) (nat r)))
    (omega arith)

pub down_by_shares : (u v z : ℤ) (x s t r q d n : ℕ) → x < 2 ^ 32 → IsShare r d s → IsShare q d t → n * 2 ^ 64 ≤ x * s + t → x * s + t + 2 ^ 32 ≤ n * 2 ^ 64 + 2 ^ 64 → z ≡ pos x *ℤ u +ℤ v +ℤ pos n
    → IsFloor (pos x *ℤ (u *ℤ pos d +ℤ pos r) +ℤ (v *ℤ pos d +ℤ pos q)) (pos d) z
down_by_shares u v z x s t r q d n few one other most more e =
    let low : n * 2 ^ 64 * d ≤ (x * s + t) * d = mul-le-mul_right d most in
    let high : (x * s + t + 2 ^ 32) * d ≤ (n * 2 ^ 64 + 2 ^ 64) * d = mul-le-mul_right d more in
    rw (← product_is u x r d)
    (down_by (pos x *ℤ u) v z d (x * r) q n (omega (arith, low, shares_low x s t r q d one other)) (omega (arith, high, shares_high x s t r q d few one other)) e)

pub up_by_shares : (u v z : ℤ) (x s t r q d n : ℕ) → 0 < d → x < 2 ^ 32 → IsShare r d s → IsShare q d t → x * s + t + 2 ^ 32 ≤ n * 2 ^ 64 → n * 2 ^ 64 < x * s + t + 2 ^ 64 → z ≡ pos x *ℤ u +ℤ v +ℤ pos n
    → IsCeil (pos x *ℤ (u *ℤ pos d +ℤ pos r) +ℤ (v *ℤ pos d +ℤ pos q)) (pos d) z
up_by_shares u v z x s t r q d n some few one other most more e =
    let high : (x * s + t + 2 ^ 32) * d ≤ n * 2 ^ 64 * d = mul-le-mul_right d most in
    let low : (n * 2 ^ 64 + 1) * d ≤ (x * s + t + 2 ^ 64) * d = mul-le-mul_right d (omega (arith, more)) in
    rw (← product_is u x r d)
    (up_by (pos x *ℤ u) v z d (x * r) q n (omega (arith, high, shares_high x s t r q d few one other)) (omega (arith, low, some, shares_low x s t r q d one other)) e)
