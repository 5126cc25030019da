-- A step of the smoothing, over natural numbers and in whole ones.
use Rattle.std.proofs.Common.{◌≡◌, ℕ, ◌+◌, ◌-◌, ◌*◌, ◌/◌, ◌^◌, ◌<◌, ◌≤◌, ℤ, pos, ◌-ℤ◌, ◌*ℤ◌, refl, ap, arith}
use Rattle.std.specs.Prelude.{negsuc}
use Rattle.std.specs.Int.{div_ceil}
use Rattle.std.proofs.lemmas.Int.{ints}
use Rattle.std.proofs.lemmas.Nat.{mul-le}
use Rattle.std.proofs.Math.Nat.{div-mul-le_self, mul-le-mul_left, mul-le-mul_right, le_of_mul-le-mul_left, lt_of_mul-lt-mul_right}
use Rattle.flk_exact.proofs.ProductLemmas.{sub_scaled}
use Rattle.flk_front.proofs.SquareSteps.{ceil_within, ceil_least}

-- ---- scaled squares. Over D the exact square of a signal is nu, in squares of nominal; g is the scale.

-- Z is at most the scaled square
pub scaled_below : (s g nu D : ℕ) → s * D ≤ 2 ^ 96 * nu → s / 2 ^ 16 * g / 2 ^ 32 * D ≤ 2 ^ 48 * (g * nu)
scaled_below s g nu D h =
    let t = s / 2 ^ 16 in
    let a : t * 2 ^ 16 ≤ s = div-mul-le_self s (2 ^ 16) in
    let b : t * g / 2 ^ 32 * 2 ^ 32 ≤ t * g = div-mul-le_self (t * g) (2 ^ 32) in
    let c = mul-le-mul_left (2 ^ 16 * D) b in
    let d = mul-le-mul_left (g * D) a in
    let e = mul-le-mul_left g h in
    le_of_mul-le-mul_left {k = 2 ^ 48} (omega arith) (omega arith)

pub scaled_above : (s g nu D : ℕ) → 2 ^ 96 * nu ≤ s * D → 2 ^ 48 * (g * nu) ≤ div_ceil (div_ceil s (2 ^ 16) * g) (2 ^ 32) * D
scaled_above s g nu D h =
    let t = div_ceil s (2 ^ 16) in
    let a : s ≤ t * 2 ^ 16 = ceil_within s (2 ^ 16) (omega arith) in
    let b : t * g ≤ div_ceil (t * g) (2 ^ 32) * 2 ^ 32 = ceil_within (t * g) (2 ^ 32) (omega arith) in
    let c = mul-le-mul_left (2 ^ 16 * D) b in
    let d = mul-le-mul_left (g * D) a in
    let e = mul-le-mul_left g h in
    le_of_mul-le-mul_left {k = 2 ^ 48} (omega arith) (omega arith)

-- ---- the mean. Over D the level before is alpha, the one behind beta, and the scaled square zeta; w is 2^48 and P is 2^32.

pub low_kept : (P w share rest D alpha beta zeta E Z q : ℕ) → 0 < P → P * beta ≡ rest * alpha + share * zeta
    → E * D ≤ w * alpha → Z * D ≤ w * zeta → q * P ≤ rest * E + share * Z → q * D ≤ w * beta
low_kept P w share rest D alpha beta zeta E Z q some is low square floor =
    let a = mul-le-mul_left rest low in
    let b = mul-le-mul_left share square in
    let c = mul-le-mul_right D floor in
    let d : w * (P * beta) ≡ w * (rest * alpha + share * zeta) = ap (λ (n : ℕ). w * n) is in
    le_of_mul-le-mul_left {k = P} (omega arith) some

pub high_kept : (P w share rest D alpha beta zeta E Z q : ℕ) → 0 < P → P * beta ≡ rest * alpha + share * zeta
    → w * alpha ≤ E * D → w * zeta ≤ Z * D → rest * E + share * Z ≤ q * P → w * beta ≤ q * D
high_kept P w share rest D alpha beta zeta E Z q some is high square ceil =
    let a = mul-le-mul_left rest high in
    let b = mul-le-mul_left share square in
    let c = mul-le-mul_right D ceil in
    let d : w * (P * beta) ≡ w * (rest * alpha + share * zeta) = ap (λ (n : ℕ). w * n) is in
    le_of_mul-le-mul_left {k = P} (omega arith) some

-- the exact step in natural numbers: the new level is not below 0
pub record Mean (share rest alpha zeta : ℕ) (B : ℤ) : Type 0 where
  pub beta : ℕ
  pub same : B ≡ pos beta
  pub is : 2 ^ 32 * beta ≡ rest * alpha + share * zeta

pub natural_mean : (share rest alpha zeta : ℕ) (B : ℤ) → rest + share ≡ 2 ^ 32 → pos (2 ^ 32) *ℤ (B -ℤ pos alpha) ≡ pos share *ℤ (pos zeta -ℤ pos alpha)
    → Mean share rest alpha zeta B
natural_mean share rest alpha zeta (pos b) parts eq =
    let e = sub_scaled (pos share) (pos zeta) (pos alpha) in
    let f : (rest + share) * alpha ≡ 2 ^ 32 * alpha = ap (λ (n : ℕ). n * alpha) parts in
    record { beta = b; same = refl; is = omega (arith, ints, e, eq, f) }
natural_mean share rest alpha zeta (negsuc b) parts eq =
    let e = sub_scaled (pos share) (pos zeta) (pos alpha) in
    let f : (rest + share) * alpha ≡ 2 ^ 32 * alpha = ap (λ (n : ℕ). n * alpha) parts in
    absurd (omega (arith, ints, e, eq, f))

-- ---- ends in order

-- a quotient rounded down is at most a greater one rounded up
pub floor_ceil : (x y P : ℕ) → 0 < P → x ≤ y → x / P ≤ div_ceil y P
floor_ceil x y P some order =
    let a = div-mul-le_self x P in
    let b = ceil_within y P some in
    le_of_mul-le-mul_left {k = P} (omega arith) some

pub mean_ordered : (rest share P a b c d : ℕ) → 0 < P → a ≤ b → c ≤ d → (rest * a + share * c) / P ≤ div_ceil (rest * b + share * d) P
mean_ordered rest share P a b c d some left right =
    floor_ceil (rest * a + share * c) (rest * b + share * d) P some (omega (arith, mul-le-mul_left rest left, mul-le-mul_left share right))

pub scaled_ordered : (s t g : ℕ) → s ≤ t → s / 2 ^ 16 * g / 2 ^ 32 ≤ div_ceil (div_ceil t (2 ^ 16) * g) (2 ^ 32)
scaled_ordered s t g order =
    floor_ceil (s / 2 ^ 16 * g) (div_ceil t (2 ^ 16) * g) (2 ^ 32) (omega arith) (mul-le-mul_right g (floor_ceil s t (2 ^ 16) (omega arith) order))

-- a quotient rounded up is small
pub ceil_small : (x P m : ℕ) → 0 < P → x ≤ m * P → div_ceil x P ≤ m
ceil_small x P m some h =
    let a = ceil_least x P some in
    let less : div_ceil x P < m + 1 = lt_of_mul-lt-mul_right P (omega arith) in
    omega arith

pub mean_small : (rest share P b d m : ℕ) → 0 < P → rest + share ≡ P → b ≤ m → d ≤ m → div_ceil (rest * b + share * d) P ≤ m
mean_small rest share P b d m some parts left right =
    let f : (rest + share) * m ≡ P * m = ap (λ (n : ℕ). n * m) parts in
    ceil_small (rest * b + share * d) P m some (omega (arith, mul-le-mul_left rest left, mul-le-mul_left share right))

pub scaled_small : (s : ℕ) → s < 2 ^ 122 → div_ceil (div_ceil s (2 ^ 16) * 310700) (2 ^ 32) < 2 ^ 93
scaled_small s small =
    let t = ceil_small s (2 ^ 16) (2 ^ 106) (omega arith) (omega arith) in
    let z = ceil_small (div_ceil s (2 ^ 16) * 310700) (2 ^ 32) (2 ^ 93 - 1) (omega arith) (omega arith) in
    omega arith

-- the ends after a sample, whose squares are those of these sizes
pub ends_ordered : (c lo hi s t : ℕ) → lo ≤ hi → s ≤ t
    → ((2 ^ 32 - c) * lo + c * (s * s / 2 ^ 16 * 310700 / 2 ^ 32)) / 2 ^ 32 ≤ div_ceil ((2 ^ 32 - c) * hi + c * div_ceil (div_ceil (t * t) (2 ^ 16) * 310700) (2 ^ 32)) (2 ^ 32)
ends_ordered c lo hi s t level size =
    mean_ordered (2 ^ 32 - c) c (2 ^ 32) lo hi (s * s / 2 ^ 16 * 310700 / 2 ^ 32) (div_ceil (div_ceil (t * t) (2 ^ 16) * 310700) (2 ^ 32)) (omega arith) level
    (scaled_ordered (s * s) (t * t) 310700 (mul-le s s t t size size))
