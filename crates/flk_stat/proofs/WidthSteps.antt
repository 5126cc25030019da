-- The form that keeps a level narrow, on numbers alone. For the ends hi and lo of a value and a width e it says, for all positive a and b,
-- `a*b*hi <= a*(a+b)*lo + b*(a+b)*e^2`: the root of hi is at most that of lo and e. Squares have it, sums with weights keep it, and rounding
-- is taken up by a slightly greater width.
use Rattle.std.proofs.Common.{◌≡◌, ℕ, ◌+◌, ◌*◌, ◌/◌, ◌<◌, ◌≤◌, ⊎_elim, arith, ap, mul-le-mul_left, mul-pos}
use Rattle.std.proofs.Math.Nat.{le_of_mul-le-mul_left}
use Rattle.std.proofs.lemmas.Nat.{mul-le}
use Rattle.std.proofs.lemmas.Bool.{cases_lt}
use Rattle.flk_exact.proofs.WholeLemmas.{twice_product}

-- the form of a square: y is at most x + g
pub square_form : (a b x y g : ℕ) → y ≤ x + g → a * b * (y * y) ≤ a * (a + b) * (x * x) + b * (a + b) * (g * g)
square_form a b x y g h =
    let s : y * y ≤ (x + g) * (x + g) = mul-le y y (x + g) (x + g) h h in
    let m : a * b * (y * y) ≤ a * b * ((x + g) * (x + g)) = mul-le-mul_left (a * b) s in
    let t = twice_product (a * x) (b * g) in
    omega arith

-- rounding of e on both sides, taken up by D. The ratio u to v is where the two cases meet
pub absorb : (e E D u v h l hi lo : ℕ) → 0 < u → 0 < v
    → ((a b : ℕ) → 0 < a → 0 < b → a * b * h ≤ a * (a + b) * l + b * (a + b) * E)
    → hi ≤ h + e → l ≤ lo + e
    → (v + u) * e ≤ v * D
    → u * (2 * v + u) * e + v * v * E ≤ u * v * D
    → (a b : ℕ) → 0 < a → 0 < b → a * b * hi ≤ a * (a + b) * lo + b * (a + b) * (E + D)
absorb e E D u v h l hi lo pu pv form up low k1 k2 a b pa pb =
    ⊎_elim
    (λ far.
    let f0 = form u v pu pv in
    let f1 : u * v * hi ≤ u * v * (h + e) = mul-le-mul_left (u * v) up in
    let f2 : u * (u + v) * l ≤ u * (u + v) * (lo + e) = mul-le-mul_left (u * (u + v)) low in
    let one : u * v * hi ≤ u * (u + v) * lo + u * v * (E + D) = omega arith in
    let g0 : a * b * (u * v * hi) ≤ a * b * (u * (u + v) * lo + u * v * (E + D)) = mul-le-mul_left (a * b) one in
    let g1 : (u * a * lo) * (b * (u + v)) ≤ (u * a * lo) * (v * (a + b)) = mul-le-mul_left (u * a * lo) (omega arith) in
    let g : (u * v) * (a * b * hi) ≤ (u * v) * (a * (a + b) * lo + b * (a + b) * (E + D)) = omega arith in
    le_of_mul-le-mul_left g (mul-pos pu pv))
    (λ near.
    let f0 = form a b pa pb in
    let f1 : a * b * hi ≤ a * b * (h + e) = mul-le-mul_left (a * b) up in
    let f2 : a * (a + b) * l ≤ a * (a + b) * (lo + e) = mul-le-mul_left (a * (a + b)) low in
    let r0 : e * (a * v) ≤ e * (b * u) = mul-le-mul_left e near in
    let r1 : b * ((v + u) * e) ≤ b * (v * D) = mul-le-mul_left b k1 in
    let r2 : v * ((a + b) * e) ≤ v * (b * D) = omega arith in
    let r3 : (a + b) * e ≤ b * D = le_of_mul-le-mul_left r2 pv in
    let r4 : (a + b) * ((a + b) * e) ≤ (a + b) * (b * D) = mul-le-mul_left (a + b) r3 in
    omega arith)
    (cases_lt (b * u) (a * v))

-- the constants of `absorb`: the width w of a weighted point is (S + Q) over Q * 2^25, and S over Q * 2^25 without 2^-25
pub room_one : (S Q : ℕ) → (Q + 8 * (S + Q)) * (8192 * (Q * Q)) ≤ Q * (1242800 * (2 * (S * Q) + Q * Q))
room_one S Q = omega arith

pub room_two : (S Q : ℕ) → 8 * (S + Q) * (2 * Q + 8 * (S + Q)) * (8192 * (Q * Q)) + Q * Q * (1242800 * (S * S))
    ≤ 8 * (S + Q) * Q * (1242800 * (2 * (S * Q) + Q * Q))
room_two S Q = omega arith

-- the rounded square of the smoothing against 310700 times the exact one, in units
pub scaled_low : (s : ℕ) → (281474976710656 * (s / 65536 * 310700 / 4294967296) ≤ 310700 * s) × (310700 * s ≤ 281474976710656 * (s / 65536 * 310700 / 4294967296 + 2))
scaled_low s = (omega arith, omega arith)

-- one step of the drift of the ends, at any C with K + C = 2^32: l and h are over t, the level's ends over 1
pub drift_low : (K C p q Z l z t : ℕ) → K + C ≡ 4294967296 → 4294967296 ≤ 2046 * C
    → l ≤ (p + 2048) * t → z ≤ (Z + 2) * t → K * p + C * Z ≤ 4294967296 * q + 4294967296
    → K * l + C * z ≤ 4294967296 * ((q + 2048) * t)
drift_low K C p q Z l z t e big a b c =
    let d : t * (K * p + C * Z) ≤ t * (4294967296 * q + 4294967296) = mul-le-mul_left t c in
    let f : K * l ≤ K * ((p + 2048) * t) = mul-le-mul_left K a in
    let g : C * z ≤ C * ((Z + 2) * t) = mul-le-mul_left C b in
    let h : t * 4294967296 ≤ t * (2046 * C) = mul-le-mul_left t big in
    let i : t * (K + C) ≡ t * 4294967296 = ap (λ (n : ℕ). t * n) e in
    omega arith

pub drift_high : (K C p q Z h z t : ℕ) → K + C ≡ 4294967296 → 4294967296 ≤ 2046 * C
    → p * t ≤ h + 2048 * t → Z * t ≤ z + 2 * t → 4294967296 * q ≤ K * p + C * Z + 4294967296
    → 4294967296 * (q * t) ≤ K * h + C * z + 4294967296 * (2048 * t)
drift_high K C p q Z h z t e big a b c =
    let d : t * (4294967296 * q) ≤ t * (K * p + C * Z + 4294967296) = mul-le-mul_left t c in
    let f : K * (p * t) ≤ K * (h + 2048 * t) = mul-le-mul_left K a in
    let g : C * (Z * t) ≤ C * (z + 2 * t) = mul-le-mul_left C b in
    let i : t * 4294967296 ≤ t * (2046 * C) = mul-le-mul_left t big in
    let j : t * (K + C) ≡ t * 4294967296 = ap (λ (n : ℕ). t * n) e in
    omega arith

-- one step of the form of the unrounded ends: s and S are the least and the greatest square, G is at least their distance
pub form_step : (K C a b L H s S g t : ℕ)
    → a * b * H ≤ a * (a + b) * L + b * (a + b) * (310700 * (g * g) * t)
    → a * b * S ≤ a * (a + b) * s + b * (a + b) * (g * g)
    → a * b * (K * H + C * (310700 * (S * t))) ≤ a * (a + b) * (K * L + C * (310700 * (s * t))) + b * (a + b) * (310700 * (g * g) * ((K + C) * t))
form_step K C a b L H s S g t old now =
    let d = mul-le-mul_left K old in
    let e = mul-le-mul_left (C * (310700 * t)) now in
    omega arith

-- the form of a level's rounded ends: t is 4 K
pub level_form : (K Q S H L hi lo : ℕ) → 0 < K → 0 < Q
    → ((a b : ℕ) → 0 < a → 0 < b → a * b * (Q * Q * H) ≤ a * (a + b) * (Q * Q * L) + b * (a + b) * (K * (1242800 * (S * S))))
    → hi * (4 * K) ≤ H + 2048 * (4 * K) → L ≤ (lo + 2048) * (4 * K)
    → (a b : ℕ) → 0 < a → 0 < b
    → a * b * (Q * Q * (4 * hi)) ≤ a * (a + b) * (Q * Q * (4 * lo)) + b * (a + b) * (1242800 * ((S + Q) * (S + Q)))
level_form K Q S H L hi lo pk pq form up low a b pa pb =
    let k1 = mul-le-mul_left K (room_one S Q) in
    let k2 = mul-le-mul_left K (room_two S Q) in
    let u1 : Q * Q * (hi * (4 * K)) ≤ Q * Q * (H + 2048 * (4 * K)) = mul-le-mul_left (Q * Q) up in
    let l1 : Q * Q * L ≤ Q * Q * ((lo + 2048) * (4 * K)) = mul-le-mul_left (Q * Q) low in
    let r = absorb (K * (8192 * (Q * Q))) (K * (1242800 * (S * S))) (K * (1242800 * (2 * (S * Q) + Q * Q))) (8 * (S + Q)) Q
    (Q * Q * H) (Q * Q * L) (Q * Q * (hi * (4 * K))) (Q * Q * (lo * (4 * K)))
    (omega arith) pq form (omega arith) (omega arith) (omega arith) (omega arith) a b pa pb in
    let g : K * (a * b * (Q * Q * (4 * hi))) ≤ K * (a * (a + b) * (Q * Q * (4 * lo)) + b * (a + b) * (1242800 * ((S + Q) * (S + Q)))) = omega arith in
    le_of_mul-le-mul_left g pk
