-- The step from a square and a divisor to a point, over natural numbers.
use Rattle.std.proofs.Common.{◌≡◌, ℕ, ◌+◌, ◌-◌, ◌*◌, ◌<◌, ◌≤◌, ap, arith, ⊎_elim}
use Rattle.std.proofs.lemmas.Nat.{mul-le}
use Rattle.std.proofs.lemmas.Bool.{cases_lt}
use Rattle.std.proofs.Math.Nat.{mul-le-mul_left, mul-le-mul_right, mul-pos, le_of_mul-le-mul_left, le_of_mul-le-mul_right}

pub cases_le : {P : Type 0} (a b : ℕ) → (a ≤ b → P) → (b ≤ a → P) → P
cases_le a b f g = ⊎_elim (λ less. f (omega arith)) (λ most. g most) (cases_lt a b)

-- ---- the point: eta / delta is the exact output, D / delta is max(m, 1/4), v is 2^64
pub point_upper : (v w delta eta D nu Q Dl y : ℕ)
    → 0 < v → 0 < D
    → eta * D ≡ nu * delta
    → w * nu ≤ Q * delta
    → Dl * delta ≤ v * D
    → Q * v ≤ y * Dl
    → w * eta ≤ y * delta
point_upper v w delta eta D nu Q Dl y hv hd he hq hl hy =
    let a : v * w * (eta * D) ≡ v * w * (nu * delta) = ap (λ (n : ℕ). v * w * n) he in
    let b = mul-le-mul_left (v * delta) hq in
    let c = mul-le-mul_right (delta * delta) hy in
    let d = mul-le-mul_left (y * delta) hl in
    le_of_mul-le-mul_left {k = v * D} (omega arith) (mul-pos hv hd)

pub point_lower : (v w delta eta D nu Q Dh y : ℕ)
    → 0 < v → 0 < D
    → eta * D ≡ nu * delta
    → Q * delta ≤ w * nu
    → v * D ≤ Dh * delta
    → y * Dh ≤ Q * v
    → y * delta ≤ w * eta
point_lower v w delta eta D nu Q Dh y hv hd he hq hl hy =
    let a : v * w * (eta * D) ≡ v * w * (nu * delta) = ap (λ (n : ℕ). v * w * n) he in
    let b = mul-le-mul_left (v * delta) hq in
    let c = mul-le-mul_right (delta * delta) hy in
    let d = mul-le-mul_left (y * delta) hl in
    le_of_mul-le-mul_left {k = v * D} (omega arith) (mul-pos hv hd)

-- ---- the width of a point; d / delta is max(m, 1/4), zeta / delta bounds the error of m, e / delta that of the square in units
-- (y - 1) d d <= w (nu + e) (d + 2 zeta)
pub top_of_point : (v w delta d zeta nu e Q Dl y : ℕ)
    → 0 < v
    → Q * delta ≤ w * (nu + e)
    → v * d ≤ Dl * delta + v * zeta → 2 * zeta ≤ d
    → y * Dl ≤ Q * v
    → y * (d * d) ≤ w * (nu + e) * (d + 2 * zeta)
top_of_point v w delta d zeta nu e Q Dl y hv hQ hD hz hy =
    let f : (k : ℕ) × (d ≡ 2 * zeta + k) = (d - 2 * zeta, omega arith) in
    let k = f.0 in
    -- v d d <= Dl delta (d + 2 zeta)
    let a : v * (d * d) ≤ Dl * delta * (d + 2 * zeta) =
    let x = mul-le-mul_right (d + 2 * zeta) hD in
    let e1 : d * d ≡ d * (2 * zeta + k) = ap (λ (n : ℕ). d * n) f.1 in
    let e2 : zeta * d ≡ zeta * (2 * zeta + k) = ap (λ (n : ℕ). zeta * n) f.1 in
    let e3 : v * (zeta * d) ≡ v * (zeta * (2 * zeta + k)) = ap (λ (n : ℕ). v * n) e2 in
    omega arith in
    let b = mul-le-mul_left y a in
    let c = mul-le-mul_right (delta * (d + 2 * zeta)) hy in
    let g = mul-le-mul_right (v * (d + 2 * zeta)) hQ in
    le_of_mul-le-mul_left {k = v} (omega arith) hv

-- (y + 1) d d + w nu zeta + w e d >= w nu d
pub foot_of_point : (v w delta d zeta nu e Q Dh y : ℕ)
    → 0 < v → 0 < d
    → w * nu ≤ Q * delta + w * e
    → Dh * delta ≤ v * (d + zeta)
    → Q * v ≤ y * Dh
    → w * nu * d ≤ y * (d * d) + w * nu * zeta + w * e * d
foot_of_point v w delta d zeta nu e Q Dh y hv hd hQ hD hy =
    let a = mul-le-mul_right delta hy in
    let b = mul-le-mul_left y hD in
    let c : Q * delta ≤ y * (d + zeta) = le_of_mul-le-mul_left {k = v} (omega arith) hv in
    cases_le zeta d
    (λ h. let f : (k : ℕ) × (d ≡ zeta + k) = (d - zeta, omega arith) in
    let k = f.0 in
    let g : w * nu ≤ y * (d + zeta) + w * e = omega arith in
    let m = mul-le-mul_right k g in
    let e1 : y * (d * d) ≡ y * ((zeta + k) * (zeta + k)) = ap (λ (n : ℕ). y * (n * n)) f.1 in
    let e2 : w * nu * d ≡ w * nu * (zeta + k) = ap (λ (n : ℕ). w * nu * n) f.1 in
    let e3 : w * e * d ≡ w * e * (zeta + k) = ap (λ (n : ℕ). w * e * n) f.1 in
    let e4 : y * (d + zeta) * k ≡ y * (zeta + k + zeta) * k = ap (λ (n : ℕ). y * (n + zeta) * k) f.1 in
    omega arith)
    (λ h. let i = mul-le-mul_left (w * nu) h in omega arith)

-- the radius of the point, at its own d
pub radius_here : (w d zeta nu e top foot radius : ℕ)
    → top * (d * d) ≤ w * (nu + e) * (d + 2 * zeta)
    → w * nu * d ≤ foot * (d * d) + w * nu * zeta + w * e * d
    → 2 * zeta ≤ d
    → 2 * radius + foot ≤ top + 3
    → 2 * radius * (d * d) ≤ 3 * (w * nu * zeta) + 3 * (w * e * d) + 3 * (d * d)
radius_here w d zeta nu e top foot radius ht hf hz hr =
    let a = mul-le-mul_right (d * d) hr in
    let b = mul-le-mul_left (w * e) hz in
    omega arith

-- and in terms of the least r of all d and the greatest square a
pub radius_of_run : (w d r zeta nu a e radius : ℕ)
    → 0 < d → r ≤ d → nu ≤ a
    → 2 * radius * (d * d) ≤ 3 * (w * nu * zeta) + 3 * (w * e * d) + 3 * (d * d)
    → 2 * radius * (r * r) ≤ 3 * (w * a * zeta) + 3 * (w * e * r) + 3 * (r * r)
radius_of_run w d r zeta nu a e radius hd hr ha h =
    let f : (k : ℕ) × (d ≡ r + k) = (d - r, omega arith) in
    let rr : r * r ≤ d * d = mul-le r r d d hr hr in
    let x = mul-le-mul_right (r * r) h in
    let y = mul-le-mul_left (3 * (w * zeta)) (mul-le nu (r * r) a (d * d) ha rr) in
    let z = mul-le-mul_left (3 * (w * e) * (d * r)) hr in
    le_of_mul-le-mul_left {k = d * d} (omega arith) (mul-pos hd hd)

-- The stated bound. x is 2^46, so 4 x is 2^48. Over delta: kappa is the width of a square for the radius rho, E for rho + 2^-48, a is A, sq is A^2, r is R
pub radius_bound : (x delta r zeta kappa E a sq we radius : ℕ)
    → x * zeta ≡ x * kappa + delta
    → we ≡ 4 * x * kappa + delta
    → 2 * x * kappa + a ≤ 2 * x * E → a ≤ 2 * x * kappa
    → a * a ≡ sq * delta → 0 < delta → delta ≤ 4 * r
    → 2 * radius * (r * r) ≤ 3 * (4 * x * sq * zeta) + 3 * (we * r) + 3 * (r * r)
    → radius * (r * r) ≤ 2 * (4 * x) * E * (r + sq) + 256 * (r * r)
radius_bound x delta r zeta kappa E a sq we radius hz he hE hk ha hd hr h =
    let e1 : we * r ≡ (4 * x * kappa + delta) * r = ap (λ (n : ℕ). n * r) he in
    let e2 = mul-le-mul_right r hE in
    let e3 = mul-le-mul_right r hr in
    let z1 : sq * (x * zeta) ≡ sq * (x * kappa + delta) = ap (λ (n : ℕ). sq * n) hz in
    let s1 = mul-le-mul_left sq hE in
    let s2 = mul-le-mul_left sq hk in
    cases_le (3 * delta) (2 * a)
    (λ c. let s3 = mul-le-mul_left sq c in omega arith)
    (λ c. let t1 = mul-le (2 * a) (2 * a) (3 * delta) (3 * delta) c c in
    let t2 : 4 * sq * delta ≤ 9 * delta * delta = omega arith in
    let t3 : 4 * sq ≤ 9 * delta = le_of_mul-le-mul_right {k = delta} t2 hd in
    let t4 = mul-le-mul_right delta t3 in
    let t5 = mul-le delta delta (4 * r) (4 * r) hr hr in
    omega arith)

-- and for each r that is not above it
pub radius_wider : (c E s r sq radius : ℕ) → 0 < s → r ≤ s → radius * (s * s) ≤ c * E * (s + sq) + 256 * (s * s) → radius * (r * r) ≤ c * E * (r + sq) + 256 * (r * r)
radius_wider c E s r sq radius some h k =
    let x = mul-le-mul_right (r * r) k in
    let y = mul-le-mul_left (c * E * (r * s)) h in
    let z = mul-le-mul_left (c * E * sq) (mul-le r r s s h h) in
    le_of_mul-le-mul_left {k = s * s} (omega arith) (mul-pos some some)
