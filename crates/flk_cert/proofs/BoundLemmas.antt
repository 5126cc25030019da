-- The sizes of both sides of a row's identity, and the bound of its form after a sample.
use Rattle.std.proofs.Common.{◌≡◌, ℕ, zero, ◌+◌, ◌*◌, ◌≤◌, ◌<◌, ap, arith}
use Rattle.std.proofs.Math.IntN.{ℤ, pos, ◌+ℤ◌, ◌*ℤ◌, neg_ℤ}
use Rattle.std.specs.Int.RustNames.{unsigned_abs}
use Rattle.std.proofs.Math.Nat.{mul-le-mul_left, mul-le-mul_right, le_of_mul-le-mul_left}
use Rattle.std.proofs.lemmas.Int.{unsigned_abs-mul}
use Rattle.flk_exact.proofs.ProductLemmas.{lin, triangle, size_of_product_within}

pub five : (a b c d e : ℤ) → unsigned_abs (a +ℤ b +ℤ c +ℤ d +ℤ e) ≤ unsigned_abs a + unsigned_abs b + unsigned_abs c + unsigned_abs d + unsigned_abs e
five a b c d e = omega (arith, triangle (a +ℤ b +ℤ c +ℤ d) e, triangle (a +ℤ b +ℤ c) d, triangle (a +ℤ b) c, triangle a b)

-- the share of rounding: |f| <= (p |big| + p p (|x| + |y|)) delta
pub rounding_share : (p delta : ℕ) (x y big f0 f12 f34 : ℤ)
    → unsigned_abs f0 ≤ p * delta → unsigned_abs f12 ≤ p * delta → unsigned_abs f34 ≤ p * delta
    → unsigned_abs (big *ℤ f0 +ℤ pos p *ℤ (x *ℤ f12) +ℤ pos p *ℤ (y *ℤ f34)) ≤ (p * unsigned_abs big + p * p * (unsigned_abs x + unsigned_abs y)) * delta
rounding_share p delta x y big f0 f12 f34 h0 h1 h2 =
    let a0 : unsigned_abs (big *ℤ f0) ≤ unsigned_abs big * (p * delta) = size_of_product_within big f0 _ _ (omega arith) h0 in
    let a1 : unsigned_abs (x *ℤ f12) ≤ unsigned_abs x * (p * delta) = size_of_product_within x f12 _ _ (omega arith) h1 in
    let a2 : unsigned_abs (y *ℤ f34) ≤ unsigned_abs y * (p * delta) = size_of_product_within y f34 _ _ (omega arith) h2 in
    let b1 : unsigned_abs (pos p *ℤ (x *ℤ f12)) ≤ p * (unsigned_abs x * (p * delta)) = size_of_product_within (pos p) (x *ℤ f12) _ _ (omega arith) a1 in
    let b2 : unsigned_abs (pos p *ℤ (y *ℤ f34)) ≤ p * (unsigned_abs y * (p * delta)) = size_of_product_within (pos p) (y *ℤ f34) _ _ (omega arith) a2 in
    omega (arith, triangle (big *ℤ f0 +ℤ pos p *ℤ (x *ℤ f12)) (pos p *ℤ (y *ℤ f34)), triangle (big *ℤ f0) (pos p *ℤ (x *ℤ f12)))

-- the arithmetic of the step: products of natural numbers alone
pub step_bound : (p q s delta t c d e r g g0 g1 gn h h0 h1 hn zn z0 z1 zf : ℕ)
    → zero < q
    → c * g0 + d * g1 + q * gn + e ≤ q * g
    → c * h0 + d * h1 + q * hn + r ≤ q * h
    → q * t ≤ q * zn + c * z0 + d * z1 + p * (e * s) + p * zf
    → zn ≤ p * (gn * s + hn * delta)
    → z0 ≤ p * (g0 * s + h0 * delta)
    → z1 ≤ p * (g1 * s + h1 * delta)
    → zf ≤ r * delta
    → t ≤ p * (g * s + h * delta)
step_bound p q s delta t c d e r g g0 g1 gn h h0 h1 hn zn z0 z1 zf hq hg hh ht kn k0 k1 kf =
    let a1 = mul-le-mul_left q kn in
    let a2 = mul-le-mul_left c k0 in
    let a3 = mul-le-mul_left d k1 in
    let a4 = mul-le-mul_left p kf in
    let b1 = mul-le-mul_right (p * s) hg in
    let b2 = mul-le-mul_right (p * delta) hh in
    le_of_mul-le-mul_left {k = q} (omega arith) hq

-- the sizes of both sides of a row's identity
pub abs_identity : (p q : ℕ) (t zn c z0 d z1 e ε f : ℤ) (s : ℕ)
    → pos q *ℤ t ≡ pos q *ℤ zn +ℤ c *ℤ z0 +ℤ d *ℤ z1 +ℤ pos p *ℤ (e *ℤ ε) +ℤ pos p *ℤ f
    → unsigned_abs ε ≤ s
    → q * unsigned_abs t ≤ q * unsigned_abs zn + unsigned_abs c * unsigned_abs z0 + unsigned_abs d * unsigned_abs z1 + p * (unsigned_abs e * s) + p * unsigned_abs f
abs_identity p q t zn c z0 d z1 e ε f s id hs =
    let m2 : unsigned_abs (e *ℤ ε) ≤ unsigned_abs e * s = size_of_product_within e ε _ _ (omega arith) hs in
    let b1 = mul-le-mul_left p m2 in
    let same : unsigned_abs (pos q *ℤ t) ≡ unsigned_abs (pos q *ℤ zn +ℤ c *ℤ z0 +ℤ d *ℤ z1 +ℤ pos p *ℤ (e *ℤ ε) +ℤ pos p *ℤ f) = ap unsigned_abs id in
    let sum = five (pos q *ℤ zn) (c *ℤ z0) (d *ℤ z1) (pos p *ℤ (e *ℤ ε)) (pos p *ℤ f) in
    omega (arith, same, sum, unsigned_abs-mul (pos q) t, unsigned_abs-mul (pos q) zn, unsigned_abs-mul c z0, unsigned_abs-mul d z1, unsigned_abs-mul (pos p) (e *ℤ ε), unsigned_abs-mul (pos p) f)

pub abs_neg : (a : ℤ) → unsigned_abs (neg_ℤ a) ≡ unsigned_abs a
abs_neg a = omega (arith, lin)
