-- One section of a sample: a form of the states after it is a form of those before it, the input's share and what rounding adds. p stands for
-- 2^32 and delta for one unit; ε and η are the errors of input and output, e1 and e2 those of the states before the sample, e1' and e2' after
-- it, f0, f12 and f34 what rounding of products loses, phi1 and phi2 what rounding of the form loses.
use Rattle.std.proofs.Common.{◌≡◌, ℕ, ◌+◌, ◌*◌, ◌≤◌, ◌<◌, sym, ap, ◌∙◌, arith}
use Rattle.std.proofs.Math.IntN.{ℤ, ◌+ℤ◌, ◌-ℤ◌, ◌*ℤ◌, neg_ℤ}
use Rattle.std.specs.Int.RustNames.{unsigned_abs}
use Rattle.std.proofs.Math.Nat.{mul-le-mul_left, mul-le-mul_right, le_of_mul-le-mul_left}
use Rattle.flk_exact.proofs.ProductLemmas.{lin, distrib, distrib_right, neg_right, mul_assoc, left_comm, sub_scaled, triangle, size_of_product_within}

pub section_step : (p b0 b1 b2 a1 a2 z u v Z W phi1 phi2 ε η e1 e2 e1' e2' f0 f12 f34 : ℤ)
    → p *ℤ η ≡ b0 *ℤ ε +ℤ e1 +ℤ f0
    → e1' ≡ b1 *ℤ ε -ℤ a1 *ℤ η +ℤ e2 +ℤ f12
    → e2' ≡ b2 *ℤ ε -ℤ a2 *ℤ η +ℤ f34
    → p *ℤ Z +ℤ phi1 ≡ p *ℤ z -ℤ a1 *ℤ u -ℤ a2 *ℤ v
    → p *ℤ W +ℤ phi2 ≡ Z *ℤ b0 +ℤ u *ℤ b1 +ℤ v *ℤ b2
    → p *ℤ (z *ℤ η) +ℤ u *ℤ e1' +ℤ v *ℤ e2' ≡ p *ℤ (W *ℤ ε) +ℤ Z *ℤ e1 +ℤ u *ℤ e2 +ℤ (phi1 *ℤ η +ℤ phi2 *ℤ ε +ℤ Z *ℤ f0 +ℤ u *ℤ f12 +ℤ v *ℤ f34)
section_step p b0 b1 b2 a1 a2 z u v Z W phi1 phi2 ε η e1 e2 e1' e2' f0 f12 f34 h0 h1 h2 hZ hW =
    let x1 : u *ℤ e1' ≡ u *ℤ (b1 *ℤ ε -ℤ a1 *ℤ η +ℤ e2) +ℤ u *ℤ f12 = ap (λ (t : ℤ). u *ℤ t) h1 ∙ distrib u _ f12 in
    let x2 = distrib u (b1 *ℤ ε -ℤ a1 *ℤ η) e2 in
    let x3 = sub_scaled u (b1 *ℤ ε) (a1 *ℤ η) in
    let y1 : v *ℤ e2' ≡ v *ℤ (b2 *ℤ ε -ℤ a2 *ℤ η) +ℤ v *ℤ f34 = ap (λ (t : ℤ). v *ℤ t) h2 ∙ distrib v _ f34 in
    let y2 = sub_scaled v (b2 *ℤ ε) (a2 *ℤ η) in
    let c1 : (p *ℤ Z) *ℤ η +ℤ phi1 *ℤ η ≡ (p *ℤ z -ℤ a1 *ℤ u) *ℤ η +ℤ neg_ℤ (a2 *ℤ v) *ℤ η = sym (distrib_right (p *ℤ Z) phi1 η) ∙ ap (λ (t : ℤ). t *ℤ η) hZ ∙ distrib_right _ (neg_ℤ (a2 *ℤ v)) η in
    let c2 = distrib_right (p *ℤ z) (neg_ℤ (a1 *ℤ u)) η in
    let c3 = neg_right (a1 *ℤ u) η in
    let c4 = neg_right (a2 *ℤ v) η in
    let c5 = mul_assoc p z η in
    let c6 : (a1 *ℤ u) *ℤ η ≡ u *ℤ (a1 *ℤ η) = mul_assoc a1 u η ∙ left_comm a1 u η in
    let c7 : (a2 *ℤ v) *ℤ η ≡ v *ℤ (a2 *ℤ η) = mul_assoc a2 v η ∙ left_comm a2 v η in
    let d1 : (p *ℤ Z) *ℤ η ≡ Z *ℤ (b0 *ℤ ε +ℤ e1) +ℤ Z *ℤ f0 = mul_assoc p Z η ∙ left_comm p Z η ∙ ap (λ (t : ℤ). Z *ℤ t) h0 ∙ distrib Z _ f0 in
    let d2 = distrib Z (b0 *ℤ ε) e1 in
    let g1 : (p *ℤ W) *ℤ ε +ℤ phi2 *ℤ ε ≡ (Z *ℤ b0 +ℤ u *ℤ b1) *ℤ ε +ℤ (v *ℤ b2) *ℤ ε = sym (distrib_right (p *ℤ W) phi2 ε) ∙ ap (λ (t : ℤ). t *ℤ ε) hW ∙ distrib_right _ (v *ℤ b2) ε in
    let g2 = distrib_right (Z *ℤ b0) (u *ℤ b1) ε in
    let g3 = mul_assoc Z b0 ε in
    let g4 = mul_assoc u b1 ε in
    let g5 = mul_assoc v b2 ε in
    let g6 = mul_assoc p W ε in
    omega (arith, lin)

-- what one section of a sample adds
pub remainder : (p delta s0 s1 : ℕ) (Z u v phi1 phi2 ε η f0 f12 f34 : ℤ)
    → unsigned_abs phi1 ≤ p → unsigned_abs phi2 ≤ p
    → p * unsigned_abs η ≤ s1 → p * unsigned_abs ε ≤ s0
    → unsigned_abs f0 ≤ p * delta → unsigned_abs f12 ≤ p * delta → unsigned_abs f34 ≤ p * delta
    → unsigned_abs (phi1 *ℤ η +ℤ phi2 *ℤ ε +ℤ Z *ℤ f0 +ℤ u *ℤ f12 +ℤ v *ℤ f34) ≤ s1 + s0 + p * ((unsigned_abs Z + unsigned_abs u + unsigned_abs v) * delta)
remainder p delta s0 s1 Z u v phi1 phi2 ε η f0 f12 f34 h1 h2 he hi k0 k1 k2 =
    let a = size_of_product_within phi1 η p (unsigned_abs η) h1 (omega arith) in
    let b = size_of_product_within phi2 ε p (unsigned_abs ε) h2 (omega arith) in
    let zz : unsigned_abs Z ≤ unsigned_abs Z = omega arith in
    let uu : unsigned_abs u ≤ unsigned_abs u = omega arith in
    let vv : unsigned_abs v ≤ unsigned_abs v = omega arith in
    let c = size_of_product_within Z f0 _ _ zz k0 in
    let d = size_of_product_within u f12 _ _ uu k1 in
    let e = size_of_product_within v f34 _ _ vv k2 in
    omega (
      arith,
      he,
      hi,
      triangle (phi1 *ℤ η +ℤ phi2 *ℤ ε +ℤ Z *ℤ f0 +ℤ u *ℤ f12) (v *ℤ f34),
      triangle (phi1 *ℤ η +ℤ phi2 *ℤ ε +ℤ Z *ℤ f0) (u *ℤ f12),
      triangle (phi1 *ℤ η +ℤ phi2 *ℤ ε) (Z *ℤ f0),
      triangle (phi1 *ℤ η) (phi2 *ℤ ε),
    )

-- ---- bounds of errors, over natural numbers: `P*S + p*(t*D)` is the bound (P, t) with S for the input's error and D for one unit

-- the output, by the gain (i, r)
pub output_step : (p S D i P t r P' T : ℕ) → P * i ≤ P' * p → t * i ≤ T * p
    → i * (P * S + p * (t * D)) + p * (p * (r * D)) ≤ p * (P' * S + p * ((T + r) * D))
output_step p S D i P t r P' T h1 h2 = omega (arith, mul-le-mul_right S h1, mul-le-mul_right (p * D) h2)

-- a state, by (g, h)
pub state_step : (p S D g h P t P' T H e : ℕ) → 0 < p → p * e ≤ g * (P * S + p * (t * D)) + D * h * p → g * P ≤ P' * p → g * t ≤ T * p → h ≤ H * p
    → e ≤ P' * S + p * ((T + H) * D)
state_step p S D g h P t P' T H e some he h1 h2 h3 =
    let a = mul-le-mul_right S h1 in
    let b = mul-le-mul_right (p * D) h2 in
    let c = mul-le-mul_right (p * D) h3 in
    le_of_mul-le-mul_left {k = p} (omega (arith, he, a, b, c)) some

-- the second state, by the first and what bounds `e2 - a1*e1/p`
pub second_step : (p D B a e1 e2 g0 h0 g1 h1 c d : ℕ) → 0 < p → p * e1 ≤ g0 * B + D * h0 * p → p * e2 ≤ (g1 * B + D * h1 * p) + a * e1 → a * g0 ≤ c * p → a * h0 ≤ d * p
    → p * e2 ≤ (g1 + c) * B + D * (h1 + d) * p
second_step p D B a e1 e2 g0 h0 g1 h1 c d some first both hc hd =
    let x = mul-le-mul_left a first in
    let y = mul-le-mul_left p both in
    let z = mul-le-mul_right B hc in
    let w = mul-le-mul_right (D * p) hd in
    le_of_mul-le-mul_left {k = p} (omega (arith, x, y, z, w)) some
