-- How the errors of a section's states move over one sample, and with them the form of a row. p stands for 2^32 and q for p*p; x and
-- y are a row's numbers, ε and η the errors of input and output, e1 and e2 those of the states, f0, f12 and f34 what rounding loses.
use Rattle.std.proofs.Common.{◌≡◌, sym, ap, ◌∙◌, arith}
use Rattle.std.proofs.Math.IntN.{ℤ, ◌+ℤ◌, ◌-ℤ◌, ◌*ℤ◌, neg_ℤ}
use Rattle.flk_exact.proofs.ProductLemmas.{lin, distrib, distrib_neg, mul_assoc, distrib_right, neg_right, left_comm}

-- p times the new first state error, without the output error η
pub first_state : (p b0 b1 a1 ε η e1 e1' e2 f0 f12 u : ℤ)
    → p *ℤ η ≡ b0 *ℤ ε +ℤ e1 +ℤ f0
    → e1' ≡ b1 *ℤ ε -ℤ a1 *ℤ η +ℤ e2 +ℤ f12
    → u ≡ p *ℤ b1 -ℤ a1 *ℤ b0
    → p *ℤ e1' ≡ u *ℤ ε -ℤ a1 *ℤ e1 +ℤ p *ℤ e2 -ℤ a1 *ℤ f0 +ℤ p *ℤ f12
first_state p b0 b1 a1 ε η e1 e1' e2 f0 f12 u h0 h1 hu =
    let x1 : p *ℤ e1' ≡ p *ℤ (b1 *ℤ ε -ℤ a1 *ℤ η +ℤ e2) +ℤ p *ℤ f12 = ap (λ (z : ℤ). p *ℤ z) h1 ∙ distrib p _ f12 in
    let x2 = distrib p (b1 *ℤ ε -ℤ a1 *ℤ η) e2 in
    let x3 = distrib p (b1 *ℤ ε) (neg_ℤ (a1 *ℤ η)) in
    let x4 = distrib_neg p (a1 *ℤ η) in
    let x5 = left_comm p a1 η in
    let x6 : a1 *ℤ (p *ℤ η) ≡ a1 *ℤ (b0 *ℤ ε +ℤ e1) +ℤ a1 *ℤ f0 = ap (λ (z : ℤ). a1 *ℤ z) h0 ∙ distrib a1 _ f0 in
    let x7 = distrib a1 (b0 *ℤ ε) e1 in
    let x8 = mul_assoc p b1 ε in
    let x9 = mul_assoc a1 b0 ε in
    let y1 : u *ℤ ε ≡ (p *ℤ b1) *ℤ ε +ℤ neg_ℤ (a1 *ℤ b0) *ℤ ε = ap (λ (z : ℤ). z *ℤ ε) hu ∙ distrib_right (p *ℤ b1) (neg_ℤ (a1 *ℤ b0)) ε in
    let y2 = neg_right (a1 *ℤ b0) ε in
    omega (arith, lin)

-- the same of the second state error
pub second_state : (p b0 b2 a2 ε η e1 e2' f0 f34 w : ℤ)
    → p *ℤ η ≡ b0 *ℤ ε +ℤ e1 +ℤ f0
    → e2' ≡ b2 *ℤ ε -ℤ a2 *ℤ η +ℤ f34
    → w ≡ p *ℤ b2 -ℤ a2 *ℤ b0
    → p *ℤ e2' ≡ w *ℤ ε -ℤ a2 *ℤ e1 -ℤ a2 *ℤ f0 +ℤ p *ℤ f34
second_state p b0 b2 a2 ε η e1 e2' f0 f34 w h0 h2 hw =
    let x1 : p *ℤ e2' ≡ p *ℤ (b2 *ℤ ε -ℤ a2 *ℤ η) +ℤ p *ℤ f34 = ap (λ (z : ℤ). p *ℤ z) h2 ∙ distrib p _ f34 in
    let x3 = distrib p (b2 *ℤ ε) (neg_ℤ (a2 *ℤ η)) in
    let x4 = distrib_neg p (a2 *ℤ η) in
    let x5 = left_comm p a2 η in
    let x6 : a2 *ℤ (p *ℤ η) ≡ a2 *ℤ (b0 *ℤ ε +ℤ e1) +ℤ a2 *ℤ f0 = ap (λ (z : ℤ). a2 *ℤ z) h0 ∙ distrib a2 _ f0 in
    let x7 = distrib a2 (b0 *ℤ ε) e1 in
    let x8 = mul_assoc p b2 ε in
    let x9 = mul_assoc a2 b0 ε in
    let y1 : w *ℤ ε ≡ (p *ℤ b2) *ℤ ε +ℤ neg_ℤ (a2 *ℤ b0) *ℤ ε = ap (λ (z : ℤ). z *ℤ ε) hw ∙ distrib_right (p *ℤ b2) (neg_ℤ (a2 *ℤ b0)) ε in
    let y2 = neg_right (a2 *ℤ b0) ε in
    omega (arith, lin)

-- p times a row's form of the new errors, before the row's identity is used
pub row_sum : (p x y u w a1 a2 ε e1 e2 e1' e2' f0 f12 f34 big e : ℤ)
    → p *ℤ e1' ≡ u *ℤ ε -ℤ a1 *ℤ e1 +ℤ p *ℤ e2 -ℤ a1 *ℤ f0 +ℤ p *ℤ f12
    → p *ℤ e2' ≡ w *ℤ ε -ℤ a2 *ℤ e1 -ℤ a2 *ℤ f0 +ℤ p *ℤ f34
    → big ≡ neg_ℤ (a1 *ℤ x) -ℤ a2 *ℤ y
    → e ≡ x *ℤ u +ℤ y *ℤ w
    → p *ℤ (x *ℤ e1' +ℤ y *ℤ e2') ≡ e *ℤ ε +ℤ big *ℤ e1 +ℤ (p *ℤ x) *ℤ e2 +ℤ big *ℤ f0 +ℤ p *ℤ (x *ℤ f12) +ℤ p *ℤ (y *ℤ f34)
row_sum p x y u w a1 a2 ε e1 e2 e1' e2' f0 f12 f34 big e h1 h2 hb he =
    let l0 = distrib p (x *ℤ e1') (y *ℤ e2') in
    let l1 = left_comm p x e1' in
    let l2 = left_comm p y e2' in
    let m1 : x *ℤ (p *ℤ e1') ≡ x *ℤ (u *ℤ ε -ℤ a1 *ℤ e1 +ℤ p *ℤ e2 -ℤ a1 *ℤ f0) +ℤ x *ℤ (p *ℤ f12) = ap (λ (z : ℤ). x *ℤ z) h1 ∙ distrib x _ (p *ℤ f12) in
    let m2 = distrib x (u *ℤ ε -ℤ a1 *ℤ e1 +ℤ p *ℤ e2) (neg_ℤ (a1 *ℤ f0)) in
    let m3 = distrib x (u *ℤ ε -ℤ a1 *ℤ e1) (p *ℤ e2) in
    let m4 = distrib x (u *ℤ ε) (neg_ℤ (a1 *ℤ e1)) in
    let m5 = distrib_neg x (a1 *ℤ e1) in
    let m6 = distrib_neg x (a1 *ℤ f0) in
    let n1 : y *ℤ (p *ℤ e2') ≡ y *ℤ (w *ℤ ε -ℤ a2 *ℤ e1 -ℤ a2 *ℤ f0) +ℤ y *ℤ (p *ℤ f34) = ap (λ (z : ℤ). y *ℤ z) h2 ∙ distrib y _ (p *ℤ f34) in
    let n2 = distrib y (w *ℤ ε -ℤ a2 *ℤ e1) (neg_ℤ (a2 *ℤ f0)) in
    let n3 = distrib y (w *ℤ ε) (neg_ℤ (a2 *ℤ e1)) in
    let n4 = distrib_neg y (a2 *ℤ e1) in
    let n5 = distrib_neg y (a2 *ℤ f0) in
    let b1 : big *ℤ e1 ≡ neg_ℤ (a1 *ℤ x) *ℤ e1 +ℤ neg_ℤ (a2 *ℤ y) *ℤ e1 = ap (λ (z : ℤ). z *ℤ e1) hb ∙ distrib_right _ _ e1 in
    let b2 : big *ℤ f0 ≡ neg_ℤ (a1 *ℤ x) *ℤ f0 +ℤ neg_ℤ (a2 *ℤ y) *ℤ f0 = ap (λ (z : ℤ). z *ℤ f0) hb ∙ distrib_right _ _ f0 in
    let b3 = neg_right (a1 *ℤ x) e1 in
    let b4 = neg_right (a2 *ℤ y) e1 in
    let b5 = neg_right (a1 *ℤ x) f0 in
    let b6 = neg_right (a2 *ℤ y) f0 in
    let c1 : (a1 *ℤ x) *ℤ e1 ≡ x *ℤ (a1 *ℤ e1) = mul_assoc a1 x e1 ∙ left_comm a1 x e1 in
    let c2 : (a2 *ℤ y) *ℤ e1 ≡ y *ℤ (a2 *ℤ e1) = mul_assoc a2 y e1 ∙ left_comm a2 y e1 in
    let c3 : (a1 *ℤ x) *ℤ f0 ≡ x *ℤ (a1 *ℤ f0) = mul_assoc a1 x f0 ∙ left_comm a1 x f0 in
    let c4 : (a2 *ℤ y) *ℤ f0 ≡ y *ℤ (a2 *ℤ f0) = mul_assoc a2 y f0 ∙ left_comm a2 y f0 in
    let d1 : e *ℤ ε ≡ (x *ℤ u) *ℤ ε +ℤ (y *ℤ w) *ℤ ε = ap (λ (z : ℤ). z *ℤ ε) he ∙ distrib_right _ _ ε in
    let d2 = mul_assoc x u ε in
    let d3 = mul_assoc y w ε in
    let d4 : (p *ℤ x) *ℤ e2 ≡ x *ℤ (p *ℤ e2) = mul_assoc p x e2 ∙ left_comm p x e2 in
    let d5 = left_comm p x f12 in
    let d6 = left_comm p y f34 in
    omega (arith, lin)

-- the same over q = p p, after the row's identity: the next row's form, the first two forms, the input's share and the rounding's
pub row_identity : (p q x y xn yn c d a1 ε e1 e2 f big e t : ℤ)
    → q ≡ p *ℤ p
    → p *ℤ t ≡ e *ℤ ε +ℤ big *ℤ e1 +ℤ (p *ℤ x) *ℤ e2 +ℤ f
    → p *ℤ big ≡ q *ℤ xn +ℤ p *ℤ c -ℤ a1 *ℤ d
    → q *ℤ x ≡ q *ℤ yn +ℤ p *ℤ d
    → q *ℤ t ≡ q *ℤ (xn *ℤ e1 +ℤ yn *ℤ e2) +ℤ c *ℤ (p *ℤ e1) +ℤ d *ℤ (p *ℤ e2 -ℤ a1 *ℤ e1) +ℤ p *ℤ (e *ℤ ε) +ℤ p *ℤ f
row_identity p q x y xn yn c d a1 ε e1 e2 f big e t hq ht hi hj =
    let l1 : q *ℤ t ≡ p *ℤ (p *ℤ t) = ap (λ (z : ℤ). z *ℤ t) hq ∙ mul_assoc p p t in
    let l2 : p *ℤ (p *ℤ t) ≡ p *ℤ (e *ℤ ε +ℤ big *ℤ e1 +ℤ (p *ℤ x) *ℤ e2) +ℤ p *ℤ f = ap (λ (z : ℤ). p *ℤ z) ht ∙ distrib p _ f in
    let l3 = distrib p (e *ℤ ε +ℤ big *ℤ e1) ((p *ℤ x) *ℤ e2) in
    let l4 = distrib p (e *ℤ ε) (big *ℤ e1) in
    let l5 : p *ℤ (big *ℤ e1) ≡ (q *ℤ xn +ℤ p *ℤ c) *ℤ e1 +ℤ neg_ℤ (a1 *ℤ d) *ℤ e1 = sym (mul_assoc p big e1) ∙ ap (λ (z : ℤ). z *ℤ e1) hi ∙ distrib_right _ (neg_ℤ (a1 *ℤ d)) e1 in
    let l6 = distrib_right (q *ℤ xn) (p *ℤ c) e1 in
    let l7 = neg_right (a1 *ℤ d) e1 in
    let l8 : p *ℤ ((p *ℤ x) *ℤ e2) ≡ (q *ℤ yn) *ℤ e2 +ℤ (p *ℤ d) *ℤ e2 = ap (λ (z : ℤ). p *ℤ z) (mul_assoc p x e2) ∙ sym (mul_assoc p p (x *ℤ e2)) ∙ ap (λ (z : ℤ). z *ℤ (x *ℤ e2)) (sym hq) ∙ sym (mul_assoc q x e2) ∙ ap (λ (z : ℤ). z *ℤ e2) hj ∙ distrib_right (q *ℤ yn) (p *ℤ d) e2 in
    let r1 = distrib q (xn *ℤ e1) (yn *ℤ e2) in
    let r2 = mul_assoc q xn e1 in
    let r3 = mul_assoc q yn e2 in
    let r4 : c *ℤ (p *ℤ e1) ≡ (p *ℤ c) *ℤ e1 = left_comm c p e1 ∙ sym (mul_assoc p c e1) in
    let r5 = distrib d (p *ℤ e2) (neg_ℤ (a1 *ℤ e1)) in
    let r6 = distrib_neg d (a1 *ℤ e1) in
    let r7 : d *ℤ (p *ℤ e2) ≡ (p *ℤ d) *ℤ e2 = left_comm d p e2 ∙ sym (mul_assoc p d e2) in
    let r8 : d *ℤ (a1 *ℤ e1) ≡ (a1 *ℤ d) *ℤ e1 = left_comm d a1 e1 ∙ sym (mul_assoc a1 d e1) in
    omega (arith, lin)
