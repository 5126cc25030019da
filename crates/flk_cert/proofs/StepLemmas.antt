-- What one sample does to the bounds of all rows.
use Rattle.std.proofs.Common.{◌≡◌, ℕ, ◌+◌, ◌*◌, ◌≤◌, ◌<◌, List, length, refl, sym, ap, subst, ◌∙◌, arith, ⊎_elim}
use Rattle.std.proofs.Math.IntN.{ℤ, pos, ◌+ℤ◌, ◌-ℤ◌, ◌*ℤ◌, neg_ℤ}
use Rattle.std.specs.Int.RustNames.{unsigned_abs}
use Rattle.std.proofs.Math.Nat.{mul-pos, mul-le-mul_left}
use Rattle.std.proofs.lemmas.Int.{ints, unsigned_abs-mul}
use Rattle.std.proofs.lemmas.Bool.{cases_lt}
use Rattle.std.proofs.lemmas.List.{get_or_past}
use Rattle.flk_exact.proofs.ProductLemmas.{lin, neg_right, triangle, size_of_product_within}
use Rattle.flk_cert.specs.declared.certificate.CertRow.{CertRow}
use Rattle.flk_cert.specs.declared.coefs.Coefs.{Coefs}
use Rattle.flk_cert.specs.Certificate.{no_row, row_at}
use Rattle.flk_cert.proofs.ErrorLemmas.{first_state, second_state, row_sum, row_identity}
use Rattle.flk_cert.proofs.BoundLemmas.{rounding_share, step_bound, abs_identity, abs_neg}

-- how much of the first state's error, of the input's error and of rounding the form of a row takes up, where p stands for 2^32
abbrev pub fed : Coefs → CertRow → ℤ
fed k r = neg_ℤ (k.a1 *ℤ r.x) -ℤ k.a2 *ℤ r.y

abbrev pub share : ℕ → Coefs → CertRow → ℤ
share p k r = r.x *ℤ (pos p *ℤ k.b1 -ℤ k.a1 *ℤ k.b0) +ℤ r.y *ℤ (pos p *ℤ k.b2 -ℤ k.a2 *ℤ k.b0)

abbrev pub loss : ℕ → Coefs → CertRow → ℕ
loss p k r = p * unsigned_abs (fed k r) + p * p * (unsigned_abs r.x + unsigned_abs r.y)

-- the conditions on a row, before the row n: g0, h0, g1, h1 are those of rows 0 and 1
pub record Meets (p : ℕ) (k : Coefs) (g0 h0 g1 h1 : ℕ) (r n : CertRow) : Type 0 where
  pub first : pos p *ℤ fed k r ≡ pos (p * p) *ℤ n.x +ℤ pos p *ℤ r.c -ℤ k.a1 *ℤ r.d
  pub second : pos (p * p) *ℤ r.x ≡ pos (p * p) *ℤ n.y +ℤ pos p *ℤ r.d
  pub input : unsigned_abs r.c * g0 + unsigned_abs r.d * g1 + p * p * unsigned_abs n.g + unsigned_abs (share p k r) ≤ p * p * unsigned_abs r.g
  pub rounded : unsigned_abs r.c * h0 + unsigned_abs r.d * h1 + p * p * unsigned_abs n.h + loss p k r ≤ p * p * unsigned_abs r.h

-- the bound of a row's form of the errors: s bounds the input's error, and delta is one unit
pub record Bounded (p s delta : ℕ) (e1 e2 : ℤ) (r : CertRow) : Type 0 where
  pub within : unsigned_abs (r.x *ℤ e1 +ℤ r.y *ℤ e2) ≤ p * (unsigned_abs r.g * s + unsigned_abs r.h * delta)

-- the same of rows 0 and 1, which are the first state's error and `p*e2 - a1*e1`
pub record FirstBounded (p s delta g h : ℕ) (e1 : ℤ) : Type 0 where
  pub within : unsigned_abs (pos p *ℤ e1) ≤ p * (g * s + h * delta)

pub record SecondBounded (p s delta : ℕ) (k : Coefs) (g h : ℕ) (e1 e2 : ℤ) : Type 0 where
  pub within : unsigned_abs (pos p *ℤ e2 -ℤ k.a1 *ℤ e1) ≤ p * (g * s + h * delta)

-- how the errors move over one sample
pub record Moves (p s delta : ℕ) (k : Coefs) (ε η e1 e2 e1' e2' f0 f12 f34 : ℤ) : Type 0 where
  pub out : pos p *ℤ η ≡ k.b0 *ℤ ε +ℤ e1 +ℤ f0
  pub one : e1' ≡ k.b1 *ℤ ε -ℤ k.a1 *ℤ η +ℤ e2 +ℤ f12
  pub two : e2' ≡ k.b2 *ℤ ε -ℤ k.a2 *ℤ η +ℤ f34
  pub inp : unsigned_abs ε ≤ s
  pub r0 : unsigned_abs f0 ≤ p * delta
  pub r12 : unsigned_abs f12 ≤ p * delta
  pub r34 : unsigned_abs f34 ≤ p * delta

pub row_step : (p s delta : ℕ) (k : Coefs) (g0 h0 g1 h1 : ℕ) (r n : CertRow) (ε η e1 e2 e1' e2' f0 f12 f34 : ℤ)
    → 0 < p
    → Meets p k g0 h0 g1 h1 r n
    → Moves p s delta k ε η e1 e2 e1' e2' f0 f12 f34
    → FirstBounded p s delta g0 h0 e1
    → SecondBounded p s delta k g1 h1 e1 e2
    → Bounded p s delta e1 e2 n
    → Bounded p s delta e1' e2' r
row_step p s delta k g0 h0 g1 h1 r n ε η e1 e2 e1' e2' f0 f12 f34 hp m v z0 z1 zn =
    let t1 = first_state (pos p) k.b0 k.b1 k.a1 ε η e1 e1' e2 f0 f12 (pos p *ℤ k.b1 -ℤ k.a1 *ℤ k.b0) v.out v.one refl in
    let t2 = second_state (pos p) k.b0 k.b2 k.a2 ε η e1 e2' f0 f34 (pos p *ℤ k.b2 -ℤ k.a2 *ℤ k.b0) v.out v.two refl in
    let sum0 = row_sum (pos p) r.x r.y _ _ k.a1 k.a2 ε e1 e2 e1' e2' f0 f12 f34 (fed k r) (share p k r) t1 t2 refl refl in
    let f : ℤ = fed k r *ℤ f0 +ℤ pos p *ℤ (r.x *ℤ f12) +ℤ pos p *ℤ (r.y *ℤ f34) in
    let t : ℤ = r.x *ℤ e1' +ℤ r.y *ℤ e2' in
    let sum1 : pos p *ℤ t ≡ share p k r *ℤ ε +ℤ fed k r *ℤ e1 +ℤ (pos p *ℤ r.x) *ℤ e2 +ℤ f = omega (arith, lin, sum0) in
    let id = row_identity (pos p) (pos (p * p)) r.x r.y n.x n.y r.c r.d k.a1 ε e1 e2 f (fed k r) (share p k r) t refl sum1 m.first m.second in
    let zf = rounding_share p delta r.x r.y (fed k r) f0 f12 f34 v.r0 v.r12 v.r34 in
    let sizes = abs_identity p (p * p) t (n.x *ℤ e1 +ℤ n.y *ℤ e2) r.c (pos p *ℤ e1) r.d (pos p *ℤ e2 -ℤ k.a1 *ℤ e1) (share p k r) ε f s id v.inp in
    record {
      within =
          step_bound p (p * p) s delta (unsigned_abs t) (unsigned_abs r.c) (unsigned_abs r.d) (unsigned_abs (share p k r)) (loss p k r) (unsigned_abs r.g) g0 g1
          (unsigned_abs n.g) (unsigned_abs r.h) h0 h1 (unsigned_abs n.h) (unsigned_abs (n.x *ℤ e1 +ℤ n.y *ℤ e2)) (unsigned_abs (pos p *ℤ e1))
          (unsigned_abs (pos p *ℤ e2 -ℤ k.a1 *ℤ e1)) (unsigned_abs f) (mul-pos hp hp) m.input m.rounded sizes zn.within z0.within z1.within zf;
    }

-- a row of zeros
pub no_row_bounded : (p s delta : ℕ) (e1 e2 : ℤ) → Bounded p s delta e1 e2 no_row
no_row_bounded p s delta e1 e2 = record { within = omega (arith, ints) }

-- a certificate of two rows or more
pub record Several (p : ℕ) (k : Coefs) (rows : List CertRow) : Type 0 where
  pub more : 1 < length rows
  pub x0 : (row_at rows 0).x ≡ pos p
  pub y0 : (row_at rows 0).y ≡ pos 0
  pub x1 : (row_at rows 1).x ≡ neg_ℤ k.a1
  pub y1 : (row_at rows 1).y ≡ pos p
  pub meet : (i : ℕ) → i < length rows → Meets p k (unsigned_abs (row_at rows 0).g) (unsigned_abs (row_at rows 0).h) (unsigned_abs (row_at rows 1).g) (unsigned_abs (row_at rows 1).h) (row_at rows i) (row_at rows (i + 1))

abbrev pub AllBounded : ℕ → ℕ → ℕ → ℤ → ℤ → List CertRow → Type 0
AllBounded p s delta e1 e2 rows = (i : ℕ) → Bounded p s delta e1 e2 (row_at rows i)

-- the forms of rows 0 and 1
pub first_form : (p s delta : ℕ) (e1 e2 : ℤ) (r : CertRow) → r.x ≡ pos p → r.y ≡ pos 0 → Bounded p s delta e1 e2 r → FirstBounded p s delta (unsigned_abs r.g) (unsigned_abs r.h) e1
first_form p s delta e1 e2 r x y b =
    let u0 : r.x *ℤ e1 ≡ pos p *ℤ e1 = ap (λ (z : ℤ). z *ℤ e1) x in
    let u1 : r.y *ℤ e2 ≡ pos 0 *ℤ e2 = ap (λ (z : ℤ). z *ℤ e2) y in
    let u2 : pos 0 *ℤ e2 ≡ pos 0 = omega (arith, ints) in
    let s0 : r.x *ℤ e1 +ℤ r.y *ℤ e2 ≡ pos p *ℤ e1 = omega (arith, lin) in
    record { within = subst (λ (z : ℤ). unsigned_abs z ≤ p * (unsigned_abs r.g * s + unsigned_abs r.h * delta)) s0 b.within }

pub second_form : (p s delta : ℕ) (k : Coefs) (e1 e2 : ℤ) (r : CertRow) → r.x ≡ neg_ℤ k.a1 → r.y ≡ pos p → Bounded p s delta e1 e2 r → SecondBounded p s delta k (unsigned_abs r.g) (unsigned_abs r.h) e1 e2
second_form p s delta k e1 e2 r x y b =
    let w0 : r.x *ℤ e1 ≡ neg_ℤ (k.a1 *ℤ e1) = ap (λ (z : ℤ). z *ℤ e1) x ∙ neg_right k.a1 e1 in
    let w1 : r.y *ℤ e2 ≡ pos p *ℤ e2 = ap (λ (z : ℤ). z *ℤ e2) y in
    let s1 : r.x *ℤ e1 +ℤ r.y *ℤ e2 ≡ pos p *ℤ e2 -ℤ k.a1 *ℤ e1 = omega (arith, lin) in
    record { within = subst (λ (z : ℤ). unsigned_abs z ≤ p * (unsigned_abs r.g * s + unsigned_abs r.h * delta)) s1 b.within }

pub row_at-past : (rows : List CertRow) (i : ℕ) → length rows ≤ i → row_at rows i ≡ no_row
row_at-past rows i h = get_or_past rows i no_row h

pub all_step : (p s delta : ℕ) (k : Coefs) (rows : List CertRow) (ε η e1 e2 e1' e2' f0 f12 f34 : ℤ)
    → 0 < p
    → Several p k rows
    → Moves p s delta k ε η e1 e2 e1' e2' f0 f12 f34
    → AllBounded p s delta e1 e2 rows
    → AllBounded p s delta e1' e2' rows
all_step p s delta k rows ε η e1 e2 e1' e2' f0 f12 f34 hp f v b i =
    let z0 = first_form p s delta e1 e2 (row_at rows 0) f.x0 f.y0 (b 0) in
    let z1 = second_form p s delta k e1 e2 (row_at rows 1) f.x1 f.y1 (b 1) in
    ⊎_elim
    (λ within. row_step p s delta k _ _ _ _ (row_at rows i) (row_at rows (i + 1)) ε η e1 e2 e1' e2' f0 f12 f34 hp (f.meet i within) v z0 z1 (b (i + 1)))
    (λ past. subst (λ (r : CertRow). Bounded p s delta e1' e2' r) (sym (row_at-past rows i past)) (no_row_bounded p s delta e1' e2'))
    (cases_lt i (length rows))

-- a certificate of one row, for a section whose second state stays 0: c = -p a1
pub record Single (p : ℕ) (k : Coefs) (g h : ℕ) : Type 0 where
  pub b2 : k.b2 ≡ pos 0
  pub a2 : k.a2 ≡ pos 0
  pub input : p * unsigned_abs k.a1 * g + unsigned_abs (pos p *ℤ (pos p *ℤ k.b1 -ℤ k.a1 *ℤ k.b0)) ≤ p * p * g
  pub rounded : p * unsigned_abs k.a1 * h + (p * (p * unsigned_abs k.a1) + p * p * p) ≤ p * p * h

pub one_row_step : (p s delta : ℕ) (k : Coefs) (g h : ℕ) (ε η e1 e2 e1' e2' f0 f12 f34 : ℤ)
    → 0 < p
    → Single p k g h
    → e2 ≡ pos 0
    → Moves p s delta k ε η e1 e2 e1' e2' f0 f12 f34
    → FirstBounded p s delta g h e1
    → FirstBounded p s delta g h e1'
one_row_step p s delta k g h ε η e1 e2 e1' e2' f0 f12 f34 hp m none v z0 =
    let hg = m.input in
    let hh = m.rounded in
    let u : ℤ = pos p *ℤ k.b1 -ℤ k.a1 *ℤ k.b0 in
    let t = first_state (pos p) k.b0 k.b1 k.a1 ε η e1 e1' e2 f0 f12 u v.out v.one refl in
    let n : pos p *ℤ e2 ≡ pos 0 = ap (λ (z : ℤ). pos p *ℤ z) none ∙ omega (arith, ints) in
    let t1 : pos p *ℤ e1' ≡ u *ℤ ε -ℤ k.a1 *ℤ e1 -ℤ k.a1 *ℤ f0 +ℤ pos p *ℤ f12 = omega (arith, lin) in
    let a1 = size_of_product_within u ε (unsigned_abs u) s (omega arith) v.inp in
    let a2 = size_of_product_within k.a1 f0 (unsigned_abs k.a1) (p * delta) (omega arith) v.r0 in
    let a3 = size_of_product_within (pos p) f12 p (p * delta) (omega arith) v.r12 in
    let w : unsigned_abs (pos p *ℤ e1') ≤ unsigned_abs u * s + unsigned_abs k.a1 * unsigned_abs e1 + unsigned_abs k.a1 * (p * delta) + p * (p * delta) =
    omega (
      arith,
      ap unsigned_abs t1,
      unsigned_abs-mul k.a1 e1,
      abs_neg (k.a1 *ℤ e1),
      abs_neg (k.a1 *ℤ f0),
      triangle (u *ℤ ε -ℤ k.a1 *ℤ e1 -ℤ k.a1 *ℤ f0) (pos p *ℤ f12),
      triangle (u *ℤ ε -ℤ k.a1 *ℤ e1) (neg_ℤ (k.a1 *ℤ f0)),
      triangle (u *ℤ ε) (neg_ℤ (k.a1 *ℤ e1)),
    ) in
    let w2 = mul-le-mul_left (p * p) w in
    let e : unsigned_abs (pos p *ℤ u) ≡ p * unsigned_abs u = unsigned_abs-mul (pos p) u in
    let y : unsigned_abs (pos p *ℤ e1) ≡ p * unsigned_abs e1 = unsigned_abs-mul (pos p) e1 in
    let y2 : p * unsigned_abs k.a1 * unsigned_abs (pos p *ℤ e1) ≡ p * unsigned_abs k.a1 * (p * unsigned_abs e1) = ap (λ (m : ℕ). p * unsigned_abs k.a1 * m) y in
    let y3 : p * (unsigned_abs (pos p *ℤ u) * s) ≡ p * (p * unsigned_abs u * s) = ap (λ (m : ℕ). p * (m * s)) e in
    record {
      within =
          step_bound p (p * p) s delta (unsigned_abs (pos p *ℤ e1')) (p * unsigned_abs k.a1) 0 (unsigned_abs (pos p *ℤ u)) (p * (p * unsigned_abs k.a1) + p * p * p) g g 0 0 h h 0 0 0
          (unsigned_abs (pos p *ℤ e1)) 0 ((p * (p * unsigned_abs k.a1) + p * p * p) * delta) (mul-pos hp hp) (omega arith) (omega arith) (omega arith) (omega arith) z0.within
          (omega arith) (omega arith);
    }
