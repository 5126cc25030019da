-- The numbers of the rows of a certificate that is made, and their ranges; the least bound of one row; and that there is one certificate.
use Rattle.std.proofs.Common.{◌≡◌, ℕ, ◌+◌, ◌-◌, ◌*◌, ◌^◌, ◌<◌, ◌≤◌, ℤ, pos, neg_ℤ, ◌+ℤ◌, ◌-ℤ◌, ◌*ℤ◌, ◌≤ℤ◌, ◌<ℤ◌, List, [], ◌∷◌, length, refl, sym, ap, ◌∙◌, ⊎_elim, inl, inr, arith}
use Rattle.std.specs.Prelude.{◌⊎◌, sum_by}
use Rattle.std.proofs.lemmas.Bool.{cases_lt}
use Rattle.std.specs.Int.RustNames.{unsigned_abs}
use Rattle.std.proofs.Math.IntN.{*ℤ_comm}
use Rattle.std.proofs.Math.Nat.{mul-le-mul_right}
use Rattle.std.specs.Int.{w128}
use Rattle.std.specs.Int.RustNames.{FitsSigned}
use mir.Val.{to_z, of_z}
use Rattle.std.proofs.lemmas.Int.{ints, unsigned_abs-mul}
use Rattle.flk_exact.specs.Rounding.{floor_of, IsCeil}
use Rattle.flk_exact.proofs.WholeLemmas.{natural_is, neither_less}
use Rattle.flk_exact.proofs.ProductLemmas.{lin, distrib_right}
use Rattle.flk_exact.proofs.RoundingLemmas.{IsFloor-at, floor_rest, ceil_at_most}
use Rattle.flk_cert.specs.declared.coefs.Coefs.{Coefs}
use Rattle.flk_cert.specs.declared.certificate.CertRow.{CertRow}
use Rattle.flk_cert.specs.declared.row.Form.{Form}
use Rattle.flk_cert.specs.Row.{fed_back}
use Rattle.flk_cert.specs.Make.{next_form, inner_row, last_row, weight, input_share_at, rounding_share_at, rows_of, bounded, IsContracted, IsCount, IsFirstOrder, one_plain, IsOneBound, IsOneRow, IsMade}

pub fed_back_is : (z p r a x b y : ℤ) → z ≡ (pos 0 -ℤ p) -ℤ r → p ≡ a *ℤ x → r ≡ b *ℤ y → z ≡ neg_ℤ (a *ℤ x) -ℤ b *ℤ y
fed_back_is z p r a x b y e f g = omega (arith, lin)

-- a difference with the unit times its quotient rounded down is the remainder
pub remainder_small : (z q : ℤ) → q ≡ floor_of z (pos (2 ^ 32)) → unsigned_abs (z -ℤ pos (2 ^ 32) *ℤ q) < 2 ^ 32
remainder_small z q e = (floor_rest z (2 ^ 32) q (IsFloor-at z (pos (2 ^ 32)) q (omega (arith, ints)) e)).1

pub next_form_is : (k : Coefs) (f : Form) (z x y : ℤ) → z ≡ fed_back k f.x f.y → x ≡ floor_of z (pos (2 ^ 32)) → y ≡ f.x → record { x = x; y = y } ≡ next_form k f
next_form_is k f z x y e g h = rw (h, g, e) refl

-- the part of the code, whose difference is small
pub inner_row_part : (k : Coefs) (f n : Form) (z : ℤ) → n ≡ next_form k f → z ≡ fed_back k f.x f.y → unsigned_abs (z -ℤ pos (2 ^ 32) *ℤ n.x) < 2 ^ 32
inner_row_part k f n z e g = remainder_small z n.x (ap (λ m. m.x) e ∙ ap (λ y. floor_of y (pos (2 ^ 32))) (sym g))

pub inner_row_is : (k : Coefs) (f n : Form) (z x y c : ℤ) → x ≡ f.x → y ≡ f.y → n ≡ next_form k f → z ≡ fed_back k f.x f.y → c ≡ z -ℤ pos (2 ^ 32) *ℤ n.x
    → record { x = x; y = y; c = c; d = pos 0; g = pos 0; h = pos 0 } ≡ inner_row k f
inner_row_is k f n z x y c e g next part h =
    let i : c ≡ fed_back k f.x f.y -ℤ pos (2 ^ 32) *ℤ (next_form k f).x = rw (h, part, next) refl in
    rw (e, g, i) refl

pub last_row_is : (k : Coefs) (f : Form) (x y c d : ℤ) → x ≡ f.x → y ≡ f.y → c ≡ neg_ℤ (k.a2 *ℤ f.y) → d ≡ pos (2 ^ 32) *ℤ f.x
    → record { x = x; y = y; c = c; d = d; g = pos 0; h = pos 0 } ≡ last_row k f
last_row_is k f x y c d e g h i = rw (e, g, h, i) refl

pub last_row_light : (k : Coefs) (f : Form) → unsigned_abs k.a2 ≤ 2 ^ 33 → unsigned_abs f.x ≤ 2 ^ 63 → unsigned_abs f.y ≤ 2 ^ 63 → weight (last_row k f) < 2 ^ 98
last_row_light k f small x y =
    omega (arith, ints, unsigned_abs-mul k.a2 f.y, mul-le-mul_right (unsigned_abs f.y) small)

-- the difference of the code, whose parts are small
pub difference_is : (p r : ℤ) → unsigned_abs p ≤ 2 ^ 96 → unsigned_abs r ≤ 2 ^ 96
    → to_z w128 (of_z w128 (to_z w128 (of_z w128 (pos 0 -ℤ to_z w128 (of_z w128 p))) -ℤ to_z w128 (of_z w128 r))) ≡ (pos 0 -ℤ p) -ℤ r
difference_is p r h k = omega (arith, ints)

pub difference_fits : (p r : ℤ) → unsigned_abs p ≤ 2 ^ 96 → unsigned_abs r ≤ 2 ^ 96
    → FitsSigned w128 (to_z w128 (of_z w128 (pos 0 -ℤ to_z w128 (of_z w128 p))) -ℤ to_z w128 (of_z w128 r))
difference_fits p r h k = omega (arith, ints)

-- ---- shares

pub input_size_is : (k : Coefs) (r : CertRow) (z p q u w : ℤ) → z ≡ pos (unsigned_abs (p +ℤ q)) → p ≡ r.x *ℤ u → q ≡ r.y *ℤ w
    → u ≡ pos (2 ^ 32) *ℤ k.b1 -ℤ k.a1 *ℤ k.b0 → w ≡ pos (2 ^ 32) *ℤ k.b2 -ℤ k.a2 *ℤ k.b0 → z ≡ pos (input_share_at k r)
input_size_is k r z p q u w e f g h i = rw (e, f, g, h, i) refl

pub rounding_total_is : (k : Coefs) (r : CertRow) (z b t v : ℤ) → z ≡ pos (2 ^ 32) *ℤ b +ℤ pos (2 ^ 64) *ℤ t → b ≡ pos (unsigned_abs v) → v ≡ fed_back k r.x r.y
    → t ≡ pos (unsigned_abs r.x + unsigned_abs r.y) → z ≡ pos (rounding_share_at k r)
rounding_total_is k r z b t v e f g h =
    let same : unsigned_abs v ≡ unsigned_abs (k.a1 *ℤ r.x +ℤ k.a2 *ℤ r.y) = rw g (omega (arith, lin)) in
    omega (arith, ints, e, f, same, h)

-- ---- the least bound of one row

one_bound_at : (n m s : ℕ) (g : ℤ) → n + m ≡ 2 ^ 64 → 0 < m → IsCeil (pos s) (pos m) g → ((pos n *ℤ g +ℤ pos s) ≤ℤ (pos (2 ^ 64) *ℤ g)) × ((z : ℤ) → (pos n *ℤ z +ℤ pos s) ≤ℤ (pos (2 ^ 64) *ℤ z) → g ≤ℤ z)
one_bound_at n m s g e some h =
    let parts : (z : ℤ) → pos (2 ^ 64) *ℤ z ≡ pos n *ℤ z +ℤ z *ℤ pos m =
    λ z. ap (λ (t : ℕ). pos t *ℤ z) (sym e) ∙ distrib_right (pos n) (pos m) z ∙ ap (λ y. pos n *ℤ z +ℤ y) (*ℤ_comm (pos m) z) in (
      omega (arith, lin, parts g, h.within),
      λ z meets. ceil_at_most (pos s) m g z h (omega (arith, lin, parts z, meets)),
    )

pub one_bound_is : (c share size g : ℤ) → size ≡ pos (unsigned_abs c) → pos 0 <ℤ (pos (2 ^ 64) -ℤ size) → pos 0 ≤ℤ share → IsCeil share (pos (2 ^ 64) -ℤ size) g → IsOneBound c (unsigned_abs share) g
one_bound_is c share size g e some natural h =
    let low : unsigned_abs c < 2 ^ 64 = omega (arith, ints) in
    let m : ℕ = 2 ^ 64 - unsigned_abs c in
    let left : pos (2 ^ 64) -ℤ size ≡ pos m = omega (arith, ints) in
    let b : IsCeil (pos (unsigned_abs share)) (pos m) g = rw (← natural_is share natural, ← left) h in
    let a = one_bound_at (unsigned_abs c) m (unsigned_abs share) g (omega arith) (omega arith) b in
    record { met = λ _. a.0; least = λ _. a.1; none = λ high. absurd (omega arith) }

bound_at_most : (c : ℤ) (share : ℕ) (g h : ℤ) → IsOneBound c share g → IsOneBound c share h → g ≤ℤ h
bound_at_most c share g h p q =
    ⊎_elim (λ low. p.least low h (q.met low)) (λ high. omega (arith, ints, p.none high, q.none high)) (cases_lt (unsigned_abs c) (2 ^ 64))

bound_unique : (c : ℤ) (share : ℕ) (g h : ℤ) → IsOneBound c share g → IsOneBound c share h → g ≡ h
bound_unique c share g h p q = omega (arith, ints, bound_at_most c share g h p q, bound_at_most c share h g q p)

pub one_row_is : (k : Coefs) (p r : CertRow) (s t g h : ℤ) → p ≡ one_plain k → r ≡ record p { g = g; h = h } → s ≡ pos (input_share_at k p) → t ≡ pos (rounding_share_at k p)
    → IsOneBound p.c (unsigned_abs s) g → IsOneBound p.c (unsigned_abs t) h → IsOneRow k r
one_row_is k p r s t g h plain row share other low high =
    let g_is : r.g ≡ g = ap (λ z. z.g) row in
    let h_is : r.h ≡ h = ap (λ z. z.h) row in
    let c : r.c ≡ p.c = ap (λ z. z.c) row in
    let x : r.x ≡ p.x = ap (λ z. z.x) row in
    let y : r.y ≡ p.y = ap (λ z. z.y) row in
    let a : input_share_at k r ≡ unsigned_abs s = rw (x, y, share) refl in
    let b : rounding_share_at k r ≡ unsigned_abs t = rw (x, y, other) refl in
    record { plain = rw (row, plain) refl; g = rw (a, c, g_is) low; h = rw (b, c, h_is) high }

one_row_unique : (k : Coefs) (r s : CertRow) → IsOneRow k r → IsOneRow k s → r ≡ s
one_row_unique k r s p q =
    let x : r.x ≡ s.x = ap (λ z. z.x) p.plain ∙ sym (ap (λ z. z.x) q.plain) in
    let y : r.y ≡ s.y = ap (λ z. z.y) p.plain ∙ sym (ap (λ z. z.y) q.plain) in
    let c : r.c ≡ s.c = ap (λ z. z.c) p.plain ∙ sym (ap (λ z. z.c) q.plain) in
    let g : IsOneBound s.c (input_share_at k s) r.g = rw (← c, ← x, ← y) p.g in
    let h : IsOneBound s.c (rounding_share_at k s) r.h = rw (← c, ← x, ← y) p.h in
    let same_g = bound_unique s.c (input_share_at k s) r.g s.g g q.g in
    let same_h = bound_unique s.c (rounding_share_at k s) r.h s.h h q.h in
    let middle : record (one_plain k) { g = r.g; h = r.h } ≡ record (one_plain k) { g = s.g; h = s.h } = rw (same_g, same_h) refl in
    p.plain ∙ middle ∙ sym q.plain

-- ---- there is one certificate

count_unique : (k : Coefs) (m n : ℕ) → IsCount k m → IsCount k n → m ≡ n
count_unique k m n p q = neither_less m n (λ less. q.least m p.from_two less p.ends) (λ less. p.least n q.from_two less q.ends)

zero_cases : (z : ℤ) → (z ≡ pos 0) ⊎ (¬ (z ≡ pos 0))
zero_cases z = ⊎_elim (λ more. inr (λ e. absurd (omega (arith, ints, e)))) (λ none. inl (omega (arith, ints))) (cases_lt 0 (unsigned_abs z))

pub order_cases : (k : Coefs) → IsFirstOrder k ⊎ (¬ IsFirstOrder k)
order_cases k =
    ⊎_elim
    (λ b. ⊎_elim (λ a. inl (record { b2 = b; a2 = a })) (λ no. inr (λ f. no f.a2)) (zero_cases k.a2))
    (λ no. inr (λ f. no f.b2)) (zero_cases k.b2)

pub IsMade-unique : (k : Coefs) (p q : List CertRow) → IsMade k p → IsMade k q → p ≡ q
IsMade-unique k p q hp hq =
    ⊎_elim
    (λ first.
    let r = hp.one first in
    let s = hq.one first in
    r.1 ∙ ap (λ t. t ∷ []) (one_row_unique k r.0 s.0 r.2 s.2) ∙ sym s.1)
    (λ other.
    let same : length p ≡ length q = count_unique k (length p) (length q) (hp.count other) (hq.count other) in
    ⊎_elim
    (λ above.
    let no : ¬ IsContracted k (length p) = λ h. absurd (omega arith) in
    hp.others other no ∙ ap (rows_of k) same ∙ sym (hq.others other (rw (← same) no)))
    (λ within.
    hp.contracted other within ∙ ap (λ n. bounded k (rows_of k n)) same ∙ sym (hq.contracted other (rw (← same) within)))
    (cases_lt (2 ^ 64) (64 * sum_by weight (rows_of k (length p)))))
    (order_cases k)
