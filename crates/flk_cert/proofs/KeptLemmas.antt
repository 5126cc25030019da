-- The bounds of the errors hold after each sample: over lists of any length, by induction.
use Rattle.std.proofs.Common.{◌≡◌, ℕ, ◌+◌, ◌*◌, ◌≤◌, Bool, true, false, List, [], ◌∷◌, refl, sym, ap, subst, ◌∙◌, arith}
use Rattle.std.proofs.Math.IntN.{ℤ, pos, ◌+ℤ◌, ◌-ℤ◌, ◌*ℤ◌, neg_ℤ, *ℤ_comm, *ℤ-zero, zero-*ℤ}
use Rattle.std.specs.Prelude.{◌^◌}
use Rattle.std.specs.Int.RustNames.{unsigned_abs}
use Rattle.std.proofs.lemmas.Int.{ints}
use Rattle.flk_exact.specs.Rounding.{floor_of}
use Rattle.flk_exact.proofs.ProductLemmas.{lin, neg_right, distrib_neg, mul_assoc}
use Rattle.flk_cert.specs.declared.certificate.CertRow.{CertRow}
use Rattle.flk_cert.specs.declared.coefs.Coefs.{Coefs}
use Rattle.flk_cert.specs.Certificate.{row_at}
use Rattle.flk_cert.specs.Section.{newest}
use Rattle.flk_cert.specs.RoundedSection.{product, output, state}
use Rattle.flk_cert.specs.Bound.{MayStart}
use Rattle.flk_cert.proofs.StepLemmas.{Bounded, FirstBounded, SecondBounded, Several, Single, AllBounded, all_step, one_row_step, first_form, second_form}
use Rattle.flk_cert.proofs.SampleLemmas.{moves}
use Rattle.flk_cert.proofs.RunLemmas.{held_one, held_two, IsWholeSection, sample}

-- each numerator is within s of delta times the rounded section's input
abbrev pub NearWhole : ℕ → ℕ → List ℤ → List ℤ → Type 0
NearWhole delta s [] [] = Unit {0}
NearWhole delta s [] (X ∷ Xs) = ⊥
NearWhole delta s (n ∷ ns) [] = ⊥
NearWhole delta s (n ∷ ns) (X ∷ Xs) = (unsigned_abs (n -ℤ pos delta *ℤ X) ≤ s) × NearWhole delta s ns Xs

-- the numerator of the input before the first sample, where delta is one unit
abbrev pub before : Bool → ℕ → ℤ
before true delta = pos (delta * 2 ^ 48) *ℤ pos 1
before false delta = pos (delta * 2 ^ 48) *ℤ pos 0

-- the errors of the states, times 2^32
abbrev pub error_one : ℕ → Coefs → Bool → List ℤ → List ℤ → List ℤ → ℤ
error_one delta k from_one ns ms Xs = held_one k (before from_one delta) ns ms -ℤ pos delta *ℤ (pos (2 ^ 32) *ℤ (state k from_one Xs).s1)

abbrev pub error_two : ℕ → Coefs → Bool → List ℤ → List ℤ → List ℤ → ℤ
error_two delta k from_one ns ms Xs = held_two k (before from_one delta) ns ms -ℤ pos delta *ℤ (pos (2 ^ 32) *ℤ (state k from_one Xs).s2)

-- ---- before the first sample there is no error

pub error_one_start : (delta : ℕ) (k : Coefs) (from_one : Bool) → MayStart k from_one → error_one delta k from_one [] [] [] ≡ pos 0
error_one_start delta k false may =
    let u : pos (delta * 2 ^ 48) *ℤ pos 0 ≡ pos 0 = *ℤ-zero (pos (delta * 2 ^ 48)) in
    let b1 : k.b1 *ℤ (pos (delta * 2 ^ 48) *ℤ pos 0) ≡ pos 0 = ap (λ (z : ℤ). k.b1 *ℤ z) u ∙ *ℤ-zero k.b1 in
    let b2 : k.b2 *ℤ (pos (delta * 2 ^ 48) *ℤ pos 0) ≡ pos 0 = ap (λ (z : ℤ). k.b2 *ℤ z) u ∙ *ℤ-zero k.b2 in
    let a1 = *ℤ-zero k.a1 in
    let a2 = *ℤ-zero k.a2 in
    let s : pos delta *ℤ (pos (2 ^ 32) *ℤ pos 0) ≡ pos 0 = *ℤ-zero (pos delta) in
    omega (arith, lin)
error_one_start delta k true may =
    let u : ℤ = pos (delta * 2 ^ 48) *ℤ pos 1 in
    let b1 : k.b1 *ℤ u ≡ neg_ℤ (k.b0 *ℤ u) = ap (λ (z : ℤ). z *ℤ u) may.opposite ∙ neg_right k.b0 u in
    let b2 : k.b2 *ℤ u ≡ pos 0 = ap (λ (z : ℤ). z *ℤ u) may.none ∙ zero-*ℤ u in
    let a1 = *ℤ-zero k.a1 in
    let a2 = *ℤ-zero k.a2 in
    let c1 : pos (2 ^ 32) *ℤ neg_ℤ (pos 65536 *ℤ k.b0) ≡ neg_ℤ (pos (2 ^ 48) *ℤ k.b0) = omega (arith, ints) in
    let c2 : pos delta *ℤ (pos (2 ^ 32) *ℤ neg_ℤ (pos 65536 *ℤ k.b0)) ≡ neg_ℤ (pos delta *ℤ (pos (2 ^ 48) *ℤ k.b0)) =
    ap (λ (z : ℤ). pos delta *ℤ z) c1 ∙ distrib_neg (pos delta) (pos (2 ^ 48) *ℤ k.b0) in
    let c3 : pos delta *ℤ (pos (2 ^ 48) *ℤ k.b0) ≡ k.b0 *ℤ pos (delta * 2 ^ 48) = sym (mul_assoc (pos delta) (pos (2 ^ 48)) k.b0) ∙ *ℤ_comm (pos (delta * 2 ^ 48)) k.b0 in
    let w : u ≡ pos (delta * 2 ^ 48) = omega (arith, ints) in
    let c4 : k.b0 *ℤ u ≡ k.b0 *ℤ pos (delta * 2 ^ 48) = ap (λ (z : ℤ). k.b0 *ℤ z) w in
    omega (arith, lin)

pub error_two_start : (delta : ℕ) (k : Coefs) (from_one : Bool) → MayStart k from_one → error_two delta k from_one [] [] [] ≡ pos 0
error_two_start delta k false may =
    let u : pos (delta * 2 ^ 48) *ℤ pos 0 ≡ pos 0 = *ℤ-zero (pos (delta * 2 ^ 48)) in
    let b2 : k.b2 *ℤ (pos (delta * 2 ^ 48) *ℤ pos 0) ≡ pos 0 = ap (λ (z : ℤ). k.b2 *ℤ z) u ∙ *ℤ-zero k.b2 in
    let a2 = *ℤ-zero k.a2 in
    let s : pos delta *ℤ (pos (2 ^ 32) *ℤ pos 0) ≡ pos 0 = *ℤ-zero (pos delta) in
    omega (arith, lin)
error_two_start delta k true may =
    let u : ℤ = pos (delta * 2 ^ 48) *ℤ pos 1 in
    let b2 : k.b2 *ℤ u ≡ pos 0 = ap (λ (z : ℤ). z *ℤ u) may.none ∙ zero-*ℤ u in
    let a2 = *ℤ-zero k.a2 in
    let s : pos delta *ℤ (pos (2 ^ 32) *ℤ pos 0) ≡ pos 0 = *ℤ-zero (pos delta) in
    omega (arith, lin)

no_error_bounded : (s delta : ℕ) (r : CertRow) → Bounded (2 ^ 32) s delta (pos 0) (pos 0) r
no_error_bounded s delta r =
    let x = *ℤ-zero r.x in
    let y = *ℤ-zero r.y in
    let z : r.x *ℤ pos 0 +ℤ r.y *ℤ pos 0 ≡ pos 0 = omega (arith, lin) in
    record { within = subst (λ (e : ℤ). unsigned_abs e ≤ 2 ^ 32 * (unsigned_abs r.g * s + unsigned_abs r.h * delta)) (sym z) (omega arith) }

-- ---- several rows

-- the central induction: every row keeps its bound
pub rows_kept : (k : Coefs) (rows : List CertRow) (from_one : Bool) (s delta : ℕ) (ns ms Xs : List ℤ)
    → Several (2 ^ 32) k rows → MayStart k from_one → IsWholeSection k (before from_one delta) ns ms → NearWhole delta s ns Xs
    → AllBounded (2 ^ 32) s delta (error_one delta k from_one ns ms Xs) (error_two delta k from_one ns ms Xs) rows
rows_kept k rows from_one s delta [] [] [] f may run near =
    subst (λ (e : ℤ). AllBounded (2 ^ 32) s delta e (error_two delta k from_one [] [] []) rows) (sym (error_one_start delta k from_one may))
    (subst (λ (e : ℤ). AllBounded (2 ^ 32) s delta (pos 0) e rows) (sym (error_two_start delta k from_one may)) (λ i. no_error_bounded s delta (row_at rows i)))
rows_kept k rows from_one s delta [] ms (X ∷ Xs) f may run near = absurd near
rows_kept k rows from_one s delta (n ∷ ns) ms [] f may run near = absurd near
rows_kept k rows from_one s delta [] (m ∷ ms) [] f may run near = absurd run
rows_kept k rows from_one s delta (n ∷ ns) [] (X ∷ Xs) f may run near = absurd run
rows_kept k rows from_one s delta (n ∷ ns) (m ∷ ms) (X ∷ Xs) f may run near =
    let earlier = rows_kept k rows from_one s delta ns ms Xs f may run.1 near.1 in
    let g = state k from_one Xs in
    let t = sample k (before from_one delta) n m ns ms g X run.0 in
    let v = moves (2 ^ 32) s delta k n m _ _ _ _ X (output k g X) g.s1 g.s2 _ _ _ _ _ _ _ _ _ _ _ _ t near.0 in
    all_step (2 ^ 32) s delta k rows _ _ _ _ _ _ _ _ _ (omega arith) f v earlier

-- ---- one row: the second state has no error

product_zero : (k v : ℤ) → k ≡ pos 0 → product k v ≡ pos 0
product_zero k v e = ap (λ (z : ℤ). floor_of z (pos (2 ^ 32))) (ap (λ (z : ℤ). z *ℤ v) e ∙ zero-*ℤ v)

second_state_zero : (k : Coefs) (from_one : Bool) (Xs : List ℤ) → k.b2 ≡ pos 0 → k.a2 ≡ pos 0 → (state k from_one Xs).s2 ≡ pos 0
second_state_zero k true [] b a = refl
second_state_zero k false [] b a = refl
second_state_zero k from_one (X ∷ Xs) b a =
    let p = product_zero k.b2 X b in
    let q = product_zero k.a2 (output k (state k from_one Xs) X) a in
    omega (arith, lin)

pub second_error_zero : (k : Coefs) (from_one : Bool) (delta : ℕ) (ns ms Xs : List ℤ) → k.b2 ≡ pos 0 → k.a2 ≡ pos 0 → error_two delta k from_one ns ms Xs ≡ pos 0
second_error_zero k from_one delta ns ms Xs b a =
    let s = second_state_zero k from_one Xs b a in
    let t : pos delta *ℤ (pos (2 ^ 32) *ℤ (state k from_one Xs).s2) ≡ pos 0 = ap (λ (z : ℤ). pos delta *ℤ (pos (2 ^ 32) *ℤ z)) s ∙ *ℤ-zero (pos delta) in
    let p : k.b2 *ℤ newest (before from_one delta) ns ≡ pos 0 = ap (λ (z : ℤ). z *ℤ newest (before from_one delta) ns) b ∙ zero-*ℤ (newest (before from_one delta) ns) in
    let q : k.a2 *ℤ newest (pos 0) ms ≡ pos 0 = ap (λ (z : ℤ). z *ℤ newest (pos 0) ms) a ∙ zero-*ℤ (newest (pos 0) ms) in
    omega (arith, lin)

pub row_kept : (k : Coefs) (g h : ℕ) (from_one : Bool) (s delta : ℕ) (ns ms Xs : List ℤ)
    → Single (2 ^ 32) k g h → MayStart k from_one → IsWholeSection k (before from_one delta) ns ms → NearWhole delta s ns Xs
    → FirstBounded (2 ^ 32) s delta g h (error_one delta k from_one ns ms Xs)
row_kept k g h from_one s delta [] [] [] f may run near =
    subst (λ (e : ℤ). FirstBounded (2 ^ 32) s delta g h e) (sym (error_one_start delta k from_one may)) (record { within = omega arith })
row_kept k g h from_one s delta [] ms (X ∷ Xs) f may run near = absurd near
row_kept k g h from_one s delta (n ∷ ns) ms [] f may run near = absurd near
row_kept k g h from_one s delta [] (m ∷ ms) [] f may run near = absurd run
row_kept k g h from_one s delta (n ∷ ns) [] (X ∷ Xs) f may run near = absurd run
row_kept k g h from_one s delta (n ∷ ns) (m ∷ ms) (X ∷ Xs) f may run near =
    let earlier = row_kept k g h from_one s delta ns ms Xs f may run.1 near.1 in
    let st = state k from_one Xs in
    let t = sample k (before from_one delta) n m ns ms st X run.0 in
    let v = moves (2 ^ 32) s delta k n m _ _ _ _ X (output k st X) st.s1 st.s2 _ _ _ _ _ _ _ _ _ _ _ _ t near.0 in
    let z = second_error_zero k from_one delta ns ms Xs f.b2 f.a2 in
    one_row_step (2 ^ 32) s delta k g h _ _ _ _ _ _ _ _ _ (omega arith) f z v earlier

-- ---- what both kinds of certificate give

abbrev pub KeepsFirst : Coefs → ℕ → ℕ → Type 0
KeepsFirst k g h =
    (from_one : Bool) (s delta : ℕ) (ns ms Xs : List ℤ) → MayStart k from_one → IsWholeSection k (before from_one delta) ns ms → NearWhole delta s ns Xs
    → FirstBounded (2 ^ 32) s delta g h (error_one delta k from_one ns ms Xs)

abbrev pub KeepsBoth : Coefs → ℕ → ℕ → Type 0
KeepsBoth k g h =
    (from_one : Bool) (s delta : ℕ) (ns ms Xs : List ℤ) → MayStart k from_one → IsWholeSection k (before from_one delta) ns ms → NearWhole delta s ns Xs
    → SecondBounded (2 ^ 32) s delta k g h (error_one delta k from_one ns ms Xs) (error_two delta k from_one ns ms Xs)

pub several_keep_first : (k : Coefs) (rows : List CertRow) → Several (2 ^ 32) k rows → KeepsFirst k (unsigned_abs (row_at rows 0).g) (unsigned_abs (row_at rows 0).h)
several_keep_first k rows f from_one s delta ns ms Xs may run near =
    first_form (2 ^ 32) s delta _ _ (row_at rows 0) f.x0 f.y0 (rows_kept k rows from_one s delta ns ms Xs f may run near 0)

pub several_keep_both : (k : Coefs) (rows : List CertRow) → Several (2 ^ 32) k rows → KeepsBoth k (unsigned_abs (row_at rows 1).g) (unsigned_abs (row_at rows 1).h)
several_keep_both k rows f from_one s delta ns ms Xs may run near =
    second_form (2 ^ 32) s delta k _ _ (row_at rows 1) f.x1 f.y1 (rows_kept k rows from_one s delta ns ms Xs f may run near 1)
