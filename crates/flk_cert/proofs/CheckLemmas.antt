-- Tests of the checker, and what they decide.
use Rattle.std.proofs.Common.{◌≡◌, ◌↔◌, ◌⊎◌, ℕ, ◌+◌, ◌<◌, ◌≤◌, List, length, IsTrue, nat_eq, to_z, of_z, FitsSigned, eq-eqb, sym, ap, subst, ◌∙◌, arith, ⊎_elim, inl, inr}
use Rattle.std.proofs.Math.IntN.{ℤ, pos, neg_ℤ}
use Rattle.std.specs.Prelude.{◌^◌}
use Rattle.std.specs.Int.{w128}
use Rattle.std.specs.Int.RustNames.{unsigned_abs}
use Rattle.std.proofs.lemmas.Int.{ints, to_z-of_z}
use Rattle.std.proofs.lemmas.Bool.{eqb-true, cases_lt}
use Rattle.std.proofs.lemmas.List.Sums.{get_or-le-sum_by}
use Rattle.flk_cert.specs.declared.certificate.CertRow.{CertRow}
use Rattle.flk_cert.specs.declared.coefs.Coefs.{Coefs}
use Rattle.flk_cert.specs.Certificate.{no_row, row_at, IsBound, HasRanges, HasCount, HasForm, HasShape, Contracts, IsCombined, HasIdentity}
use Rattle.flk_cert.specs.Judged.{IsJudged}
use Rattle.flk_cert.proofs.StepLemmas.{row_at-past}

-- two numbers of 128 bits are equal where their bits are
pub equal_bits : (a b : ℤ) → FitsSigned w128 a → FitsSigned w128 b → IsTrue (nat_eq (of_z w128 a) (of_z w128 b)) ↔ (a ≡ b)
equal_bits a b f g =
    (λ t. sym (to_z-of_z w128 a f) ∙ ap (to_z w128) (eqb-true (of_z w128 a) (of_z w128 b) t) ∙ to_z-of_z w128 b g, λ e. eq-eqb (of_z w128 a) (of_z w128 b) (ap (of_z w128) e))

-- ---- the shape of a row

pub first_shape : (k : Coefs) (rows : List CertRow) → HasRanges (row_at rows 0) → HasCount k rows → HasForm (pos (2 ^ 32)) (pos 0) (row_at rows 0) → HasShape k rows 0
first_shape k rows r c f = record { count = λ z. c; range = r; row_0 = λ z. f; row_1 = λ z. absurd (omega arith) }

pub second_shape : (k : Coefs) (rows : List CertRow) (i : ℕ) → i ≡ 1 → HasRanges (row_at rows i) → HasForm (neg_ℤ k.a1) (pos (2 ^ 32)) (row_at rows i) → HasShape k rows i
second_shape k rows i e r f =
    record { count = λ z. absurd (omega arith); range = r; row_0 = λ z. absurd (omega arith); row_1 = λ o m. subst (λ (n : ℕ). HasForm (neg_ℤ k.a1) (pos (2 ^ 32)) (row_at rows n)) e f }

pub later_shape : (k : Coefs) (rows : List CertRow) (i : ℕ) → 1 < i → HasRanges (row_at rows i) → HasShape k rows i
later_shape k rows i h r = record { count = λ z. absurd (omega arith); range = r; row_0 = λ z. absurd (omega arith); row_1 = λ o m. absurd (omega arith) }

no_row_in_range : HasRanges no_row
no_row_in_range =
    let zero : IsBound (pos 0) = record { natural = omega (arith, ints); small = omega (arith, ints) } in
    record { x = omega arith; y = omega arith; g = zero; h = zero }

-- past the last row nothing is asked
pub shape_past : (k : Coefs) (rows : List CertRow) (i : ℕ) → 0 < i → length rows ≤ i → HasShape k rows i
shape_past k rows i some past =
    record {
      count = λ z. absurd (omega arith);
      range = subst HasRanges (sym (row_at-past rows i past)) no_row_in_range;
      row_0 = λ z. absurd (omega arith);
      row_1 = λ o m. absurd (omega arith);
    }

-- ---- the factors of a row

pub quarter_factors : (rows : List CertRow) (i : ℕ) → Contracts rows → 1 < length rows → i < length rows → (unsigned_abs (row_at rows i).c ≤ 2 ^ 62) × (unsigned_abs (row_at rows i).d ≤ 2 ^ 62)
quarter_factors rows i c more within =
    let sum = c.several more in
    let part = get_or-le-sum_by (λ (r : CertRow). unsigned_abs r.c + unsigned_abs r.d) rows i no_row within in
    (omega (arith, sum, part), omega (arith, sum, part))

pub one_or_more : (n : ℕ) → 0 < n → (n ≡ 1) ⊎ (1 < n)
one_or_more n h = ⊎_elim (λ l. inr l) (λ m. inl (omega arith)) (cases_lt 1 n)

pub small_factors : (k : Coefs) (rows : List CertRow) (i : ℕ) → IsJudged k rows → i < length rows → HasIdentity k rows i → (unsigned_abs (row_at rows i).c ≤ 2 ^ 64) × (unsigned_abs (row_at rows i).d ≤ 2 ^ 64)
small_factors k rows i j within id =
    ⊎_elim
    (λ one.
    let e : 0 ≡ i = omega arith in
    let c : unsigned_abs (row_at rows i).c < 2 ^ 64 = subst (λ (n : ℕ). unsigned_abs (row_at rows n).c < 2 ^ 64) e (j.contraction.single one) in
    let d : unsigned_abs (row_at rows i).d ≤ 2 ^ 64 = subst (λ (z : ℤ). unsigned_abs z ≤ 2 ^ 64) (sym (id.single one).1) (omega arith) in
    (omega (arith, c), d))
    (λ more. let q = quarter_factors rows i j.contraction more within in (omega (arith, q.0), omega (arith, q.1)))
    (one_or_more (length rows) (omega arith))

-- ---- what is known of rows that were read is known of the certificate's rows

pub at_rows : (P : CertRow → CertRow → CertRow → CertRow → Type 0) (r f s n r' f' s' n' : CertRow) → r ≡ r' → f ≡ f' → s ≡ s' → n ≡ n' → P r f s n → P r' f' s' n'
at_rows P r f s n r' f' s' n' a b c d p =
    subst (λ (z : CertRow). P r' f' s' z) d (subst (λ (z : CertRow). P r' f' z n) c (subst (λ (z : CertRow). P r' z s n) b (subst (λ (z : CertRow). P z f s n) a p)))

pub combined_is_identity : (k : Coefs) (rows : List CertRow) (i : ℕ) → 1 < length rows → HasIdentity k rows i ↔ IsCombined k (row_at rows i) (row_at rows (i + 1))
combined_is_identity k rows i more = (λ h. h.several more, λ h. record { single = λ one. absurd (omega (arith, one, more)); several = λ m. h })
