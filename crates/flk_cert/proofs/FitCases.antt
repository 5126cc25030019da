-- A certificate fits its section or doesn't, and one that fits shows a gain.
use Rattle.std.proofs.Common.{◌≡◌, ◌⊎◌, ℕ, zero, suc, ◌+◌, ◌-◌, ◌^◌, ◌<◌, ◌≤◌, List, length, int_eq, refl, sym, subst, ◌∙◌, arith, inl, inr, ℤ, pos, neg_ℤ, ◌+ℤ◌, ◌-ℤ◌, ◌*ℤ◌, ◌≤ℤ◌, ◌<ℤ◌}
use Rattle.std.specs.Prelude.{sum_by}
use Rattle.std.specs.Int.RustNames.{unsigned_abs}
use Rattle.std.proofs.lemmas.Int.{ints, by_lt_z}
use Rattle.std.proofs.lemmas.Bool.{cases_lt, cases_eq, cases_Bool, true≢false}
use Rattle.std.proofs.lemmas.Bool.Decides.{Decides-int_eq}
use Rattle.flk_exact.specs.Rounding.{ceil_of}
use Rattle.flk_exact.proofs.RoundingLemmas.{IsCeil-at}
use Rattle.flk_cert.specs.declared.coefs.Coefs.{Coefs}
use Rattle.flk_cert.specs.declared.certificate.CertRow.{CertRow}
use Rattle.flk_cert.specs.declared.gain.Gain.{Gain}
use Rattle.flk_cert.specs.declared.fault.Cause.TheVariants.{Shape, Contraction, Identity, Input, Rounding}
use Rattle.flk_cert.specs.Row.{fed_back, input_share, rounding_share}
use Rattle.flk_cert.specs.Certificate.{row_at, IsBound, HasRanges, HasCount, HasForm, HasShape, Contracts, IsCombined, HasIdentity, Covers, FitsSection}
use Rattle.flk_cert.specs.Judged.{AllAreMet}
use Rattle.flk_cert.specs.Gain.{IsGainOf}
use Rattle.flk_cert.proofs.CheckLemmas.{shape_past}
use Rattle.flk_cert.proofs.FaultLemmas.{all_fit}
use Rattle.flk_cert.proofs.GainLemmas.{fits_bounds, fits_bounds_first, fits_bounds_second, fits_keeps_second}

-- ---- what is decided

-- it holds, or doesn't
abbrev pub IsDecided : Type 0 → Type 0
IsDecided A = A ⊎ (A → ⊥)

pub both : {A B : Type 0} → IsDecided A → IsDecided B → IsDecided (A × B)
both (inl a) (inl b) = inl (a, b)
both (inr never) b = inr (λ h. never h.0)
both (inl a) (inr never) = inr (λ h. never h.1)

-- where A holds
where_so : {A B : Type 0} → IsDecided A → IsDecided B → IsDecided (A → B)
where_so (inr never) b = inl (λ a. absurd (never a))
where_so (inl a) (inl b) = inl (λ h. b)
where_so (inl a) (inr never) = inr (λ f. never (f a))

pub alike : {A B : Type 0} → (A → B) → (B → A) → IsDecided A → IsDecided B
alike f g (inl a) = inl (f a)
alike f g (inr never) = inr (λ b. never (g b))

pub below_cases : (m n : ℕ) → IsDecided (m < n)
below_cases m n =
    elim (cases_lt m n) [
      | inl less ↦ inl less
      | inr most ↦ inr (λ less. omega (arith, less, most))
    ]

within_cases : (m n : ℕ) → IsDecided (m ≤ n)
within_cases m n =
    elim (cases_lt n m) [
      | inl less ↦ inr (λ most. omega (arith, less, most))
      | inr most ↦ inl most
    ]

at_most_cases : (a b : ℤ) → IsDecided (a ≤ℤ b)
at_most_cases a b = by_lt_z b a (λ less. inr (λ most. omega (arith, ints, less, most))) (λ most. inl most)

pub less_cases : (a b : ℤ) → IsDecided (a <ℤ b)
less_cases a b = by_lt_z a b (λ less. inl less) (λ most. inr (λ less. omega (arith, ints, less, most)))

pub equal_cases : (a b : ℤ) → IsDecided (a ≡ b)
equal_cases a b =
    elim (cases_Bool (int_eq a b)) [
      | inl same ↦ inl ((Decides-int_eq a b).0 same)
      | inr other ↦ inr (λ e. true≢false (sym ((Decides-int_eq a b).1 e) ∙ other))
    ]

-- of the first n places
places : (P : ℕ → Type 0) → ((i : ℕ) → IsDecided (P i)) → (n : ℕ) → IsDecided ((i : ℕ) → i < n → P i)
places P each zero = inl (λ i less. absurd (omega (arith, less)))
places P each (suc n) =
    elim (places P each n) [
      | inr never ↦ inr (λ all. never (λ i less. all i (omega (arith, less))))
      | inl so ↦ elim (each n) [
        | inr never ↦ inr (λ all. never (all n (omega arith)))
        | inl here ↦ inl (λ i less.
            elim (cases_lt i n) [
              | inl before ↦ so i before
              | inr last ↦
                  let same : n ≡ i = omega (arith, less, last) in
                  subst P same here
            ])
      ]
    ]

-- ---- the conditions

bound_cases : (g : ℤ) → IsDecided (IsBound g)
bound_cases g = alike (λ h. record { natural = h.0; small = h.1 }) (λ b. (b.natural, b.small)) (both (at_most_cases (pos 0) g) (less_cases g (pos (2 ^ 60))))

range_cases : (r : CertRow) → IsDecided (HasRanges r)
range_cases r =
    alike (λ h. record { x = h.0; y = h.1.0; g = h.1.1.0; h = h.1.1.1 }) (λ s. (s.x, (s.y, (s.g, s.h))))
    (both (below_cases (unsigned_abs r.x) (2 ^ 44)) (both (below_cases (unsigned_abs r.y) (2 ^ 44)) (both (bound_cases r.g) (bound_cases r.h))))

count_cases : (k : Coefs) (rows : List CertRow) → IsDecided (HasCount k rows)
count_cases k rows =
    alike (λ h. record { some = h.0; few = h.1.0; single = h.1.1 }) (λ c. (c.some, (c.few, c.single)))
    (both (below_cases 0 (length rows)) (both (within_cases (length rows) 4096) (where_so (cases_eq (length rows) 1) (both (equal_cases k.b2 (pos 0)) (equal_cases k.a2 (pos 0))))))

form_cases : (x y : ℤ) (r : CertRow) → IsDecided (HasForm x y r)
form_cases x y r = alike (λ h. record { first = h.0; second = h.1 }) (λ f. (f.first, f.second)) (both (equal_cases r.x x) (equal_cases r.y y))

shape_cases : (k : Coefs) (rows : List CertRow) (i : ℕ) → IsDecided (HasShape k rows i)
shape_cases k rows i =
    alike (λ h. record { count = h.0; range = h.1.0; row_0 = h.1.1.0; row_1 = h.1.1.1 }) (λ s. (s.count, (s.range, (s.row_0, s.row_1))))
    (both (where_so (cases_eq i 0) (count_cases k rows))
    (both (range_cases (row_at rows i))
    (both (where_so (cases_eq i 0) (form_cases (pos (2 ^ 32)) (pos 0) (row_at rows 0)))
    (where_so (cases_eq i 1) (where_so (below_cases 1 (length rows)) (form_cases (neg_ℤ k.a1) (pos (2 ^ 32)) (row_at rows 1)))))))

shapes_cases : (k : Coefs) (rows : List CertRow) → IsDecided ((i : ℕ) → HasShape k rows i)
shapes_cases k rows =
    alike
    (λ some i.
    elim (cases_lt i (suc (length rows))) [
      | inl less ↦ some i less
      | inr past ↦ shape_past k rows i (omega (arith, past)) (omega (arith, past))
    ])
    (λ all i less. all i) (places (HasShape k rows) (shape_cases k rows) (suc (length rows)))

contraction_cases : (rows : List CertRow) → IsDecided (Contracts rows)
contraction_cases rows =
    alike (λ h. record { single = h.0; several = h.1 }) (λ c. (c.single, c.several))
    (both (where_so (cases_eq (length rows) 1) (below_cases (unsigned_abs (row_at rows 0).c) (2 ^ 64)))
    (where_so (below_cases 1 (length rows)) (within_cases (sum_by (λ (r : CertRow). unsigned_abs r.c + unsigned_abs r.d) rows) (2 ^ 62))))

combined_cases : (k : Coefs) (r next : CertRow) → IsDecided (IsCombined k r next)
combined_cases k r next =
    alike (λ h. record { first = h.0; second = h.1 }) (λ c. (c.first, c.second))
    (both (equal_cases (pos (2 ^ 32) *ℤ fed_back k r.x r.y) (pos (2 ^ 64) *ℤ next.x +ℤ pos (2 ^ 32) *ℤ r.c -ℤ k.a1 *ℤ r.d))
    (equal_cases (pos (2 ^ 64) *ℤ r.x) (pos (2 ^ 64) *ℤ next.y +ℤ pos (2 ^ 32) *ℤ r.d)))

identity_cases : (k : Coefs) (rows : List CertRow) (i : ℕ) → IsDecided (HasIdentity k rows i)
identity_cases k rows i =
    alike (λ h. record { single = h.0; several = h.1 }) (λ c. (c.single, c.several))
    (both (where_so (cases_eq (length rows) 1) (both (equal_cases (row_at rows i).c (neg_ℤ (pos (2 ^ 32) *ℤ k.a1))) (equal_cases (row_at rows i).d (pos 0))))
    (where_so (below_cases 1 (length rows)) (combined_cases k (row_at rows i) (row_at rows (i + 1)))))

covers_cases : (r : CertRow) (first second next : ℤ) (share : ℕ) (own : ℤ) → IsDecided (Covers r first second next share own)
covers_cases r first second next share own =
    at_most_cases (pos (unsigned_abs r.c) *ℤ first +ℤ pos (unsigned_abs r.d) *ℤ second +ℤ pos (2 ^ 64) *ℤ next +ℤ pos share) (pos (2 ^ 64) *ℤ own)

met_cases : (k : Coefs) (rows : List CertRow) (i : ℕ) → IsDecided (AllAreMet k rows i)
met_cases k rows i =
    let r = row_at rows i in
    alike (λ h. record { identity = h.0; input = h.1.0; rounding = h.1.1 }) (λ m. (m.identity, (m.input, m.rounding)))
    (both (identity_cases k rows i)
    (both (covers_cases r (row_at rows 0).g (row_at rows 1).g (row_at rows (i + 1)).g (input_share k r.x r.y) r.g)
    (covers_cases r (row_at rows 0).h (row_at rows 1).h (row_at rows (i + 1)).h (rounding_share k r.x r.y) r.h)))

-- ---- the certificate

-- all conditions, as they are asked
judged_of : (k : Coefs) (rows : List CertRow) → FitsSection k rows → 0 < length rows → Contracts rows
judged_of k rows fits some = fits Contraction (length rows - 1) (omega (arith, some))

met_of : (k : Coefs) (rows : List CertRow) → FitsSection k rows → (i : ℕ) → i < length rows → AllAreMet k rows i
met_of k rows fits i less = record { identity = fits Identity i less; input = fits Input i less; rounding = fits Rounding i less }

pub fit_cases : (k : Coefs) (rows : List CertRow) → FitsSection k rows ⊎ (FitsSection k rows → ⊥)
fit_cases k rows =
    elim (shapes_cases k rows) [
      | inr never ↦ inr (λ fits. never (fits Shape))
      | inl shape ↦ elim (contraction_cases rows) [
        | inr never ↦ inr (λ fits. never (judged_of k rows fits ((shape 0).count refl).some))
        | inl contraction ↦ elim (places (AllAreMet k rows) (met_cases k rows) (length rows)) [
          | inr never ↦ inr (λ fits. never (met_of k rows fits))
          | inl met ↦ inl (all_fit k rows (record { shape = shape; contraction = contraction }) met)
        ]
      ]
    ]

-- ---- its gain

pub gain_exists : (k : Coefs) (rows : List CertRow) → FitsSection k rows → (gain : Gain) × IsGainOf k rows gain
gain_exists k rows fits =
    let first = row_at rows 0 in
    let second = row_at rows 1 in
    let own : HasRanges (row_at rows 0) = (fits Shape 0).range in
    let next : HasRanges (row_at rows 1) = (fits Shape 1).range in
    let input = pos (unsigned_abs k.b0) +ℤ first.g in
    let rounding = pos 1 +ℤ ceil_of first.h (pos (2 ^ 32)) in
    let above : first.h ≤ℤ (ceil_of first.h (pos (2 ^ 32)) *ℤ pos (2 ^ 32)) = (IsCeil-at first.h (pos (2 ^ 32)) (ceil_of first.h (pos (2 ^ 32))) (omega (arith, ints)) refl).within in
    let near : (ceil_of first.h (pos (2 ^ 32)) *ℤ pos (2 ^ 32) -ℤ pos (2 ^ 32)) <ℤ first.h = (IsCeil-at first.h (pos (2 ^ 32)) (ceil_of first.h (pos (2 ^ 32))) (omega (arith, ints)) refl).least in
    let small : rounding ≤ℤ pos (2 ^ 29) = omega (arith, ints, near, own.h.small) in
    let gain : Gain = record {
      coefs = k;
      input = input;
      rounding = rounding;
      first_input = first.g;
      first_rounding = first.h;
      second_input = second.g;
      second_rounding = second.h;
      input_natural = omega (arith, ints, own.g.natural);
      rounding_natural = omega (arith, ints, own.h.natural, above);
      rounding_small = small;
      first_input_limits = own.g;
      first_rounding_limits = own.h;
      second_input_limits = next.g;
      second_rounding_limits = next.h;
      bounds = fits_bounds k rows input rounding fits refl refl;
      bounds_first = fits_bounds_first k rows fits;
      bounds_second = fits_bounds_second k rows fits;
      keeps_second = fits_keeps_second k rows fits;
    } in (
      gain,
      record { coefs = refl; input = refl; rounding = refl; first_input = refl; first_rounding = refl; second_input = refl; second_rounding = refl },
    )
