-- For each section there is a certificate that is made.
use Rattle.std.proofs.Common.{◌≡◌, ◌⊎◌, ℕ, zero, suc, ◌+◌, ◌-◌, ◌*◌, ◌^◌, ◌<◌, ◌≤◌, List, [], ◌∷◌, length, length-append, refl, sym, ap, subst, ◌∙◌, arith, inl, inr, ℤ, pos, ◌-ℤ◌}
use Rattle.std.specs.Prelude.{sum_by}
use Rattle.std.specs.Int.RustNames.{unsigned_abs}
use Rattle.std.proofs.lemmas.Int.{ints}
use Rattle.std.proofs.lemmas.Bool.{cases_lt, cases_eq}
use Rattle.flk_exact.specs.Rounding.{ceil_of}
use Rattle.flk_exact.proofs.RoundingLemmas.{IsCeil-at}
use Rattle.flk_cert.specs.declared.coefs.Coefs.{Coefs}
use Rattle.flk_cert.specs.declared.certificate.CertRow.{CertRow}
use Rattle.flk_cert.specs.declared.row.Form.{Form}
use Rattle.flk_cert.specs.Make.{form_of, inner_row, last_row, inner_rows, rows_of, weight, IsContracted, IsLarge, MayEnd, IsCount, input_share_at, rounding_share_at, limit, bounded_by, bounded, IsFirstOrder, IsOneBound, one_plain, IsOneRow, IsMade}
use Rattle.flk_cert.proofs.MakeLemmas.{one_bound_is, one_row_is, order_cases}

-- ---- a section of first order

bound_exists : (c : ℤ) (share : ℕ) → (g : ℤ) × IsOneBound c share g
bound_exists c share =
    elim (cases_lt (unsigned_abs c) (2 ^ 64)) [
      | inl low ↦
          let left = pos (2 ^ 64) -ℤ pos (unsigned_abs c) in
          let g = ceil_of (pos share) left in
          (g, one_bound_is c (pos share) (pos (unsigned_abs c)) g refl (omega (arith, ints, low)) (omega (arith, ints)) (IsCeil-at (pos share) left g (omega (arith, ints, low)) refl))
      | inr high ↦ (pos 0, record { met = λ low. absurd (omega (arith, low, high)); least = λ low. absurd (omega (arith, low, high)); none = λ h. refl })
    ]

one_row_exists : (k : Coefs) → (r : CertRow) × IsOneRow k r
one_row_exists k =
    let p = one_plain k in
    let g = bound_exists p.c (input_share_at k p) in
    let h = bound_exists p.c (rounding_share_at k p) in
    let r : CertRow = record (one_plain k) { g = g.0; h = h.0 } in
    (r, one_row_is k p r (pos (input_share_at k p)) (pos (rounding_share_at k p)) g.0 h.0 refl refl refl refl g.1 h.1)

-- ---- how many rows another has

contracted_cases : (k : Coefs) (count : ℕ) → IsContracted k count ⊎ (IsContracted k count → ⊥)
contracted_cases k count =
    elim (cases_lt (2 ^ 64) (64 * sum_by weight (rows_of k count))) [
      | inl above ↦ inr (λ within. omega (arith, above, within))
      | inr within ↦ inl within
    ]

large_cases : (f : Form) → IsLarge f ⊎ (IsLarge f → ⊥)
large_cases f =
    elim (cases_lt (unsigned_abs f.x) (2 ^ 44)) [
      | inr x ↦ inl (inl x)
      | inl low ↦ elim (cases_lt (unsigned_abs f.y) (2 ^ 44)) [
        | inr y ↦ inl (inr y)
        | inl small ↦ inr (λ large.
            elim large [
              | inl x ↦ omega (arith, low, x)
              | inr y ↦ omega (arith, small, y)
            ])
      ]
    ]

end_cases : (k : Coefs) (count : ℕ) → MayEnd k count ⊎ (MayEnd k count → ⊥)
end_cases k count =
    elim (contracted_cases k count) [
      | inl contracted ↦ inl (inl contracted)
      | inr not_contracted ↦ elim (large_cases (form_of k (count - 1))) [
        | inl large ↦ inl (inr (inl large))
        | inr not_large ↦ elim (cases_eq count 4096) [
          | inl all ↦ inl (inr (inr all))
          | inr fewer ↦ inr (λ may.
              elim may [
                | inl contracted ↦ not_contracted contracted
                | inr (inl large) ↦ not_large large
                | inr (inr all) ↦ fewer all
              ])
        ]
      ]
    ]

count_from : (k : Coefs) (fuel n : ℕ) → n + fuel ≡ 4096 → 2 ≤ n → ((m : ℕ) → 2 ≤ m → m < n → MayEnd k m → ⊥) → (count : ℕ) × IsCount k count
count_from k zero n left two before = (n, record { from_two = two; ends = inr (inr (omega (arith, left))); least = before })
count_from k (suc fuel) n left two before =
    elim (end_cases k n) [
      | inl ends ↦ (n, record { from_two = two; ends = ends; least = before })
      | inr goes_on ↦ count_from k fuel (suc n) (omega (arith, left)) (omega (arith, two)) (λ m from less.
          elim (cases_lt m n) [
            | inl earlier ↦ before m from earlier
            | inr last ↦
                let same : n ≡ m = omega (arith, less, last) in
                subst (λ (i : ℕ). MayEnd k i → ⊥) same goes_on
          ])
    ]

count_exists : (k : Coefs) → (count : ℕ) × IsCount k count
count_exists k = count_from k 4094 2 refl (omega arith) (λ m from less. absurd (omega (arith, from, less)))

length-inner_rows : (k : Coefs) (n : ℕ) → length (inner_rows k n) ≡ n
length-inner_rows k zero = refl
length-inner_rows k (suc n) = omega (arith, length-append (inner_rows k n) (inner_row k (form_of k n) ∷ []), length-inner_rows k n)

length-rows_of : (k : Coefs) (count : ℕ) → 0 < count → length (rows_of k count) ≡ count
length-rows_of k count some = omega (arith, some, length-append (inner_rows k (count - 1)) (last_row k (form_of k (count - 1)) ∷ []), length-inner_rows k (count - 1))

length-bounded_by : (k : Coefs) (input rounding : ℤ) (rows : List CertRow) → length (bounded_by k input rounding rows) ≡ length rows
length-bounded_by k input rounding [] = refl
length-bounded_by k input rounding (r ∷ rs) = ap suc (length-bounded_by k input rounding rs)

length-bounded : (k : Coefs) (rows : List CertRow) → length (bounded k rows) ≡ length rows
length-bounded k rows = length-bounded_by k (limit (input_share_at k) rows) (limit (rounding_share_at k) rows) rows

-- ---- the certificate

rows_exist : (k : Coefs) → (IsFirstOrder k → ⊥) → (rows : List CertRow) × IsMade k rows
rows_exist k other =
    let n = count_exists k in
    let plain : length (rows_of k n.0) ≡ n.0 = length-rows_of k n.0 (omega (arith, n.1.from_two)) in
    elim (contracted_cases k n.0) [
      | inl contracted ↦
          let rows = bounded k (rows_of k n.0) in
          let count : n.0 ≡ length rows = sym (length-bounded k (rows_of k n.0) ∙ plain) in (
            rows,
            record {
              one = λ first. absurd (other first);
              count = λ not_first. subst (IsCount k) count n.1;
              contracted = λ not_first is. ap (λ (m : ℕ). bounded k (rows_of k m)) count;
              others = λ not_first is_not. absurd (is_not (subst (IsContracted k) count contracted));
            },
          )
      | inr not_contracted ↦
          let rows = rows_of k n.0 in
          let count : n.0 ≡ length rows = sym plain in (
            rows,
            record {
              one = λ first. absurd (other first);
              count = λ not_first. subst (IsCount k) count n.1;
              contracted = λ not_first is. absurd (not_contracted (subst (IsContracted k) (sym count) is));
              others = λ not_first is_not. ap (rows_of k) count;
            },
          )
    ]

pub made_exists : (k : Coefs) → (rows : List CertRow) × IsMade k rows
made_exists k =
    elim (order_cases k) [
      | inl first ↦
          let row = one_row_exists k in (
            row.0 ∷ [],
            record {
              one = λ is. (row.0, refl, row.1);
              count = λ other. absurd (other first);
              contracted = λ other is. absurd (other first);
              others = λ other is_not. absurd (other first);
            },
          )
      | inr other ↦ rows_exist k other
    ]
