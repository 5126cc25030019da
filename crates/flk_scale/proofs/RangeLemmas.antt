-- Recorded voltages are all within range, or have one first that isn't; and what one voltage more does.
use Rattle.std.proofs.Common.{◌≡◌, ◌⊎◌, ℕ, zero, suc, ◌*◌, ◌<◌, ◌≤◌, List, [], ◌∷◌, ◌++◌, length, pos, ⊎_elim, subst, ap, ◌∙◌, length-append, arith, inl, inr}
use Rattle.std.specs.Int.RustNames.{unsigned_abs}
use Rattle.std.proofs.lemmas.Bool.{cases_lt}
use Rattle.std.proofs.lemmas.List.{get_or_append_left}
use Rattle.std.proofs.Math.Seq.{get_or-append_seam}
use Rattle.flk_exact.specs.Fraction.{Fraction, whole}
use Rattle.flk_scale.specs.Voltage.{IsOverRange}
use Rattle.flk_scale.specs.Range.{voltage_at, IsFirstOver, IsWithinRange}

-- the first n are within range, or there is a first one that isn't
over_from : (nominal : ℕ) (recorded : List Fraction) (n : ℕ) → n ≤ length recorded
    → ((k : ℕ) → k < n → ¬ IsOverRange nominal (voltage_at recorded k)) ⊎ ((i : ℕ) × IsFirstOver nominal recorded i)
over_from nominal recorded zero most = inl (λ k less. absurd (omega (arith, less)))
over_from nominal recorded (suc n) most =
    elim (over_from nominal recorded n (omega (arith, most))) [
      | inr first ↦ inr first
      | inl so ↦
          let v = voltage_at recorded n in
          elim (cases_lt (4 * (1000 * nominal) * v.den) (unsigned_abs v.num)) [
            | inl over ↦ inr (n, record { there = omega (arith, most); over = over; first = so })
            | inr fine ↦ inl (λ k less.
                elim (cases_lt k n) [
                  | inl before ↦ so k before
                  | inr last ↦
                      let same : n ≡ k = omega (arith, less, last) in
                      let P : ℕ → Type 0 = λ j. ¬ IsOverRange nominal (voltage_at recorded j) in
                      subst P same (λ over. omega (arith, over, fine))
                ])
          ]
    ]

pub over_cases : (nominal : ℕ) (recorded : List Fraction) → IsWithinRange nominal recorded ⊎ ((i : ℕ) × IsFirstOver nominal recorded i)
over_cases nominal recorded = over_from nominal recorded (length recorded) (omega arith)

pub within_has_no_over : (nominal : ℕ) (recorded : List Fraction) (i : ℕ) → IsWithinRange nominal recorded → IsFirstOver nominal recorded i → ⊥
within_has_no_over nominal recorded i within first = within i first.there first.over

pub one_over : (nominal : ℕ) (recorded : List Fraction) (i j : ℕ) → IsFirstOver nominal recorded i → IsFirstOver nominal recorded j → i ≡ j
one_over nominal recorded i j h k =
    ⊎_elim
    (λ less. absurd (k.first i less h.over))
    (λ most. ⊎_elim (λ less. absurd (h.first j less k.over)) (λ least. omega (arith, most, least)) (cases_lt j i))
    (cases_lt i j)

-- ---- one voltage more

-- a voltage before the last one is that of the list before it
pub voltage_before : (recorded : List Fraction) (v : Fraction) (k : ℕ) → k < length recorded → voltage_at (recorded ++ v ∷ []) k ≡ voltage_at recorded k
voltage_before recorded v k less = get_or_append_left recorded (v ∷ []) (whole (pos 0)) k less

pub voltage_last : (recorded : List Fraction) (v : Fraction) → voltage_at (recorded ++ v ∷ []) (length recorded) ≡ v
voltage_last recorded v = get_or-append_seam recorded v [] (whole (pos 0))

pub within_more : (nominal : ℕ) (recorded : List Fraction) (v : Fraction) → IsWithinRange nominal recorded → ¬ IsOverRange nominal v → IsWithinRange nominal (recorded ++ v ∷ [])
within_more nominal recorded v within fine = λ k less over.
    ⊎_elim
    (λ before. within k before (subst (IsOverRange nominal) (voltage_before recorded v k before) over))
    (λ last.
    let here : k ≡ length recorded = omega (arith, less, last, length-append recorded (v ∷ [])) in
    fine (subst (IsOverRange nominal) (ap (voltage_at (recorded ++ v ∷ [])) here ∙ voltage_last recorded v) over))
    (cases_lt k (length recorded))
