-- Texts, case by case: a number's text has a value, or is of the form and has none, or isn't of the form; bytes are a tail, or none.
use Rattle.std.proofs.Common.{◌≡◌, ◌⊎◌, ℕ, zero, suc, ◌+◌, ◌*◌, ◌^◌, Bool, List, Option, Some, None, refl, sym, ◌∙◌, arith, inl, inr, ℤ}
use Rattle.std.specs.List.{list_all, count_by}
use Rattle.std.proofs.lemmas.Bool.{cases_lt, cases_Bool, true≢false}
use Rattle.flk_text.specs.Lines.{is_byte}
use Rattle.flk_text.specs.Tail.{is_tail_byte, IsTail}
use Rattle.flk_text.specs.Numeral.{Numeral, number_from, digits_number, places_left}
use Rattle.flk_text.specs.Decimal.{IsUnits, IsInSet, IsDecimal, IsForm, signed}
use Rattle.flk_text.specs.WholeNumber.{IsWholeValue, IsWholeForm}
use Rattle.flk_text.specs.NumeralParts.{numeral_of, whole_of}
use Rattle.flk_text.proofs.NumeralLemmas.{decimal_syntax, decimal_value, decimal_range, whole_found, whole_syntax, whole_range}
use Rattle.flk_text.proofs.DecimalLaws.{reduced_number, digits_in_set, in_set_at, no_units}

-- ---- decimals

-- a number with its point moved is in the set, or isn't
abbrev UnitsCases : (n right left : ℕ) → Type 0
UnitsCases n right left = ((u : ℕ) × IsUnits n right left u × IsInSet u) ⊎ ((u : ℕ) → IsUnits n right left u → IsInSet u → ⊥)

units_cases : (n right left : ℕ) → UnitsCases n right left
units_cases zero right left = inl (0, omega arith, digits_in_set 0 0 0 (omega arith) (omega arith) (omega arith))
units_cases (suc k) right left =
    let n = suc k in
    let r = reduced_number n (omega arith) in
    let m = r.0 in
    let zeros = r.1 in
    elim (cases_lt m (10 ^ 18)) [
      | inr long ↦ inr (no_units n m zeros right left r.2 r.3 (inl long))
      | inl few ↦ elim (cases_lt (zeros + right + 24) left) [
        | inl low ↦ inr (no_units n m zeros right left r.2 r.3 (inr (inl low)))
        | inr fine ↦ elim (cases_lt (10 ^ 12 * 10 ^ left) (m * 10 ^ (zeros + right))) [
          | inl high ↦ inr (no_units n m zeros right left r.2 r.3 (inr (inr high)))
          | inr most ↦ inl (in_set_at n m zeros right left r.2 r.3 few fine most)
        ]
      ]
    ]

abbrev pub DecimalCases : List ℕ → Type 0
DecimalCases text = ((z : ℤ) × IsDecimal text z) ⊎ ((IsForm text × ((z : ℤ) → IsDecimal text z → ⊥)) ⊎ (IsForm text → ⊥))

decimal_by : (text : List ℕ) (o : Option Numeral) → numeral_of text ≡ o → DecimalCases text
decimal_by text None e = inr (inr (λ form. decimal_syntax text e form.0 form.1))
decimal_by text (Some d) e =
    elim (units_cases (digits_number d) d.right (places_left d)) [
      | inl u ↦ inl (signed d.minus u.0, decimal_value text d u.0 (signed d.minus u.0) e u.1 u.2 refl)
      | inr none ↦ inr (inl (decimal_range text d e none))
    ]

pub decimal_cases : (text : List ℕ) → DecimalCases text
decimal_cases text = decimal_by text (numeral_of text) refl

-- ---- whole numbers

abbrev pub WholeCases : List ℕ → Type 0
WholeCases text = ((z : ℤ) × IsWholeValue text z) ⊎ ((IsWholeForm text × ((z : ℤ) → IsWholeValue text z → ⊥)) ⊎ (IsWholeForm text → ⊥))

whole_by : (text : List ℕ) (o : Option (Bool × List ℕ)) → whole_of text ≡ o → WholeCases text
whole_by text None e = inr (inr (whole_syntax text e))
whole_by text (Some w) e =
    elim (cases_lt (10 ^ 12) (number_from 0 w.1)) [
      | inl big ↦ inr (inl (whole_range text w e big))
      | inr few ↦ inl (signed w.0 (number_from 0 w.1), record { minus = w.0; size = number_from 0 w.1; spelled = whole_found text w e; most = few; is = refl })
    ]

pub whole_cases : (text : List ℕ) → WholeCases text
whole_cases text = whole_by text (whole_of text) refl

-- ---- tails

pub tail_cases : (tail : List ℕ) → IsTail tail ⊎ (IsTail tail → ⊥)
tail_cases tail =
    elim (cases_lt 1 (count_by (is_byte 26) tail)) [
      | inl many ↦ inr (λ is. omega (arith, many, is.one))
      | inr one ↦ elim (cases_Bool (list_all is_tail_byte tail)) [
        | inl bytes ↦ inl (record { bytes = bytes; one = one })
        | inr other ↦ inr (λ is. true≢false (sym is.bytes ∙ other))
      ]
    ]
