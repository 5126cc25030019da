-- A field is in its set, or is refused with a kind.
use Rattle.std.proofs.Common.{◌≡◌, ◌⊎◌, ℕ, zero, suc, ◌+◌, Bool, true, false, eqb, List, [], ◌∷◌, get_or, Option, Some, None, refl, sym, ap, subst, ◌∙◌, arith, inl, inr, ℤ, pos, negsuc, ◌≤ℤ◌}
use Rattle.std.proofs.lemmas.Int.{ints}
use Rattle.std.proofs.lemmas.Bool.{cases_lt, cases_Bool, eqb-true, eq-eqb, true≢false}
use Rattle.flk_text.specs.WholeNumber.{IsWholeValue}
use Rattle.flk_text.proofs.TextCases.{whole_cases}
use Rattle.flk_field.specs.Values.{IsWholeFrom}
use Rattle.flk_field.proofs.FieldJudges.{whole_form, whole_outside, whole_far}
use Rattle.flk_field.proofs.SetCases.{bit_from}
use Rattle.flk_text.proofs.DecimalLaws.{whole_once}
use Rattle.flk_field.specs.declared.form.Form.TheVariants.{Ascii}
use Rattle.flk_dat.specs.Records.{Follows, missing_value}
use Rattle.flk_dat.specs.SampleFields.{most_number, most_stamp, least_sample, most_sample, IsSample, IsThere, Set, Number, Stamp, Analog, Digital, IsIn, Refuses, NoWhole, NoSample}
use Rattle.flk_dat.specs.AsciiRecords.{IsFirstOut}
use Rattle.flk_dat.specs.declared.kind.Kind.{Kind}
use Rattle.flk_dat.specs.declared.kind.Kind.TheVariants as kinds
use Rattle.flk_dat.proofs.RowLemmas.{AreIn}

-- ---- whole numbers

abbrev UpTo : (most : ℕ) → List ℕ → Type 0
UpTo most f = ((n : ℕ) × IsWholeFrom 0 most f n) ⊎ ((kind : Kind) × NoWhole most f kind)

value_up_to : (most : ℕ) (f : List ℕ) (z : ℤ) → IsWholeValue f z → UpTo most f
value_up_to most f (pos n) v =
    elim (cases_lt most n) [
      | inl above ↦ inr (kinds.Range, inr (refl, whole_form f (pos n) v, whole_outside 0 most f (pos n) v (λ low high. omega (arith, ints, above, high))))
      | inr few ↦ inl (n, record { value = v; at_least = omega arith; at_most = few })
    ]
value_up_to most f (negsuc n) v = inr (kinds.Range, inr (refl, whole_form f (negsuc n) v, whole_outside 0 most f (negsuc n) v (λ low high. omega (arith, ints, low))))

up_to : (most : ℕ) (f : List ℕ) → UpTo most f
up_to most f =
    elim (whole_cases f) [
      | inl v ↦ value_up_to most f v.0 v.1
      | inr none ↦ elim none [
        | inl far ↦ inr (kinds.Range, inr (refl, far.0, whole_far 0 most f far.1))
        | inr no_form ↦ inr (kinds.Number, inl (refl, no_form))
      ]
    ]

abbrev SampleCases : List ℕ → Type 0
SampleCases f = ((z : ℤ) × IsSample f z) ⊎ ((kind : Kind) × NoSample f kind)

outside : (f : List ℕ) (z : ℤ) → IsWholeValue f z → ((least_sample ≤ℤ z) → (z ≤ℤ most_sample) → ⊥) → (y : ℤ) → IsSample f y → ⊥
outside f z v out y is =
    let same : y ≡ z = whole_once f y z is.value v in
    out (subst (λ (x : ℤ). least_sample ≤ℤ x) same is.at_least) (subst (λ (x : ℤ). x ≤ℤ most_sample) same is.at_most)

sample_of : (f : List ℕ) (z : ℤ) → IsWholeValue f z → SampleCases f
sample_of f (pos n) v =
    elim (cases_lt 99999 n) [
      | inl above ↦ inr (kinds.Range, inr (refl, whole_form f (pos n) v, outside f (pos n) v (λ low high. omega (arith, ints, above, high))))
      | inr few ↦ inl (pos n, record { value = v; at_least = omega (arith, ints); at_most = omega (arith, ints, few) })
    ]
sample_of f (negsuc n) v =
    elim (cases_lt 99998 n) [
      | inl below ↦ inr (kinds.Range, inr (refl, whole_form f (negsuc n) v, outside f (negsuc n) v (λ low high. omega (arith, ints, below, low))))
      | inr few ↦ inl (negsuc n, record { value = v; at_least = omega (arith, ints, few); at_most = omega (arith, ints) })
    ]

sample_cases : (f : List ℕ) → SampleCases f
sample_cases f =
    elim (whole_cases f) [
      | inl v ↦ sample_of f v.0 v.1
      | inr none ↦ elim none [
        | inl far ↦ inr (kinds.Range, inr (refl, far.0, λ z is. far.1 z is.value))
        | inr no_form ↦ inr (kinds.Number, inl (refl, no_form))
      ]
    ]

-- ---- the sets

pub follows_cases : (before : Option ℕ) (n : ℕ) → Follows before n ⊎ (Follows before n → ⊥)
follows_cases None n = inl tt
follows_cases (Some m) n =
    elim (cases_Bool (eqb n (m + 1))) [
      | inl same ↦ inl (eqb-true n (m + 1) same)
      | inr other ↦ inr (λ e. true≢false (sym (eq-eqb n (m + 1) e) ∙ other))
    ]

abbrev pub SetCases : Set → List ℕ → Type 0
SetCases s f = IsIn s f ⊎ ((kind : Kind) × Refuses s f kind)

number_cases : (before : Option ℕ) (f : List ℕ) → SetCases (Number before) f
unfolding IsIn Refuses
number_cases before f =
    elim (up_to most_number f) [
      | inr out ↦ inr (out.0, inl out.1)
      | inl is ↦ elim (follows_cases before is.0) [
        | inl after ↦ inl (is.0, is.1, after)
        | inr jump ↦ inr (kinds.Order, inr (refl, is.0, is.1, jump))
      ]
    ]

stamp_cases : (f : List ℕ) → SetCases Stamp f
unfolding IsIn Refuses
stamp_cases [] = inl (None, refl)
stamp_cases (b ∷ bs) =
    elim (up_to most_stamp (b ∷ bs)) [
      | inl is ↦ inl (Some is.0, is.1)
      | inr out ↦ inr (out.0, ((λ e. cc), out.1))
    ]

there_cases : (selected : Bool) (z : ℤ) → IsThere selected z ⊎ ((selected ≡ true) × (z ≡ missing_value Ascii))
there_cases false z = inl (λ e. absurd (true≢false (sym e)))
there_cases true (negsuc n) = inl (λ e same. cc)
there_cases true (pos n) =
    elim (cases_Bool (eqb n 99999)) [
      | inl same ↦ inr (refl, ap (λ (m : ℕ). pos m) (eqb-true n 99999 same))
      | inr other ↦ inl (λ e same. let number : n ≡ 99999 = cc same in true≢false (sym (eq-eqb n 99999 number) ∙ other))
    ]

analog_cases : (selected : Bool) (f : List ℕ) → SetCases (Analog selected) f
unfolding IsIn Refuses
analog_cases selected f =
    elim (sample_cases f) [
      | inr out ↦ inr (out.0, inl out.1)
      | inl is ↦ elim (there_cases selected is.0) [
        | inl there ↦ inl (is.0, is.1, there)
        | inr missing ↦ inr (kinds.Missing, inr (refl, missing.0, subst (IsSample f) missing.1 is.1))
      ]
    ]

digital_cases : (f : List ℕ) → SetCases Digital f
unfolding IsIn Refuses
digital_cases f =
    elim (up_to 1 f) [
      | inl is ↦ inl (bit_from f is.0 is.1)
      | inr out ↦ inr out
    ]

pub set_cases : (s : Set) (f : List ℕ) → SetCases s f
set_cases (Number before) f = number_cases before f
set_cases Stamp f = stamp_cases f
set_cases (Analog selected) f = analog_cases selected f
set_cases Digital f = digital_cases f

-- the fields are in their sets, or one is the first that isn't
pub fields_cases : (sets : ℕ → Set) (parts : List (List ℕ)) (n : ℕ) → AreIn sets parts n ⊎ ((i : ℕ) × (kind : Kind) × IsFirstOut sets n parts i kind)
fields_cases sets parts zero = inl (λ j lt. absurd (omega (arith, lt)))
fields_cases sets parts (suc n) =
    elim (fields_cases sets parts n) [
      | inr out ↦ inr (out.0, out.1, record { within = omega (arith, out.2.within); left = out.2.left; here = out.2.here })
      | inl so ↦ elim (set_cases (sets n) (get_or parts n [])) [
        | inr out ↦ inr (n, out.0, record { within = omega arith; left = so; here = out.1 })
        | inl is ↦ inl (λ j lt.
            elim (cases_lt j n) [
              | inl less ↦ so j less
              | inr more ↦ let same : n ≡ j = omega (arith, lt, more) in subst (λ (k : ℕ). IsIn (sets k) (get_or parts k [])) same is
            ])
      ]
    ]
