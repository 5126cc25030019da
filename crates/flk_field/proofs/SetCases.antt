-- A field is in its set, or is refused with a kind.
use Rattle.std.proofs.Common.{◌≡◌, ◌≢◌, ◌⊎◌, ℕ, zero, suc, ◌+◌, ◌-◌, ◌*◌, ◌^◌, ◌≤ℤ◌, Bool, true, false, List, [], ◌∷◌, ◌++◌, length, length-append, get_or, codes, Option, Some, None, refl, sym, ap, subst, ◌∙◌, arith, inl, inr, ℤ, pos, negsuc}
use Rattle.std.specs.List.{list_all}
use Rattle.std.specs.Str.{bytes_eq, str_eq_ignore_ascii_case}
use Rattle.std.proofs.lemmas.Int.{ints}
use Rattle.std.proofs.lemmas.Bool.{cases_lt, cases_eq, cases_Bool, true≢false}
use Rattle.std.proofs.lemmas.Slice.Eq.{bytes_eq-Decides}
use Rattle.std.proofs.Math.Seq.{get_or-append_seam}
use Rattle.jiff.specs.Words.{IsDate, days_in_month}
use Rattle.flk_num.specs.declared.rate.Rate.TheVariants.{R2400, R4800}
use Rattle.flk_text.specs.Decimal.{IsDecimal}
use Rattle.flk_text.specs.WholeNumber.{IsWholeValue}
use Rattle.flk_text.proofs.TextCases.{decimal_cases, whole_cases}
use Rattle.flk_field.specs.Values.{is_text_byte, IsWholeFrom, EndsIn, rate_units, IsSide, IsFormWord, IsBit}
use Rattle.flk_field.specs.DateParts.{DateNumbers, TimeNumbers, date_of, time_of}
use Rattle.flk_field.specs.Sets.{Set, Text, Revision, Total, Counted, Position, Decimal, DecimalOrZero, Side, Bit, Frequency, OneRate, SamplingRate, SampleCount, Date, Time, FormWord, IsIn, Refuses, NoWhole}
use Rattle.flk_field.specs.declared.kind.Kind.{Kind}
use Rattle.flk_field.specs.declared.kind.Kind.TheVariants as kinds
use Rattle.flk_field.specs.declared.form.Form.{Form}
use Rattle.flk_field.specs.declared.form.Form.TheVariants.{Ascii, Binary}
use Rattle.flk_field.proofs.FieldJudges.{whole_form, whole_outside, whole_far, decimal_form, not_above, no_rate}
use Rattle.flk_field.proofs.DateJudges.{no_date, no_time, date_in, date_out, time_in, time_out}

abbrev pub SetCases : Set → List ℕ → Type 0
SetCases s f = IsIn s f ⊎ ((kind : Kind) × Refuses s f kind)

-- ---- texts and words

text_cases : (f : List ℕ) → SetCases Text f
unfolding IsIn Refuses
text_cases f =
    elim (cases_lt 64 (length f)) [
      | inl long ↦ inr (kinds.Length, inl (refl, long))
      | inr few ↦ elim (cases_Bool (list_all is_text_byte f)) [
        | inl plain ↦ inl (record { few = few; plain = plain })
        | inr other ↦ inr (kinds.Word, inr (refl, few, other))
      ]
    ]

pub same_text : (xs ys : List ℕ) → (xs ≡ ys) ⊎ (xs ≢ ys)
same_text xs ys =
    elim (cases_Bool (bytes_eq xs ys)) [
      | inl same ↦ inl ((bytes_eq-Decides xs ys).0 same)
      | inr other ↦ inr (λ e. true≢false (sym ((bytes_eq-Decides xs ys).1 e) ∙ other))
    ]

revision_cases : (f : List ℕ) → SetCases Revision f
unfolding IsIn Refuses
revision_cases f =
    elim (same_text f (codes "1999")) [
      | inl same ↦ inl same
      | inr other ↦ inr (kinds.Revision, (refl, other))
    ]

side_of : (b : ℕ) → IsSide (b ∷ []) b ⊎ ((c : ℕ) → IsSide (b ∷ []) c → ⊥)
side_of b =
    elim (cases_eq b 80) [
      | inl e ↦ inl (record { is = refl; letter = inl e })
      | inr p ↦ elim (cases_eq b 112) [
        | inl e ↦ inl (record { is = refl; letter = inr (inl e) })
        | inr q ↦ elim (cases_eq b 83) [
          | inl e ↦ inl (record { is = refl; letter = inr (inr (inl e)) })
          | inr r ↦ elim (cases_eq b 115) [
            | inl e ↦ inl (record { is = refl; letter = inr (inr (inr e)) })
            | inr s ↦ inr (λ c is.
                let same : b ≡ c = ap (λ (x : List ℕ). get_or x 0 0) is.is in
                elim is.letter [
                  | inl e ↦ p (same ∙ e)
                  | inr (inl e) ↦ q (same ∙ e)
                  | inr (inr (inl e)) ↦ r (same ∙ e)
                  | inr (inr (inr e)) ↦ s (same ∙ e)
                ])
          ]
        ]
      ]
    ]

side_cases : (f : List ℕ) → SetCases Side f
unfolding IsIn Refuses
side_cases [] = inr (kinds.Word, (refl, λ b is. omega (arith, ap length is.is)))
side_cases (b ∷ []) =
    elim (side_of b) [
      | inl is ↦ inl (b, is)
      | inr none ↦ inr (kinds.Word, (refl, none))
    ]
side_cases (b ∷ c ∷ rest) = inr (kinds.Word, (refl, λ d is. omega (arith, ap length is.is)))

no_form : (f : List ℕ) → str_eq_ignore_ascii_case f (codes "ASCII") ≡ false → str_eq_ignore_ascii_case f (codes "BINARY") ≡ false → (form : Form) → IsFormWord f form → ⊥
no_form f a b Ascii is = true≢false (sym is ∙ a)
no_form f a b Binary is = true≢false (sym is ∙ b)

form_cases : (f : List ℕ) → SetCases FormWord f
unfolding IsIn Refuses
form_cases f =
    elim (cases_Bool (str_eq_ignore_ascii_case f (codes "ASCII"))) [
      | inl ascii ↦ inl (Ascii, ascii)
      | inr a ↦ elim (cases_Bool (str_eq_ignore_ascii_case f (codes "BINARY"))) [
        | inl binary ↦ inl (Binary, binary)
        | inr b ↦ inr (kinds.Word, (refl, no_form f a b))
      ]
    ]

-- ---- whole numbers

abbrev pub FromCases : (outside : Kind) → (least most : ℕ) → List ℕ → Type 0
FromCases outside least most f = ((n : ℕ) × IsWholeFrom least most f n) ⊎ ((kind : Kind) × NoWhole outside least most f kind)

value_from : (outside : Kind) (least most : ℕ) (f : List ℕ) (z : ℤ) → IsWholeValue f z → FromCases outside least most f
value_from outside least most f (pos n) v =
    elim (cases_lt n least) [
      | inl below ↦ inr (outside, inr (refl, whole_form f (pos n) v, whole_outside least most f (pos n) v (λ low high. omega (arith, ints, below, low))))
      | inr from ↦ elim (cases_lt most n) [
        | inl above ↦ inr (outside, inr (refl, whole_form f (pos n) v, whole_outside least most f (pos n) v (λ low high. omega (arith, ints, above, high))))
        | inr few ↦ inl (n, record { value = v; at_least = from; at_most = few })
      ]
    ]
value_from outside least most f (negsuc n) v = inr (outside, inr (refl, whole_form f (negsuc n) v, whole_outside least most f (negsuc n) v (λ low high. omega (arith, ints, low))))

pub from_cases : (outside : Kind) (least most : ℕ) (f : List ℕ) → FromCases outside least most f
from_cases outside least most f =
    elim (whole_cases f) [
      | inl v ↦ value_from outside least most f v.0 v.1
      | inr (inl far) ↦ inr (outside, inr (refl, far.0, whole_far least most f far.1))
      | inr (inr no_form) ↦ inr (kinds.Number, inl (refl, no_form))
    ]

pub bit_from : (f : List ℕ) (n : ℕ) → IsWholeFrom 0 1 f n → (b : Bool) × IsBit f b
bit_from f zero is = (false, is)
bit_from f (suc zero) is = (true, is)
bit_from f (suc (suc n)) is = absurd (omega (arith, is.at_most))

bit_cases : (f : List ℕ) → SetCases Bit f
unfolding IsIn Refuses
bit_cases f =
    elim (from_cases kinds.Range 0 1 f) [
      | inl is ↦ inl (bit_from f is.0 is.1)
      | inr out ↦ inr out
    ]

-- ---- counts with a letter

last_cut : (f : List ℕ) → (f ≡ []) ⊎ ((front : List ℕ) × (letter : ℕ) × (f ≡ front ++ letter ∷ []))
last_cut [] = inl refl
last_cut (b ∷ bs) =
    elim (last_cut bs) [
      | inl none ↦ inr ([], b, ap (λ (x : List ℕ). b ∷ x) none)
      | inr cut ↦ inr (b ∷ cut.0, cut.1, ap (λ (x : List ℕ). b ∷ x) cut.2)
    ]

last_is : (front : List ℕ) (letter : ℕ) → get_or (front ++ letter ∷ []) (length (front ++ letter ∷ []) - 1) 0 ≡ letter
last_is front letter =
    let place : length (front ++ letter ∷ []) - 1 ≡ length front = omega (arith, length-append front (letter ∷ [])) in
    ap (λ (n : ℕ). get_or (front ++ letter ∷ []) n 0) place ∙ get_or-append_seam front letter [] 0

same_last : (x y : List ℕ) (a b : ℕ) → x ++ a ∷ [] ≡ y ++ b ∷ [] → a ≡ b
same_last x y a b e = sym (last_is x a) ∙ ap (λ (f : List ℕ). get_or f (length f - 1) 0) e ∙ last_is y b

abbrev EndCases : ℕ → List ℕ → Type 0
EndCases capital f = ((front : List ℕ) × EndsIn capital f front) ⊎ ((front : List ℕ) → EndsIn capital f front → ⊥)

end_by : (capital : ℕ) (f front : List ℕ) (letter : ℕ) → f ≡ front ++ letter ∷ [] → EndCases capital f
end_by capital f front letter cut =
    elim (cases_eq letter capital) [
      | inl same ↦ inl (front, record { letter = letter; is = cut; letter_is = inl same })
      | inr no_capital ↦ elim (cases_eq letter (capital + 32)) [
        | inl same ↦ inl (front, record { letter = letter; is = cut; letter_is = inr same })
        | inr no_small ↦ inr (λ other is.
            let same : letter ≡ is.letter = same_last front other letter is.letter (sym cut ∙ is.is) in
            elim is.letter_is [
              | inl e ↦ no_capital (same ∙ e)
              | inr e ↦ no_small (same ∙ e)
            ])
      ]
    ]

end_cases : (capital : ℕ) (f : List ℕ) → EndCases capital f
end_cases capital f =
    elim (last_cut f) [
      | inl none ↦ inr (λ front is. omega (arith, ap length (sym none ∙ is.is), length-append front (is.letter ∷ [])))
      | inr cut ↦ end_by capital f cut.0 cut.1 cut.2
    ]

counted_cases : (capital least most : ℕ) (f : List ℕ) → SetCases (Counted capital least most) f
unfolding IsIn Refuses
counted_cases capital least most f =
    elim (end_cases capital f) [
      | inr none ↦ inr (kinds.Word, inl (refl, none))
      | inl end ↦ elim (from_cases kinds.Range least most end.0) [
        | inl is ↦ inl (is.0, record { front = end.0; ends = end.1; number = is.1 })
        | inr out ↦ inr (out.0, inr (end.0, end.1, out.1))
      ]
    ]

-- ---- decimals

decimal_set : (f : List ℕ) → SetCases Decimal f
unfolding IsIn Refuses
decimal_set f =
    elim (decimal_cases f) [
      | inl is ↦ inl is
      | inr (inl far) ↦ inr (kinds.Range, inr (refl, far.0, far.1))
      | inr (inr no_form) ↦ inr (kinds.Number, inl (refl, no_form))
    ]

decimal_or_zero_set : (f : List ℕ) → SetCases DecimalOrZero f
unfolding IsIn Refuses
decimal_or_zero_set [] = inl (pos 0, inl (refl, refl))
decimal_or_zero_set (b ∷ bs) =
    let some : b ∷ bs ≢ [] = λ e. omega (arith, ap length e) in
    elim (decimal_cases (b ∷ bs)) [
      | inl is ↦ inl (is.0, inr is.1)
      | inr (inl far) ↦ inr (kinds.Range, inr (refl, some, far.0, far.1))
      | inr (inr no_form) ↦ inr (kinds.Number, inl (refl, some, no_form))
    ]

frequency_by : (f : List ℕ) (z : ℤ) → IsDecimal f z → SetCases Frequency f
unfolding IsIn Refuses
frequency_by f (pos zero) v = inr (kinds.Range, inr (refl, decimal_form f (pos 0) v, not_above f (pos 0) v (omega (arith, ints))))
frequency_by f (pos (suc n)) v = inl (pos (suc n), record { value = v; above = omega (arith, ints) })
frequency_by f (negsuc n) v = inr (kinds.Range, inr (refl, decimal_form f (negsuc n) v, not_above f (negsuc n) v (omega (arith, ints))))

frequency_set : (f : List ℕ) → SetCases Frequency f
unfolding IsIn Refuses
frequency_set f =
    elim (decimal_cases f) [
      | inl is ↦ frequency_by f is.0 is.1
      | inr (inl far) ↦ inr (kinds.Range, inr (refl, far.0, λ z is. far.1 z is.value))
      | inr (inr no_form) ↦ inr (kinds.Number, inl (refl, no_form))
    ]

pub is_whole : (z : ℤ) (n : ℕ) → (z ≡ pos n) ⊎ (z ≢ pos n)
is_whole (negsuc m) n = inr (λ e. cc)
is_whole (pos m) n =
    elim (cases_eq m n) [
      | inl same ↦ inl (ap (λ (k : ℕ). pos k) same)
      | inr other ↦ inr (λ e. other cc)
    ]

rate_by : (f : List ℕ) (z : ℤ) → IsDecimal f z → SetCases SamplingRate f
unfolding IsIn Refuses
rate_by f z v =
    elim (is_whole z (2400 * 10 ^ 24)) [
      | inl same ↦ inl (R2400, subst (IsDecimal f) same v)
      | inr low ↦ elim (is_whole z (4800 * 10 ^ 24)) [
        | inl same ↦ inl (R4800, subst (IsDecimal f) same v)
        | inr high ↦ inr (kinds.Rates, inr (refl, decimal_form f z v, no_rate f z v low high))
      ]
    ]

rate_set : (f : List ℕ) → SetCases SamplingRate f
unfolding IsIn Refuses
rate_set f =
    elim (decimal_cases f) [
      | inl is ↦ rate_by f is.0 is.1
      | inr (inl far) ↦ inr (kinds.Rates, inr (refl, far.0, λ rate. far.1 (rate_units rate)))
      | inr (inr no_form) ↦ inr (kinds.Number, inl (refl, no_form))
    ]

-- ---- dates and times

abbrev Exists : (year month day : ℕ) → Type 0
Exists year month day = (pos 1 ≤ℤ pos year) × IsDate (pos year) (pos month) (pos day)

exists_cases : (year month day : ℕ) → Exists year month day ⊎ (Exists year month day → ⊥)
exists_cases year month day =
    let most = days_in_month (pos year) month in
    elim (cases_lt year 1) [
      | inl low ↦ inr (λ is. omega (arith, ints, low, is.0))
      | inr year_from ↦ elim (cases_lt 9999 year) [
        | inl high ↦ inr (λ is. omega (arith, ints, high, is.1.0.1))
        | inr year_most ↦ elim (cases_lt month 1) [
          | inl low ↦ inr (λ is. omega (arith, ints, low, is.1.1.0))
          | inr month_from ↦ elim (cases_lt 12 month) [
            | inl high ↦ inr (λ is. omega (arith, ints, high, is.1.1.1))
            | inr month_most ↦ elim (cases_lt day 1) [
              | inl low ↦ inr (λ is. omega (arith, ints, low, is.1.2.0))
              | inr day_from ↦ elim (cases_lt most day) [
                | inl high ↦ inr (λ is. omega (arith, ints, high, is.1.2.1))
                | inr day_most ↦ inl (
                  omega (arith, ints, year_from),
                  ((omega (arith, ints), omega (arith, ints, year_most)), (omega (arith, ints, month_from), omega (arith, ints, month_most)), (omega (arith, ints, day_from), omega (arith, ints, day_most))),
                )
              ]
            ]
          ]
        ]
      ]
    ]

date_by : (f : List ℕ) (o : Option DateNumbers) → date_of f ≡ o → SetCases Date f
unfolding IsIn Refuses
date_by f None e = inr (kinds.Number, inl (refl, no_date f e))
date_by f (Some n) e =
    elim (exists_cases n.year n.month n.day) [
      | inl good ↦ inl (pos n.year, n.month, n.day, date_in f n (pos n.year) e refl good)
      | inr bad ↦ inr (kinds.Range, date_out f n (pos n.year) e refl bad)
    ]

time_by : (f : List ℕ) (o : Option TimeNumbers) → time_of f ≡ o → SetCases Time f
unfolding IsIn Refuses
time_by f None e = inr (kinds.Number, inl (refl, no_time f e))
time_by f (Some n) e =
    elim (cases_lt 23 n.hour) [
      | inl late ↦ inr (kinds.Range, time_out f n e (λ day. omega (arith, late, day.0)))
      | inr hour ↦ elim (cases_lt 59 n.minute) [
        | inl late ↦ inr (kinds.Range, time_out f n e (λ day. omega (arith, late, day.1)))
        | inr minute ↦ elim (cases_lt 59 n.second) [
          | inl late ↦ inr (kinds.Range, time_out f n e (λ day. omega (arith, late, day.2)))
          | inr second ↦ inl (n.hour, n.minute, n.second, n.nanos, time_in f n e (hour, minute, second))
        ]
      ]
    ]

-- ---- the sets

total_cases : (f : List ℕ) → SetCases Total f
unfolding IsIn Refuses
total_cases f = from_cases kinds.Range 1 512 f

position_cases : (k : ℕ) (f : List ℕ) → SetCases (Position k) f
unfolding IsIn Refuses
position_cases k f = from_cases kinds.Range k k f

one_rate_cases : (f : List ℕ) → SetCases OneRate f
unfolding IsIn Refuses
one_rate_cases f = from_cases kinds.Rates 1 1 f

sample_count_cases : (f : List ℕ) → SetCases SampleCount f
unfolding IsIn Refuses
sample_count_cases f = from_cases kinds.Range 1 (2 ^ 32 - 1) f

pub set_cases : (s : Set) (f : List ℕ) → SetCases s f
set_cases Text f = text_cases f
set_cases Revision f = revision_cases f
set_cases Total f = total_cases f
set_cases (Counted capital least most) f = counted_cases capital least most f
set_cases (Position k) f = position_cases k f
set_cases Decimal f = decimal_set f
set_cases DecimalOrZero f = decimal_or_zero_set f
set_cases Side f = side_cases f
set_cases Bit f = bit_cases f
set_cases Frequency f = frequency_set f
set_cases OneRate f = one_rate_cases f
set_cases SamplingRate f = rate_set f
set_cases SampleCount f = sample_count_cases f
set_cases Date f = date_by f (date_of f) refl
set_cases Time f = time_by f (time_of f) refl
set_cases FormWord f = form_cases f
