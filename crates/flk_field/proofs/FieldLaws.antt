-- A field has one value in its set, and a field that isn't in its set has one kind of fault.
use Rattle.std.proofs.Common.{◌≡◌, ℕ, ◌-◌, ◌^◌, List, [], ◌∷◌, ◌++◌, length, length-append, get_or, take, Bool, true, false, cond, refl, sym, ap, subst, ◌∙◌, arith, inl, inr, ℤ, pos, codes}
use Rattle.std.specs.Str.{str_eq_ignore_ascii_case, str_to_ascii_lowercase}
use Rattle.std.proofs.lemmas.Bool.{true≢false}
use Rattle.std.proofs.lemmas.Slice.Eq.{bytes_eq-Decides}
use Rattle.std.proofs.Math.Seq.{take-append_seam}
use Rattle.flk_text.specs.Numeral.{Numeral, IsNumeral}
use Rattle.flk_text.specs.Decimal.{IsForm}
use Rattle.flk_text.proofs.NumeralLemmas.{decimal_once}
use Rattle.flk_text.proofs.DecimalLaws.{whole_once}
use Rattle.flk_field.specs.Values.{IsWholeFrom, EndsIn, IsCounted, IsDecimalOrZero, IsSide, IsBit, IsFormWord}
use Rattle.flk_field.specs.Sets.{Set, Text, Revision, Total, Counted, Position, Decimal, DecimalOrZero, Side, Bit, Frequency, OneRate, SamplingRate, SampleCount, Date, Time, FormWord, IsIn, Refuses, NoWhole}
use Rattle.flk_field.specs.declared.kind.Kind.{Kind}
use Rattle.flk_field.specs.declared.kind.Kind.TheVariants as kinds
use Rattle.flk_field.specs.declared.form.Form.{Form}
use Rattle.flk_field.specs.declared.form.Form.TheVariants.{Ascii, Binary}
use Rattle.flk_field.proofs.FieldJudges.{whole_form}

-- ---- values

pub whole_from_once : (least most : ℕ) (f : List ℕ) (n m : ℕ) → IsWholeFrom least most f n → IsWholeFrom least most f m → n ≡ m
whole_from_once least most f n m a b = cc (whole_once f (pos n) (pos m) a.value b.value)

pub ends_once : (capital : ℕ) (f x y : List ℕ) → EndsIn capital f x → EndsIn capital f y → x ≡ y
ends_once capital f x y a b =
    let e : x ++ a.letter ∷ [] ≡ y ++ b.letter ∷ [] = sym a.is ∙ b.is in
    let len : length x ≡ length y = omega (arith, ap length e, length-append x (a.letter ∷ []), length-append y (b.letter ∷ [])) in
    sym (take-append_seam x (a.letter ∷ [])) ∙ ap (λ (n : ℕ). take n (x ++ a.letter ∷ [])) len ∙ ap (take (length y)) e ∙ take-append_seam y (b.letter ∷ [])

pub counted_once : (capital least most : ℕ) (f : List ℕ) (n m : ℕ) → IsCounted capital least most f n → IsCounted capital least most f m → n ≡ m
counted_once capital least most f n m a b =
    let front = ends_once capital f a.front b.front a.ends b.ends in
    whole_from_once least most b.front n m (subst (λ (x : List ℕ). IsWholeFrom least most x n) front a.number) b.number

form_of_nothing : (n : Numeral) → IsNumeral [] n → ⊥
form_of_nothing n is =
    let all = ap length is.text_is in
    let one = length-append is.sign (n.whole ++ (is.fraction ++ is.exponent)) in
    let two = length-append n.whole (is.fraction ++ is.exponent) in
    let three = length-append is.fraction is.exponent in
    elim is.fraction_is [
      | inl e ↦ omega (arith, all, one, two, is.some, ap length e.1)
      | inr e ↦ omega (arith, all, one, two, three, ap length e.0)
    ]

no_empty : (f : List ℕ) → f ≡ [] → IsForm f → ⊥
no_empty f e form = form_of_nothing form.0 (subst (λ (x : List ℕ). IsNumeral x form.0) e form.1)

pub decimal_or_zero_once : (f : List ℕ) (y z : ℤ) → IsDecimalOrZero f y → IsDecimalOrZero f z → y ≡ z
decimal_or_zero_once f y z (inl a) (inl b) = a.1 ∙ sym b.1
decimal_or_zero_once f y z (inl a) (inr b) = absurd (no_empty f a.0 (b.numeral, b.spelled))
decimal_or_zero_once f y z (inr a) (inl b) = absurd (no_empty f b.0 (a.numeral, a.spelled))
decimal_or_zero_once f y z (inr a) (inr b) = decimal_once f y z a b

pub side_once : (f : List ℕ) (b c : ℕ) → IsSide f b → IsSide f c → b ≡ c
side_once f b c p q = ap (λ (x : List ℕ). get_or x 0 0) (sym p.is ∙ q.is)

abbrev bit_number : Bool → ℕ
bit_number b = cond b 1 0

bit_of : (b c : Bool) → bit_number b ≡ bit_number c → b ≡ c
bit_of true true e = refl
bit_of true false e = absurd (omega (arith, e))
bit_of false true e = absurd (omega (arith, e))
bit_of false false e = refl

pub bit_once : (f : List ℕ) (b c : Bool) → IsBit f b → IsBit f c → b ≡ c
bit_once f b c p q = bit_of b c (whole_from_once 0 1 f (cond b 1 0) (cond c 1 0) p q)

word_is : (f w : List ℕ) → str_eq_ignore_ascii_case f w ≡ true → str_to_ascii_lowercase f ≡ str_to_ascii_lowercase w
word_is f w e = (bytes_eq-Decides (str_to_ascii_lowercase f) (str_to_ascii_lowercase w)).0 e

two_words : (f : List ℕ) → IsFormWord f Ascii → IsFormWord f Binary → ⊥
two_words f a b =
    let e = sym (word_is f (codes "ASCII") a) ∙ word_is f (codes "BINARY") b in
    absurd (omega (arith, ap length e))

pub form_once : (f : List ℕ) (p q : Form) → IsFormWord f p → IsFormWord f q → p ≡ q
form_once f Ascii Ascii a b = refl
form_once f Ascii Binary a b = absurd (two_words f a b)
form_once f Binary Ascii a b = absurd (two_words f b a)
form_once f Binary Binary a b = refl

-- ---- faults

no_whole : (out : Kind) (least most : ℕ) (f : List ℕ) (n : ℕ) (k : Kind) → IsWholeFrom least most f n → NoWhole out least most f k → ⊥
no_whole out least most f n k is (inl none) = none.1 (whole_form f (pos n) is.value)
no_whole out least most f n k is (inr none) = none.2 n is

one_whole : (out : Kind) (least most : ℕ) (f : List ℕ) (k j : Kind) → NoWhole out least most f k → NoWhole out least most f j → k ≡ j
one_whole out least most f k j (inl a) (inl b) = a.0 ∙ sym b.0
one_whole out least most f k j (inl a) (inr b) = absurd (a.1 b.1)
one_whole out least most f k j (inr a) (inl b) = absurd (b.1 a.1)
one_whole out least most f k j (inr a) (inr b) = a.0 ∙ sym b.0

-- a field in its set isn't refused
pub in_or_out : (s : Set) (f : List ℕ) (k : Kind) → IsIn s f → Refuses s f k → ⊥
unfolding IsIn Refuses
in_or_out Text f k is (inl out) = omega (arith, is.few, out.1)
in_or_out Text f k is (inr out) = true≢false (sym is.plain ∙ out.2)
in_or_out Revision f k is out = out.1 is
in_or_out Total f k is out = no_whole kinds.Range 1 512 f is.0 k is.1 out
in_or_out (Counted c l m) f k is (inl out) = out.1 is.1.front is.1.ends
in_or_out (Counted c l m) f k is (inr out) =
    let front = ends_once c f is.1.front out.0 is.1.ends out.1 in
    no_whole kinds.Range l m out.0 is.0 k (subst (λ (x : List ℕ). IsWholeFrom l m x is.0) front is.1.number) out.2
in_or_out (Position p) f k is out = no_whole kinds.Range p p f is.0 k is.1 out
in_or_out Decimal f k is (inl out) = out.1 (is.1.numeral, is.1.spelled)
in_or_out Decimal f k is (inr out) = out.2 is.0 is.1
in_or_out DecimalOrZero f k (z, inl e) (inl out) = out.1 e.0
in_or_out DecimalOrZero f k (z, inl e) (inr out) = out.1 e.0
in_or_out DecimalOrZero f k (z, inr d) (inl out) = out.2 (d.numeral, d.spelled)
in_or_out DecimalOrZero f k (z, inr d) (inr out) = out.3 z d
in_or_out Side f k is out = out.1 is.0 is.1
in_or_out Bit f k is out = no_whole kinds.Range 0 1 f (cond is.0 1 0) k is.1 out
in_or_out Frequency f k is (inl out) = out.1 (is.1.value.numeral, is.1.value.spelled)
in_or_out Frequency f k is (inr out) = out.2 is.0 is.1
in_or_out OneRate f k is out = no_whole kinds.Rates 1 1 f is.0 k is.1 out
in_or_out SamplingRate f k is (inl out) = out.1 (is.1.numeral, is.1.spelled)
in_or_out SamplingRate f k is (inr out) = out.2 is.0 is.1
in_or_out SampleCount f k is out = no_whole kinds.Range 1 (2 ^ 32 - 1) f is.0 k is.1 out
in_or_out Date f k is (inl out) = out.1 (is.2, is.1, is.3.number, is.3.text)
in_or_out Date f k is (inr out) = out.2 is.0 is.1 is.2 is.3
in_or_out Time f k is (inl out) = out.1 (is.0, is.1, is.2, is.3, is.4.text)
in_or_out Time f k is (inr out) = out.2 is.0 is.1 is.2 is.3 is.4
in_or_out FormWord f k is out = out.1 is.0 is.1

-- a field that is refused has one kind
pub one_kind : (s : Set) (f : List ℕ) (k j : Kind) → Refuses s f k → Refuses s f j → k ≡ j
unfolding Refuses
one_kind Text f k j (inl a) (inl b) = a.0 ∙ sym b.0
one_kind Text f k j (inl a) (inr b) = absurd (omega (arith, a.1, b.1))
one_kind Text f k j (inr a) (inl b) = absurd (omega (arith, a.1, b.1))
one_kind Text f k j (inr a) (inr b) = a.0 ∙ sym b.0
one_kind Revision f k j a b = a.0 ∙ sym b.0
one_kind Total f k j a b = one_whole kinds.Range 1 512 f k j a b
one_kind (Counted c l m) f k j (inl a) (inl b) = a.0 ∙ sym b.0
one_kind (Counted c l m) f k j (inl a) (inr b) = absurd (a.1 b.0 b.1)
one_kind (Counted c l m) f k j (inr a) (inl b) = absurd (b.1 a.0 a.1)
one_kind (Counted c l m) f k j (inr a) (inr b) =
    let front = ends_once c f a.0 b.0 a.1 b.1 in
    one_whole kinds.Range l m b.0 k j (subst (λ (x : List ℕ). NoWhole kinds.Range l m x k) front a.2) b.2
one_kind (Position p) f k j a b = one_whole kinds.Range p p f k j a b
one_kind Decimal f k j (inl a) (inl b) = a.0 ∙ sym b.0
one_kind Decimal f k j (inl a) (inr b) = absurd (a.1 b.1)
one_kind Decimal f k j (inr a) (inl b) = absurd (b.1 a.1)
one_kind Decimal f k j (inr a) (inr b) = a.0 ∙ sym b.0
one_kind DecimalOrZero f k j (inl a) (inl b) = a.0 ∙ sym b.0
one_kind DecimalOrZero f k j (inl a) (inr b) = absurd (a.2 b.2)
one_kind DecimalOrZero f k j (inr a) (inl b) = absurd (b.2 a.2)
one_kind DecimalOrZero f k j (inr a) (inr b) = a.0 ∙ sym b.0
one_kind Side f k j a b = a.0 ∙ sym b.0
one_kind Bit f k j a b = one_whole kinds.Range 0 1 f k j a b
one_kind Frequency f k j (inl a) (inl b) = a.0 ∙ sym b.0
one_kind Frequency f k j (inl a) (inr b) = absurd (a.1 b.1)
one_kind Frequency f k j (inr a) (inl b) = absurd (b.1 a.1)
one_kind Frequency f k j (inr a) (inr b) = a.0 ∙ sym b.0
one_kind OneRate f k j a b = one_whole kinds.Rates 1 1 f k j a b
one_kind SamplingRate f k j (inl a) (inl b) = a.0 ∙ sym b.0
one_kind SamplingRate f k j (inl a) (inr b) = absurd (a.1 b.1)
one_kind SamplingRate f k j (inr a) (inl b) = absurd (b.1 a.1)
one_kind SamplingRate f k j (inr a) (inr b) = a.0 ∙ sym b.0
one_kind SampleCount f k j a b = one_whole kinds.Range 1 (2 ^ 32 - 1) f k j a b
one_kind Date f k j (inl a) (inl b) = a.0 ∙ sym b.0
one_kind Date f k j (inl a) (inr b) = absurd (a.1 b.1)
one_kind Date f k j (inr a) (inl b) = absurd (b.1 a.1)
one_kind Date f k j (inr a) (inr b) = a.0 ∙ sym b.0
one_kind Time f k j (inl a) (inl b) = a.0 ∙ sym b.0
one_kind Time f k j (inl a) (inr b) = absurd (a.1 b.1)
one_kind Time f k j (inr a) (inl b) = absurd (b.1 a.1)
one_kind Time f k j (inr a) (inr b) = a.0 ∙ sym b.0
one_kind FormWord f k j a b = a.0 ∙ sym b.0
