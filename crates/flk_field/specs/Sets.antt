-- The sets of the fields of a configuration's lines (IEEE C37.111-1999, clause 5.3): the set of a field, the kind of a
-- field that isn't in its set, and a line against a row of sets, one for each field from the left.
use Rattle.std.specs.Prelude.{◌≡◌, ◌≢◌, ℕ, ◌+◌, ◌-◌, ◌^◌, ◌<◌, ◌≤◌, ◌⊎◌, Bool, false, List, [], ◌∷◌, length, get_or, codes, ℤ}
use Rattle.std.specs.List.{list_all}
use Rattle.flk_num.specs.declared.rate.Rate.{Rate}
use Rattle.flk_text.specs.Decimal.{IsDecimal, IsForm}
use Rattle.flk_text.specs.WholeNumber.{IsWholeForm}
use Rattle.flk_field.specs.Dates.{IsDateForm, IsDateOf, IsTimeForm, IsTimeOf}
use Rattle.flk_field.specs.Values.{is_text_byte, IsText, IsWholeFrom, EndsIn, IsCounted, IsDecimalOrZero, IsFrequency, IsRate, IsSide, IsBit, IsFormWord}
use Rattle.flk_field.specs.declared.form.Form.{Form}
use Rattle.flk_field.specs.declared.kind.Kind.{Kind}
use Rattle.flk_field.specs.declared.kind.Kind.TheVariants as kinds

-- the sets of the table
pub data Set : Type 0 where
  Text : Set
  Revision : Set
  Total : Set
  Counted : (capital least most : ℕ) → Set
  Position : ℕ → Set
  Decimal : Set
  DecimalOrZero : Set
  Side : Set
  Bit : Set
  Frequency : Set
  OneRate : Set
  SamplingRate : Set
  SampleCount : Set
  Date : Set
  Time : Set
  FormWord : Set

-- the field is in the set
unfoldable pub IsIn : Set → List ℕ → Type 0
IsIn Text f = IsText f
IsIn Revision f = f ≡ codes "1999"
IsIn Total f = (n : ℕ) × IsWholeFrom 1 512 f n
IsIn (Counted capital least most) f = (n : ℕ) × IsCounted capital least most f n
IsIn (Position k) f = (n : ℕ) × IsWholeFrom k k f n
IsIn Decimal f = (z : ℤ) × IsDecimal f z
IsIn DecimalOrZero f = (z : ℤ) × IsDecimalOrZero f z
IsIn Side f = (b : ℕ) × IsSide f b
IsIn Bit f = (b : Bool) × IsBit f b
IsIn Frequency f = (z : ℤ) × IsFrequency f z
IsIn OneRate f = (n : ℕ) × IsWholeFrom 1 1 f n
IsIn SamplingRate f = (rate : Rate) × IsRate f rate
IsIn SampleCount f = (n : ℕ) × IsWholeFrom 1 (2 ^ 32 - 1) f n
IsIn Date f = (year : ℤ) × (month : ℕ) × (day : ℕ) × IsDateOf f year month day
IsIn Time f = (hour : ℕ) × (minute : ℕ) × (second : ℕ) × (nanos : ℕ) × IsTimeOf f hour minute second nanos
IsIn FormWord f = (form : Form) × IsFormWord f form

-- no whole number: it isn't of the form, or it is and isn't from the least to the most, which is of the second kind
abbrev pub NoWhole : (outside : Kind) → (least most : ℕ) → List ℕ → Kind → Type 0
NoWhole outside least most f kind =
    ((kind ≡ kinds.Number) × (IsWholeForm f → ⊥))
    ⊎ ((kind ≡ outside) × IsWholeForm f × ((n : ℕ) → IsWholeFrom least most f n → ⊥))

-- the field isn't in the set, and its fault is of this kind
unfoldable pub Refuses : Set → List ℕ → Kind → Type 0
Refuses Text f kind =
    ((kind ≡ kinds.Length) × (64 < length f))
    ⊎ ((kind ≡ kinds.Word) × (length f ≤ 64) × (list_all is_text_byte f ≡ false))
Refuses Revision f kind = (kind ≡ kinds.Revision) × (f ≢ codes "1999")
Refuses Total f kind = NoWhole kinds.Range 1 512 f kind
Refuses (Counted capital least most) f kind =
    ((kind ≡ kinds.Word) × ((front : List ℕ) → EndsIn capital f front → ⊥))
    ⊎ ((front : List ℕ) × EndsIn capital f front × NoWhole kinds.Range least most front kind)
Refuses (Position k) f kind = NoWhole kinds.Range k k f kind
Refuses Decimal f kind =
    ((kind ≡ kinds.Number) × (IsForm f → ⊥)) ⊎ ((kind ≡ kinds.Range) × IsForm f × ((z : ℤ) → IsDecimal f z → ⊥))
Refuses DecimalOrZero f kind =
    ((kind ≡ kinds.Number) × (f ≢ []) × (IsForm f → ⊥))
    ⊎ ((kind ≡ kinds.Range) × (f ≢ []) × IsForm f × ((z : ℤ) → IsDecimal f z → ⊥))
Refuses Side f kind = (kind ≡ kinds.Word) × ((b : ℕ) → IsSide f b → ⊥)
Refuses Bit f kind = NoWhole kinds.Range 0 1 f kind
Refuses Frequency f kind =
    ((kind ≡ kinds.Number) × (IsForm f → ⊥)) ⊎ ((kind ≡ kinds.Range) × IsForm f × ((z : ℤ) → IsFrequency f z → ⊥))
Refuses OneRate f kind = NoWhole kinds.Rates 1 1 f kind
Refuses SamplingRate f kind =
    ((kind ≡ kinds.Number) × (IsForm f → ⊥)) ⊎ ((kind ≡ kinds.Rates) × IsForm f × ((rate : Rate) → IsRate f rate → ⊥))
Refuses SampleCount f kind = NoWhole kinds.Range 1 (2 ^ 32 - 1) f kind
Refuses Date f kind =
    ((kind ≡ kinds.Number) × (IsDateForm f → ⊥))
    ⊎ ((kind ≡ kinds.Range) × IsDateForm f × ((year : ℤ) → (month day : ℕ) → IsDateOf f year month day → ⊥))
Refuses Time f kind =
    ((kind ≡ kinds.Number) × (IsTimeForm f → ⊥))
    ⊎ ((kind ≡ kinds.Range) × IsTimeForm f × ((hour minute second nanos : ℕ) → IsTimeOf f hour minute second nanos → ⊥))
Refuses FormWord f kind = (kind ≡ kinds.Word) × ((form : Form) → IsFormWord f form → ⊥)

-- ---- a line against its row

-- the field at a place, from 1
abbrev pub at : List (List ℕ) → ℕ → List ℕ
at fields place = get_or fields (place - 1) []

-- the first field from the left, from a place on, that isn't in its set
abbrev pub FaultFrom : (from : ℕ) → List Set → List (List ℕ) → (place : ℕ) → Kind → Type 0
FaultFrom from [] fields place kind = ⊥
FaultFrom from (s ∷ ss) fields place kind =
    ((place ≡ from) × Refuses s (at fields from) kind)
    ⊎ (IsIn s (at fields from) × FaultFrom (from + 1) ss fields place kind)

-- the count of fields comes first, and then the fields from the left
abbrev pub LineFault : List Set → List (List ℕ) → (place : ℕ) → Kind → Type 0
LineFault sets fields place kind =
    ((length fields ≢ length sets) × (place ≡ 0) × (kind ≡ kinds.Fields))
    ⊎ ((length fields ≡ length sets) × FaultFrom 1 sets fields place kind)

-- each field from a place on is in its set
abbrev pub InFrom : (from : ℕ) → List Set → List (List ℕ) → Type 0
InFrom from [] fields = Unit {0}
InFrom from (s ∷ ss) fields = IsIn s (at fields from) × InFrom (from + 1) ss fields

abbrev pub IsGoodLine : List Set → List (List ℕ) → Type 0
IsGoodLine sets fields = (length fields ≡ length sets) × InFrom 1 sets fields
