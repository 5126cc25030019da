-- The fields of an ASCII record (IEEE C37.111-1999, clause 6.4): the set of each field, and the kind of a field that
-- isn't in its set. What a whole number is stands in the crate of COMTRADE text.
use Rattle.std.specs.Prelude.{◌≡◌, ◌≢◌, ℕ, ◌⊎◌, Bool, true, List, [], ℤ, pos, negsuc, ◌≤ℤ◌, Option, Some, None}
use Rattle.flk_text.specs.WholeNumber.{IsWholeValue, IsWholeForm}
use Rattle.flk_field.specs.Values.{IsWholeFrom, IsBit}
use Rattle.flk_field.specs.declared.form.Form.TheVariants.{Ascii}
use Rattle.flk_dat.specs.Records.{Follows, missing_value}
use Rattle.flk_dat.specs.declared.kind.Kind.{Kind}
use Rattle.flk_dat.specs.declared.kind.Kind.TheVariants as kinds

-- the greatest sample number and the greatest time stamp
abbrev pub most_number : ℕ
most_number = 4294967295

abbrev pub most_stamp : ℕ
most_stamp = 9999999999

-- a value that an analog field can write: from -99999 to 99999
abbrev pub least_sample : ℤ
least_sample = negsuc 99998

abbrev pub most_sample : ℤ
most_sample = pos 99999

abbrev pub IsSampleValue : ℤ → Type 0
IsSampleValue z = (least_sample ≤ℤ z) × (z ≤ℤ most_sample)

-- a sample number
abbrev pub IsNumber : List ℕ → ℕ → Type 0
IsNumber f n = IsWholeFrom 0 most_number f n

-- a time stamp: nothing, or a whole number
abbrev pub IsStamp : List ℕ → Option ℕ → Type 0
IsStamp f None = f ≡ []
IsStamp f (Some n) = IsWholeFrom 0 most_stamp f n

-- an analog value: a whole number from -99999 to 99999
pub record IsSample (f : List ℕ) (z : ℤ) : Type 0 where
  pub value : IsWholeValue f z
  pub at_least : least_sample ≤ℤ z
  pub at_most : z ≤ℤ most_sample

-- the sets of the fields: a sample number that follows the one before, a time stamp, an analog value, which may be
-- missing only in a channel that isn't selected, and a digital value, 0 or 1
pub data Set : Type 0 where
  Number : (before : Option ℕ) → Set
  Stamp : Set
  Analog : (selected : Bool) → Set
  Digital : Set

-- the value isn't missing in a selected channel
abbrev pub IsThere : (selected : Bool) → ℤ → Type 0
IsThere selected z = selected ≡ true → z ≢ missing_value Ascii

-- the field is in the set
unfoldable pub IsIn : Set → List ℕ → Type 0
IsIn (Number before) f = (n : ℕ) × IsNumber f n × Follows before n
IsIn Stamp f = (s : Option ℕ) × IsStamp f s
IsIn (Analog selected) f = (z : ℤ) × IsSample f z × IsThere selected z
IsIn Digital f = (b : Bool) × IsBit f b

-- no whole number up to the most: it isn't of the form, or it is and its value is out of the set
abbrev pub NoWhole : (most : ℕ) → List ℕ → Kind → Type 0
NoWhole most f kind =
    ((kind ≡ kinds.Number) × (IsWholeForm f → ⊥))
    ⊎ ((kind ≡ kinds.Range) × IsWholeForm f × ((n : ℕ) → IsWholeFrom 0 most f n → ⊥))

-- no analog value
abbrev pub NoSample : List ℕ → Kind → Type 0
NoSample f kind =
    ((kind ≡ kinds.Number) × (IsWholeForm f → ⊥))
    ⊎ ((kind ≡ kinds.Range) × IsWholeForm f × ((z : ℤ) → IsSample f z → ⊥))

-- the field isn't in the set, and its fault is of this kind
unfoldable pub Refuses : Set → List ℕ → Kind → Type 0
Refuses (Number before) f kind = NoWhole most_number f kind
    ⊎ ((kind ≡ kinds.Order) × (n : ℕ) × IsNumber f n × (Follows before n → ⊥))
Refuses Stamp f kind = (f ≢ []) × NoWhole most_stamp f kind
Refuses (Analog selected) f kind = NoSample f kind
    ⊎ ((kind ≡ kinds.Missing) × (selected ≡ true) × IsSample f (missing_value Ascii))
Refuses Digital f kind = NoWhole 1 f kind
