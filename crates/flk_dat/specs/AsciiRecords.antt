-- The records of an ASCII file (IEEE C37.111-1999, clause 6.4), each a line of fields between commas.
use Rattle.std.specs.Prelude.{◌≡◌, ◌≢◌, ℕ, ◌+◌, ◌-◌, ◌<◌, ◌≤◌, ◌⊎◌, Bool, true, false, cond, eqb, ltb, List, [], length, get_or, slice_index_or, pos, Option}
use Rattle.std.specs.List.{list_all}
use Rattle.flk_text.specs.Lines.{is_byte}
use Rattle.flk_text.specs.Fields.{fields}
use Rattle.flk_field.specs.Values.{IsBit}
use Rattle.flk_dat.specs.Records.{DataRecord}
use Rattle.flk_dat.specs.SampleFields.{Set, Number, Stamp, Analog, Digital, IsIn, Refuses, IsNumber, IsStamp, IsSample}
use Rattle.flk_dat.specs.declared.kind.Kind.{Kind}
use Rattle.flk_dat.specs.declared.kind.Kind.TheVariants as kinds

-- the most bytes of a line without its end
abbrev pub longest_line : ℕ
longest_line = 16384

-- the number of fields: a sample number, a time stamp, and the values of the channels
abbrev pub field_total : (analog digital : ℕ) → ℕ
field_total analog digital = 2 + analog + digital

-- ---- the values of a line

-- the fields write the record
pub record IsRow (analog digital : ℕ) (parts : List (List ℕ)) (r : DataRecord) : Type 0 where
  pub count : length parts ≡ field_total analog digital
  pub number : IsNumber (get_or parts 0 []) r.number
  pub stamp : IsStamp (get_or parts 1 []) r.stamp
  pub analog_count : length r.analog ≡ analog
  pub analog_values : (i : ℕ) → i < analog → IsSample (get_or parts (2 + i) []) (slice_index_or r.analog i (pos 0))
  pub digital_count : length r.digital ≡ digital
  pub digital_values : (i : ℕ) → i < digital
      → IsBit (get_or parts (2 + analog + i) []) (slice_index_or r.digital i false)

-- the line writes the record
pub record IsLine (analog digital : ℕ) (line : List ℕ) (r : DataRecord) : Type 0 where
  pub short : length line ≤ longest_line
  pub row : IsRow analog digital (fields line) r

-- ---- the fault of a line

-- the set of the j-th field, from 0
unfoldable pub column : (selected : List Bool) → (before : Option ℕ) → ℕ → Set
column selected before j =
    cond (eqb j 0) (Number before) (cond (eqb j 1) Stamp
    (cond (ltb j (2 + length selected)) (Analog (slice_index_or selected (j - 2) false)) Digital))

-- of so many fields the i-th, from 0, is the first from the left that isn't in its set
pub record IsFirstOut (sets : ℕ → Set) (count : ℕ) (parts : List (List ℕ)) (i : ℕ) (kind : Kind) : Type 0 where
  pub within : i < count
  pub left : (j : ℕ) → j < i → IsIn (sets j) (get_or parts j [])
  pub here : Refuses (sets i) (get_or parts i []) kind

-- the count of fields comes first, and then the fields from the left, which count from 1
abbrev pub RowFault : (selected : List Bool) → (digital : ℕ) → (before : Option ℕ) → List (List ℕ) → (field : ℕ) → Kind
    → Type 0
RowFault selected digital before parts field kind =
    ((length parts ≢ field_total (length selected) digital) × (field ≡ 0) × (kind ≡ kinds.Fields))
    ⊎ ((length parts ≡ field_total (length selected) digital)
    × (i : ℕ) × (field ≡ i + 1)
    × IsFirstOut (column selected before) (field_total (length selected) digital) parts i kind)

-- the length of the line comes before its fields
abbrev pub LineFault : (selected : List Bool) → (digital : ℕ) → (before : Option ℕ) → List ℕ → (field : ℕ) → Kind
    → Type 0
LineFault selected digital before line field kind =
    ((longest_line < length line) × (field ≡ 0) × (kind ≡ kinds.Length))
    ⊎ ((length line ≤ longest_line) × RowFault selected digital before (fields line) field kind)

-- nothing is there but spaces, no more than a line may have
pub record IsBlank (bytes : List ℕ) : Type 0 where
  pub short : length bytes ≤ longest_line
  pub spaces : list_all (is_byte 32) bytes ≡ true
