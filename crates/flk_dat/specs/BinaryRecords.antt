-- The records of a binary file (IEEE C37.111-1999, clause 6.5): a sample number and a time stamp of four bytes each, a
-- value in two's complement for each analog channel, and a word of two bytes for each 16 digital channels, each with
-- the lowest byte first. How many bytes a value has is the form's. What is said of the form ASCII here is never used.
use Rattle.std.specs.Prelude.{◌≡◌, ◌≢◌, ℕ, ◌+◌, ◌*◌, ◌/◌, ◌%◌, ◌^◌, ◌<◌, ◌≤◌, ◌⊎◌, Bool, true, false, eqb, List, length, drop, slice_index_or, ℤ, pos, Option, Some}
use Rattle.std.specs.Int.{w16, cast_signed}
use Rattle.byteorder.specs.Endian.{little_number}
use Rattle.flk_field.specs.declared.form.Form.{Form}
use Rattle.flk_field.specs.declared.form.Form.TheVariants.{Ascii, Binary}
use Rattle.flk_dat.specs.Records.{DataRecord, Follows, missing_value}
use Rattle.flk_dat.specs.declared.kind.Kind.{Kind}
use Rattle.flk_dat.specs.declared.kind.Kind.TheVariants as kinds

-- the bytes of an analog value
abbrev pub value_width : Form → ℕ
value_width Ascii = 0
value_width Binary = 2

-- the value whose bytes write this number
abbrev pub signed_value : Form → ℕ → ℤ
signed_value Ascii n = pos n
signed_value Binary n = cast_signed w16 n

-- the bytes of a record
abbrev pub record_size : Form → (analog digital : ℕ) → ℕ
record_size form analog digital = 8 + value_width form * analog + 2 * ((digital + 15) / 16)

-- the sample number
unfoldable pub number_of : List ℕ → ℕ
number_of bytes = little_number 4 bytes

-- the time stamp
unfoldable pub stamp_of : List ℕ → ℕ
stamp_of bytes = little_number 4 (drop 4 bytes)

-- the value of the i-th analog channel, from 0
unfoldable pub value_of : Form → List ℕ → ℕ → ℤ
value_of form bytes i = signed_value form (little_number (value_width form) (drop (8 + value_width form * i) bytes))

-- the word of the i-th digital channel, from 0
unfoldable pub word_of : Form → (analog : ℕ) → List ℕ → ℕ → ℕ
word_of form analog bytes i = little_number 2 (drop (8 + value_width form * analog + 2 * (i / 16)) bytes)

-- the value of the i-th digital channel: the lowest-numbered channel of a word is its lowest bit
abbrev pub bit_of : Form → (analog : ℕ) → List ℕ → ℕ → Bool
bit_of form analog bytes i = eqb (word_of form analog bytes i / 2 ^ (i % 16) % 2) 1

-- the bytes begin with the record
pub record IsBinary (form : Form) (analog digital : ℕ) (bytes : List ℕ) (r : DataRecord) : Type 0 where
  pub whole : record_size form analog digital ≤ length bytes
  pub number : r.number ≡ number_of bytes
  pub stamp : r.stamp ≡ Some (stamp_of bytes)
  pub analog_count : length r.analog ≡ analog
  pub analog_values : (i : ℕ) → i < analog → slice_index_or r.analog i (pos 0) ≡ value_of form bytes i
  pub digital_count : length r.digital ≡ digital
  pub digital_values : (i : ℕ) → i < digital → slice_index_or r.digital i false ≡ bit_of form analog bytes i

-- the i-th analog channel, from 0, is the first of the selected ones whose value is missing
pub record IsFirstMissing (form : Form) (selected : List Bool) (bytes : List ℕ) (i : ℕ) : Type 0 where
  pub within : i < length selected
  pub left : (j : ℕ) → j < i → slice_index_or selected j false ≡ true → value_of form bytes j ≢ missing_value form
  pub chosen : slice_index_or selected i false ≡ true
  pub missing : value_of form bytes i ≡ missing_value form

-- the fault of a record that is whole: its number, and then its values from the left; the fields count from 1
abbrev pub WholeFault : Form → (selected : List Bool) → (before : Option ℕ) → List ℕ → (field : ℕ) → Kind → Type 0
WholeFault form selected before bytes field kind =
    ((Follows before (number_of bytes) → ⊥) × (field ≡ 1) × (kind ≡ kinds.Order))
    ⊎ (Follows before (number_of bytes) × (i : ℕ) × (field ≡ i + 3) × IsFirstMissing form selected bytes i
    × (kind ≡ kinds.Missing))

-- a record that isn't whole is missing
abbrev pub BinaryFault : Form → (selected : List Bool) → (digital : ℕ) → (before : Option ℕ) → List ℕ → (field : ℕ)
    → Kind → Type 0
BinaryFault form selected digital before bytes field kind =
    ((length bytes < record_size form (length selected) digital) × (field ≡ 0) × (kind ≡ kinds.Short))
    ⊎ ((record_size form (length selected) digital ≤ length bytes) × WholeFault form selected before bytes field kind)
