-- The records of a data file (IEEE C37.111-1999, clause 6), and what a configuration says of their form.
use Rattle.std.specs.Prelude.{◌≡◌, ◌≢◌, ℕ, ◌+◌, ◌<◌, ◌≤◌, ℤ, pos, negsuc, Bool, true, false, eqb, List, [], ◌∷◌, length, map, slice_index_or, All, Option, Some, None}
use Rattle.std.specs.List.{list_any, range_with_len}
use Rattle.flk_cfg.specs.declared.config.Config.{Config}
use Rattle.flk_field.specs.declared.form.Form.{Form}
use Rattle.flk_field.specs.declared.form.Form.TheVariants.{Ascii, Binary}

-- a record: a sample number, a time stamp or none, and the values of the analog and the digital channels, each in their
-- order
pub record DataRecord : Type 0 where
  pub number : ℕ
  pub stamp : Option ℕ
  pub analog : List ℤ
  pub digital : List Bool

-- what stands for a record that isn't there
abbrev pub no_record : DataRecord
no_record = record { number = 0; stamp = None; analog = []; digital = [] }

-- the k-th record, from 0
abbrev pub record_at : List DataRecord → ℕ → DataRecord
record_at rs k = slice_index_or rs k no_record

-- what a block holds: records of so many analog and digital channels, with room for so many records in all
pub record Rows : Type 0 where
  pub analog : ℕ
  pub digital : ℕ
  pub room : ℕ
  pub records : List DataRecord

-- the record has so many values
pub record HasWidth (analog digital : ℕ) (r : DataRecord) : Type 0 where
  pub analog_count : length r.analog ≡ analog
  pub digital_count : length r.digital ≡ digital

-- the records fit the block
pub record AreRows (b : Rows) : Type 0 where
  pub within : length b.records ≤ b.room
  pub width : All (HasWidth b.analog b.digital) b.records

-- the block was made for the configuration
pub record IsBlockFor (c : Config) (b : Rows) : Type 0 where
  pub analog : b.analog ≡ length c.analog
  pub digital : b.digital ≡ length c.digital

-- ---- the form of the records

-- the form of the file, the number of its records, for each analog channel whether it is selected, and the number of
-- digital channels
pub record Layout : Type 0 where
  pub form : Form
  pub records : ℕ
  pub selected : List Bool
  pub digital : ℕ

-- whether the number is among these
abbrev pub is_among : List ℕ → ℕ → Bool
is_among numbers n = list_any (λ m. eqb m n) numbers

-- for each of so many channels, which count from 1, whether its number is among these
abbrev pub selected_of : (channels : ℕ) → List ℕ → List Bool
selected_of channels numbers = map (λ i. is_among numbers (i + 1)) (range_with_len 0 channels)

-- the layout of a configuration's data, with the channels of these numbers selected; a number of no channel selects
-- nothing
abbrev pub layout_of : Config → List ℕ → Layout
layout_of c numbers = record {
  form = c.form;
  records = c.endsamp;
  selected = selected_of (length c.analog) numbers;
  digital = length c.digital;
}

-- ---- the order of the records

-- the number is the one before plus 1; the first number is free
abbrev pub Follows : Option ℕ → ℕ → Type 0
Follows None n = Unit {0}
Follows (Some m) n = n ≡ m + 1

-- each number is the one before plus 1
abbrev pub AreConsecutive : List DataRecord → Type 0
AreConsecutive rs = (k : ℕ) → k + 1 < length rs → (record_at rs (k + 1)).number ≡ (record_at rs k).number + 1

-- the number of the last record, or None where there is none
abbrev pub last_number : List DataRecord → Option ℕ
last_number [] = None
last_number (r ∷ []) = Some r.number
last_number (r ∷ s ∷ rs) = last_number (s ∷ rs)

-- ---- missing values

-- the value that marks a missing sample
abbrev pub missing_value : Form → ℤ
missing_value Ascii = pos 99999
missing_value Binary = negsuc 32767

-- no value of a selected channel is missing
abbrev pub IsPresent : Form → List Bool → DataRecord → Type 0
IsPresent form selected r = (i : ℕ) → slice_index_or selected i false ≡ true
    → slice_index_or r.analog i (pos 0) ≢ missing_value form

abbrev pub ArePresent : Layout → List DataRecord → Type 0
ArePresent l rs = (k : ℕ) → k < length rs → IsPresent l.form l.selected (record_at rs k)
