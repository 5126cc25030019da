-- The records that a block holds, from its lists: one of sample numbers, one of time stamps, and one of values for each
-- channel. A block is seen as these records. The contract of a public function names what stands here by way of the
-- block's view.
use Rattle.std.specs.Prelude.{◌≡◌, ◌≢◌, ℕ, ◌≤◌, ◌<◌, pos, false, List, [], length, map, slice_index, slice_index_or, None}
use Rattle.std.specs.List.{range_with_len}
use Rattle.flk_dat.specs.Records.{DataRecord}
use Rattle.flk_dat.specs.declared.columns.Columns.{Columns}

-- the row of these columns: of each its k-th value
abbrev pub row_in : {A : Type 0} → (k : ℕ) → (none : A) → List (List A) → List A
row_in k none columns = map (λ column. slice_index_or column k none) columns

-- the k-th record
abbrev pub row_of : Columns → ℕ → DataRecord
row_of c k = record {
  number = slice_index c.numbers k;
  stamp = slice_index_or c.stamps k None;
  analog = row_in k (pos 0) c.analog.items;
  digital = row_in k false c.digital.items;
}

-- the first records
unfoldable pub rows_of : (count : ℕ) → Columns → List DataRecord
rows_of count c = map (row_of c) (range_with_len 0 count)

-- each column has so many places
abbrev pub HavePlaces : {A : Type 0} → ℕ → List (List A) → Type 0
HavePlaces places columns = (i : ℕ) → i < length columns → length (slice_index_or columns i []) ≡ places

-- each column has a k-th place
abbrev pub HavePlace : {A : Type 0} → (k : ℕ) → List (List A) → Type 0
HavePlace k columns = (i : ℕ) → i < length columns → k < length (slice_index_or columns i [])

-- the lists have room for so many records, of which so many are there
pub record AreLaid (room count : ℕ) (c : Columns) : Type 0 where
  pub within : count ≤ room
  pub numbers : length c.numbers ≡ room
  pub stamps : length c.stamps ≡ room
  pub analog : HavePlaces room c.analog.items
  pub digital : HavePlaces room c.digital.items

-- the columns are as before but for their k-th values
pub record ChangesPlace {A : Type 0} (k : ℕ) (none : A) (old new : List (List A)) : Type 0 where
  pub count : length new ≡ length old
  pub places : (i : ℕ) → length (slice_index_or new i []) ≡ length (slice_index_or old i [])
  pub others : (j : ℕ) → j ≢ k → row_in j none new ≡ row_in j none old

-- no value of another record than the k-th is changed
pub record ChangesRow (k : ℕ) (old new : Columns) : Type 0 where
  pub numbers : new.numbers ≡ old.numbers
  pub stamps : new.stamps ≡ old.stamps
  pub analog : ChangesPlace k (pos 0) old.analog.items new.analog.items
  pub digital : ChangesPlace k false old.digital.items new.digital.items
