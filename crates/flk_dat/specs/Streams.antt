-- A data file that comes in pieces: what the bytes taken so far give, whatever follows them.
use Rattle.std.specs.Prelude.{◌≡◌, ℕ, ◌+◌, ◌<◌, ◌≤◌, ◌⊎◌, Bool, true, cond, not, eqb, List, [], ◌∷◌, ◌++◌, length, drop, slice_index}
use Rattle.std.specs.List.{list_all}
use Rattle.flk_text.specs.Lines.{is_byte, ends_last_line}
use Rattle.flk_field.specs.declared.form.Form.{Form}
use Rattle.flk_field.specs.declared.form.Form.TheVariants.{Ascii, Binary}
use Rattle.flk_dat.specs.Kinds.{data_kind_number}
use Rattle.flk_dat.specs.Records.{DataRecord, Rows, Layout, ArePresent}
use Rattle.flk_dat.specs.AsciiRecords.{longest_line}
use Rattle.flk_dat.specs.BinaryRecords.{record_size}
use Rattle.flk_dat.specs.DataFile.{after_records, AreFirst, IsFaultAfter}
use Rattle.flk_dat.specs.declared.kind.Kind.{Kind}
use Rattle.flk_dat.specs.declared.kind.DatFault.{DatFault}

-- a line ends with an LF, and the last record's line before a byte 1A too
abbrev pub ends_line : (last : Bool) → ℕ → Bool
ends_line last b = cond last (ends_last_line b) (is_byte 10 b)

-- no line ends in the bytes
abbrev pub IsUnended : (last : Bool) → List ℕ → Type 0
IsUnended last bytes = list_all (λ b. not (ends_line last b)) bytes ≡ true

-- the bytes may begin a line that isn't too long: a CR behind the longest line may belong to its end
abbrev pub MayBegin : List ℕ → Type 0
MayBegin bytes = (length bytes ≤ longest_line)
    ⊎ ((length bytes ≡ longest_line + 1) × (slice_index bytes longest_line ≡ 13))

-- less than the k-th record
abbrev pub IsPartOf : Form → Layout → ℕ → List ℕ → Type 0
IsPartOf Ascii l k bytes = IsUnended (eqb (k + 1) l.records) bytes × MayBegin bytes
IsPartOf Binary l k bytes = length bytes < record_size Binary (length l.selected) l.digital

-- the bytes taken are those of the records given, and then the rest, whatever follows them
pub record HasGiven (l : Layout) (taken : List ℕ) (given : List DataRecord) (rest : List ℕ) : Type 0 where
  pub first : (more : List ℕ) → AreFirst l (taken ++ more) given
  pub present : ArePresent l given
  pub left : (more : List ℕ) → after_records l (length given) (taken ++ more) ≡ rest ++ more

-- whatever follows the bytes, they begin with the records given, which are good, and then comes this fault
pub record HasFault (l : Layout) (bytes : List ℕ) (given : List DataRecord) (f : DatFault) : Type 0 where
  pub row : f.row ≡ length given + 1
  pub kind : Kind
  pub number : f.kind ≡ data_kind_number kind
  pub sure : (more : List ℕ) → IsFaultAfter l (bytes ++ more) given f.field kind

-- the bytes as a whole input have the fault behind the records given
pub record EndsInFault (l : Layout) (bytes : List ℕ) (given : List DataRecord) (f : DatFault) : Type 0 where
  pub row : f.row ≡ length given + 1
  pub kind : Kind
  pub number : f.kind ≡ data_kind_number kind
  pub here : IsFaultAfter l bytes given f.field kind

-- the last of the bytes makes the k-th record whole: before it less than that record was there
pub record EndsRecord (l : Layout) (k : ℕ) (bytes : List ℕ) : Type 0 where
  pub front : List ℕ
  pub byte : ℕ
  pub is : bytes ≡ front ++ byte ∷ []
  pub part : IsPartOf l.form l k (after_records l k front)

-- the records that a block has at its end since it was as it was before
abbrev pub added : (before after : Rows) → List DataRecord
added before after = drop (length before.records) after.records

-- the block is as before, with records at its end
pub record Grows (before after : Rows) : Type 0 where
  pub analog : after.analog ≡ before.analog
  pub digital : after.digital ≡ before.digital
  pub room : after.room ≡ before.room
  pub records : after.records ≡ before.records ++ added before after
