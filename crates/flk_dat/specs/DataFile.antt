-- The data file (IEEE C37.111-1999, clause 6): which bytes write which records, and the first fault of bytes that write
-- none. A record is counted from 0 here, and from 1 where it is named.
use Rattle.std.specs.Prelude.{◌≡◌, ℕ, ◌+◌, ◌-◌, ◌*◌, ◌<◌, ◌≤◌, ◌⊎◌, cond, eqb, List, [], length, drop, Option}
use Rattle.flk_text.specs.Lines.{line_of, last_line_of, tail_of}
use Rattle.flk_text.specs.Tail.{IsTail}
use Rattle.flk_cfg.specs.Places.{after_lines}
use Rattle.flk_field.specs.declared.form.Form.{Form}
use Rattle.flk_field.specs.declared.form.Form.TheVariants.{Ascii, Binary}
use Rattle.flk_dat.specs.Records.{DataRecord, record_at, Layout, AreConsecutive, last_number, ArePresent}
use Rattle.flk_dat.specs.AsciiRecords.{IsLine, LineFault, IsBlank}
use Rattle.flk_dat.specs.BinaryRecords.{record_size, IsBinary, BinaryFault}
use Rattle.flk_dat.specs.declared.kind.Kind.{Kind}
use Rattle.flk_dat.specs.declared.kind.Kind.TheVariants as kinds

-- ---- where a record begins

-- the most bytes of a tail
abbrev pub longest_tail : ℕ
longest_tail = 65536

-- of an ASCII file what follows the first k lines; what follows its last record is the tail
abbrev pub after_rows : (records k : ℕ) → List ℕ → List ℕ
after_rows records k bytes = cond (eqb k records) (tail_of (after_lines (k - 1) bytes)) (after_lines k bytes)

-- what follows the first k records
abbrev pub after_of : Form → Layout → ℕ → List ℕ → List ℕ
after_of Ascii l k bytes = after_rows l.records k bytes
after_of Binary l k bytes = drop (record_size Binary (length l.selected) l.digital * k) bytes

unfoldable pub after_records : Layout → ℕ → List ℕ → List ℕ
after_records l k bytes = after_of l.form l k bytes

-- the line at the front of what follows the first k records: the last record's line ends as the last line of a file
-- does
abbrev pub line_at : (records k : ℕ) → List ℕ → List ℕ
line_at records k rest = cond (eqb (k + 1) records) (last_line_of rest) (line_of rest)

-- ---- the records

-- the k-th record stands at the front of these bytes
abbrev pub StandsInFront : Form → Layout → ℕ → List ℕ → DataRecord → Type 0
StandsInFront Ascii l k rest r = IsLine (length l.selected) l.digital (line_at l.records k rest) r
StandsInFront Binary l k rest r = IsBinary Binary (length l.selected) l.digital rest r

unfoldable pub IsRecord : Layout → ℕ → List ℕ → DataRecord → Type 0
IsRecord l k rest r = StandsInFront l.form l k rest r

-- these bytes may follow the last record: a tail in an ASCII file, and nothing in a BINARY one
abbrev pub MayFollow : Form → List ℕ → Type 0
MayFollow Ascii rest = IsTail rest × (length rest ≤ longest_tail)
MayFollow Binary rest = rest ≡ []

-- the bytes begin with these records
pub record AreFirst (l : Layout) (bytes : List ℕ) (rs : List DataRecord) : Type 0 where
  pub within : length rs ≤ l.records
  pub each : (k : ℕ) → k < length rs → IsRecord l k (after_records l k bytes) (record_at rs k)
  pub order : AreConsecutive rs

-- the bytes of a file are these records, with what may follow the last one
pub record IsFile (l : Layout) (bytes : List ℕ) (rs : List DataRecord) : Type 0 where
  pub count : length rs ≡ l.records
  pub first : AreFirst l bytes rs
  pub end : MayFollow l.form (after_records l l.records bytes)

-- the file is accepted: no value of a selected channel is missing
pub record IsAccepted (l : Layout) (bytes : List ℕ) (rs : List DataRecord) : Type 0 where
  pub file : IsFile l bytes rs
  pub present : ArePresent l rs

-- ---- the first fault

-- the k-th record isn't at the front of these bytes, or isn't good
abbrev pub FaultInFront : Form → Layout → ℕ → (before : Option ℕ) → List ℕ → (field : ℕ) → Kind → Type 0
FaultInFront Ascii l k before rest field kind =
    (IsBlank rest × (field ≡ 0) × (kind ≡ kinds.Short))
    ⊎ ((IsBlank rest → ⊥) × LineFault l.selected l.digital before (line_at l.records k rest) field kind)
FaultInFront Binary l k before rest field kind = BinaryFault Binary l.selected l.digital before rest field kind

unfoldable pub RecordFault : Layout → ℕ → (before : Option ℕ) → List ℕ → (field : ℕ) → Kind → Type 0
RecordFault l k before rest field kind = FaultInFront l.form l k before rest field kind

-- what follows the last record may not
abbrev pub EndFault : Layout → List ℕ → (field : ℕ) → Kind → Type 0
EndFault l rest field kind = (field ≡ 0) × (kind ≡ kinds.Long) × (MayFollow l.form rest → ⊥)

-- the bytes begin with these good records, and then comes the fault
pub record IsFaultAfter (l : Layout) (bytes : List ℕ) (rs : List DataRecord) (field : ℕ) (kind : Kind) : Type 0 where
  pub first : AreFirst l bytes rs
  pub present : ArePresent l rs
  pub here : ((length rs < l.records)
      × RecordFault l (length rs) (last_number rs) (after_records l (length rs) bytes) field kind)
      ⊎ ((length rs ≡ l.records) × EndFault l (after_records l l.records bytes) field kind)

-- the first record that isn't there or isn't good, by its number from 1, its first faulty field, and the kind of the
-- fault
abbrev pub IsFirstDataFault : Layout → List ℕ → (row field : ℕ) → Kind → Type 0
IsFirstDataFault l bytes row field kind = (rs : List DataRecord) × (row ≡ length rs + 1)
    × IsFaultAfter l bytes rs field kind
