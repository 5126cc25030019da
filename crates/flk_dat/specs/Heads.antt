-- A record as it is read: which bytes are handed on, where its values go, and what a block gains by it. Contracts of
-- private functions cite this file.
use Rattle.std.specs.Prelude.{◌≡◌, ℕ, pos, false, cond, eqb, List, [], ◌∷◌, ◌++◌, length, Option}
use Rattle.flk_text.specs.Lines.{without_cr}
use Rattle.flk_field.specs.declared.form.Form.{Form}
use Rattle.flk_field.specs.declared.form.Form.TheVariants.{Ascii, Binary}
use Rattle.flk_dat.specs.Records.{DataRecord, Rows, Follows, IsPresent}
use Rattle.flk_dat.specs.SampleFields.{Set, Number, Stamp}
use Rattle.flk_dat.specs.AsciiRecords.{IsLine, LineFault}
use Rattle.flk_dat.specs.BinaryRecords.{IsBinary, WholeFault}
use Rattle.flk_dat.specs.Blocks.{row_in, HavePlace}
use Rattle.flk_dat.specs.declared.channels.Channels.{Channels}
use Rattle.flk_dat.specs.declared.columns.Columns.{Columns}
use Rattle.flk_dat.specs.declared.head.Head.{Head}
use Rattle.flk_dat.specs.declared.kind.Kind.{Kind}

-- the record whose number and time stamp are the head, and whose values are the k-th of the columns
abbrev pub headed : Head → (k : ℕ) → Columns → DataRecord
headed h k c = record {
  number = h.number;
  stamp = h.stamp;
  analog = row_in k (pos 0) c.analog.items;
  digital = row_in k false c.digital.items;
}

-- there is a column for each of these channels, and each has a k-th place
pub record HasRow (c : Channels) (k : ℕ) (columns : Columns) : Type 0 where
  pub analog : length columns.analog.items ≡ length c.selected.items
  pub digital : length columns.digital.items ≡ c.digital
  pub analog_places : HavePlace k columns.analog.items
  pub digital_places : HavePlace k columns.digital.items

-- the sets of the first two fields
abbrev pub head_column : Option ℕ → ℕ → Set
head_column before j = cond (eqb j 0) (Number before) Stamp

-- ---- the bytes of a record as a reader hands them on: a line without its LF, or those of a binary record and more

-- they write the record
abbrev pub Writes : Form → Channels → List ℕ → DataRecord → Type 0
Writes Ascii c bytes r = IsLine (length c.selected.items) c.digital (without_cr bytes) r
Writes Binary c bytes r = IsBinary Binary (length c.selected.items) c.digital bytes r

-- they write a record that follows, without a missing value
pub record IsGood (c : Channels) (before : Option ℕ) (bytes : List ℕ) (r : DataRecord) : Type 0 where
  pub writes : Writes c.form c bytes r
  pub follows : Follows before r.number
  pub present : IsPresent c.form c.selected.items r

-- their first fault
abbrev pub FaultOf : Form → Channels → (before : Option ℕ) → List ℕ → (field : ℕ) → Kind → Type 0
FaultOf Ascii c before bytes field kind = LineFault c.selected.items c.digital before (without_cr bytes) field kind
FaultOf Binary c before bytes field kind = WholeFault Binary c.selected.items before bytes field kind

-- ---- the block

-- the block has one record more at its end: the good one of the bytes, of this number
pub record Gains (c : Channels) (last : Option ℕ) (bytes : List ℕ) (before after : Rows) (answer : ℕ) : Type 0 where
  pub given : DataRecord
  pub records : after ≡ record before { records = before.records ++ given ∷ [] }
  pub good : IsGood c last bytes given
  pub number : given.number ≡ answer

-- the block has columns for these channels
pub record HasColumns (c : Channels) (b : Rows) : Type 0 where
  pub analog : b.analog ≡ length c.selected.items
  pub digital : b.digital ≡ c.digital
