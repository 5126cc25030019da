-- What a reader stands for: the bytes that it has taken, and the records that it has given.
use Rattle.std.specs.Prelude.{◌≡◌, ℕ, ◌<◌, List, length, Option, None}
use Rattle.std.specs.List.{count_by}
use Rattle.flk_text.specs.Lines.{is_byte}
use Rattle.flk_dat.specs.Records.{DataRecord, Rows, Layout, last_number}
use Rattle.flk_dat.specs.DataFile.{MayFollow}
use Rattle.flk_dat.specs.Streams.{IsPartOf, HasGiven}
use Rattle.flk_dat.specs.declared.reader.Reader.{Reader}
use Rattle.flk_dat.specs.declared.kind.DatFault.{DatFault}

-- the layout of the records that the reader reads
abbrev pub layout : Reader → Layout
layout r = record {
  form = r.channels.form;
  records = r.records;
  selected = r.channels.selected.items;
  digital = r.channels.digital;
}

-- the fault that the reader keeps
abbrev pub kept_fault : Reader → Option DatFault
kept_fault r = r.fault

-- the reader has given these records and holds the rest of the bytes: less than the next record, or what has come of
-- the tail
pub record HoldsRest (r : Reader) (given : List DataRecord) (rest : List ℕ) : Type 0 where
  pub count : r.given ≡ length given
  pub number : r.before ≡ last_number given
  pub held : length given < r.records → (r.rest ≡ rest) × IsPartOf r.channels.form (layout r) (length given) rest
  pub tail : length given ≡ r.records → (r.tail.bytes ≡ length rest) × (r.tail.marks ≡ count_by (is_byte 26) rest)
      × MayFollow r.channels.form rest

-- the reader has taken these bytes without a fault, and has given these records, which are all that are whole in them
pub record Stands (r : Reader) (taken : List ℕ) (given : List DataRecord) : Type 0 where
  pub going : r.fault ≡ None
  pub rest : List ℕ
  pub has : HasGiven (layout r) taken given rest
  pub holds : HoldsRest r given rest

-- the block has columns for the reader's channels
pub record FitsBlock (r : Reader) (b : Rows) : Type 0 where
  pub analog : b.analog ≡ length r.channels.selected.items
  pub digital : b.digital ≡ r.channels.digital
