-- A data file that is read block by block: what has come of its bytes so far, and what one more block tells.
use Rattle.std.specs.Prelude.{◌≡◌, ℕ, ◌^◌, ◌<◌, ◌≤◌, List, ◌++◌, length, slice_range, Option, Result, IfOk, OnOk}
use Rattle.std.specs.Io.KnownBytes.{Consumes}
use Rattle.flk_io.specs.Causes.{TakesAll, HasCause}
use Rattle.flk_io.specs.Told.{ShelfTold, OnlyReads, ReadsUnder}
use Rattle.flk_dat.specs.Records.{DataRecord, Rows, Layout, ArePresent}
use Rattle.flk_dat.specs.DataFile.{AreFirst, IsAccepted}
use Rattle.flk_dat.specs.Streams.{EndsInFault}
use Rattle.flk_dat.specs.States.{layout, Stands, FitsBlock as Fits}
use Rattle.flk_top.specs.Told.{MayHold}
use Rattle.flk_top.specs.declared.blocks.Blocks.{Blocks}
use Rattle.flk_top.specs.declared.blocks.Progress.{Progress}
use Rattle.flk_top.specs.declared.blocks.Progress.TheVariants.{Full, Ended, Fault}

-- the block that was filled last
abbrev pub block_of : Blocks → Rows
block_of b = b.block

-- the records that it holds
abbrev pub records_of : Blocks → List DataRecord
records_of b = b.block.records

-- how many bytes were taken into records, or into the front of one
abbrev pub fed_count : Blocks → ℕ
fed_count b = b.fed

-- the bytes that were read last and are not yet fed to the reader of records
abbrev pub unfed : Blocks → List ℕ
unfed b = slice_range b.piece.items b.at b.end

-- Data of this layout were read: these bytes so far, of which these records came. They are all that are whole in the
-- bytes but those not yet fed.
pub record HasRead (l : Layout) (b : Blocks) (bytes : List ℕ) (rs : List DataRecord) : Type 0 where
  pub fed : List ℕ
  pub bytes_are : bytes ≡ fed ++ unfed b
  pub stands : Stands b.reader fed rs
  pub count : b.fed ≡ length fed
  pub layout_is : layout b.reader ≡ l
  pub few : l.records < 2 ^ 32
  pub fits : Fits b.reader b.block
  pub some : 0 < b.block.room
  pub in_order : b.at ≤ b.end
  pub in_piece : b.end ≤ length b.piece.items
  pub size : length b.piece.items ≡ 65536

-- the block has columns for data of this layout, and room for a record
pub record CanHold (l : Layout) (b : Rows) : Type 0 where
  pub analog : b.analog ≡ length l.selected
  pub digital : b.digital ≡ l.digital
  pub some : 0 < b.room

-- the data are these bytes: they are accepted, or have this first fault
abbrev pub EndsAs : Progress → Layout → (bytes : List ℕ) → (rs : List DataRecord) → Type 0
EndsAs Full l bytes rs = ⊥
EndsAs Ended l bytes rs = IsAccepted l bytes rs
EndsAs (Fault f) l bytes rs = EndsInFault l bytes rs f

-- What one more block tells of data of which these bytes were read and these records came, by how the reading goes on:
-- more records may follow; or the file is accepted; or it has this first fault. (left, now: what is told to be left
-- before and after)
abbrev pub Gives : Progress → Layout → (bytes : List ℕ) → (rs : List DataRecord) → (new : Blocks)
    → (left now : Option (List ℕ)) → Type 0
Gives Full l bytes rs new left now =
    (more : List ℕ) × Consumes left now more × HasRead l new (bytes ++ more) (rs ++ records_of new)
    × (length (records_of new) ≡ (block_of new).room)
Gives Ended l bytes rs new left now =
    (more : List ℕ) × TakesAll left now more × IsAccepted l (bytes ++ more) (rs ++ records_of new)
Gives (Fault f) l bytes rs new left now =
    (more : List ℕ) × MayHold left more × EndsInFault l (bytes ++ more) (rs ++ records_of new) f

-- the data begin with the records that came before and those of the block, and no value of a selected channel is
-- missing in them
abbrev pub Begins : Layout → (bytes : List ℕ) → (rs : List DataRecord) → (left : Option (List ℕ)) → Type 0
Begins l bytes rs left = (more : List ℕ) × MayHold left more × AreFirst l (bytes ++ more) rs × ArePresent l rs

-- what a call for one more block of the data under a name does, or a read that fails in it (before, now: what is told
-- of the shelf)
pub record ReadsOn {E : Type 0} (name : List ℕ) (old new : Blocks) (before now : ShelfTold) (result : Result Progress E)
    : Type 0 where
  pub gives : IfOk result (λ p. (l : Layout) (bytes : List ℕ) (rs : List DataRecord) → HasRead l old bytes rs
      → Gives p l bytes rs new (before.left name) (now.left name))
  pub begins : OnOk result ((l : Layout) (bytes : List ℕ) (rs : List DataRecord) → HasRead l old bytes rs
      → Begins l bytes (rs ++ records_of new) (before.left name))
  pub further : IfOk result (λ p. p ≡ Full → fed_count old < fed_count new)
  pub columns : (block_of new).analog ≡ (block_of old).analog
  pub cause : HasCause before.read_faults now.read_faults result
  pub only_reads : OnlyReads before now
  pub others : ReadsUnder name before now
