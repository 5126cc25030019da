-- What the parts of a reader's calls do. Contracts of private functions cite this file.
use Rattle.std.specs.Prelude.{◌≡◌, ℕ, ◌+◌, ◌-◌, ◌<◌, ◌≤◌, ◌⊎◌, List, ◌++◌, length, take, Some}
use Rattle.flk_dat.specs.Records.{DataRecord, Rows}
use Rattle.flk_dat.specs.DataFile.{IsAccepted, IsFaultAfter}
use Rattle.flk_dat.specs.Streams.{EndsRecord, added, Grows}
use Rattle.flk_dat.specs.States.{layout, Stands}
use Rattle.flk_dat.specs.declared.reader.Reader.{Reader}
use Rattle.flk_dat.specs.declared.tail.Tail.{Tail}
use Rattle.flk_dat.specs.declared.kind.Fault.{Fault}

-- what stays, and what the block gains
pub record Keeps (old new : Reader) (before after : Rows) : Type 0 where
  pub layout_same : layout new ≡ layout old
  pub grows : Grows before after

-- up to n bytes of the piece were taken: all of them and no record became whole, or one became whole with the last of
-- them
pub record Takes (old new : Reader) (before after : Rows) (piece : List ℕ) (n : ℕ) : Type 0 where
  pub keeps : Keeps old new before after
  pub some : 0 < n
  pub within : n ≤ length piece
  pub stands : (taken : List ℕ) (given : List DataRecord) → Stands old taken given
      → Stands new (taken ++ take n piece) (given ++ added before after)
  pub ends : ((length after.records ≡ length before.records) × (n ≡ length piece))
      ⊎ ((length after.records ≡ length before.records + 1)
      × ((taken : List ℕ) (given : List DataRecord) → Stands old taken given
      → EndsRecord (layout old) (length given) (taken ++ take n piece)))

-- n bytes of the piece were taken: all of them, or those up to the end of the last record for which there is room
pub record Taking (old new : Reader) (before after : Rows) (piece : List ℕ) (n : ℕ) : Type 0 where
  pub keeps : Keeps old new before after
  pub within : n ≤ length piece
  pub stands : (taken : List ℕ) (given : List DataRecord) → Stands old taken given
      → Stands new (taken ++ take n piece) (given ++ added before after)
  pub nothing : before.room ≤ length before.records → (n ≡ 0) × (after ≡ before)
  pub idle : n ≡ 0 → after ≡ before
  pub full : (taken : List ℕ) (given : List DataRecord) → Stands old taken given → length before.records < before.room
      → after.room ≤ length after.records
      → EndsRecord (layout old) (length (given ++ added before after) - 1) (taken ++ take n piece)

-- some were taken
pub record TakesSome (old new : Reader) (before after : Rows) (piece : List ℕ) (n : ℕ) : Type 0 where
  pub taking : Taking old new before after piece n
  pub some : 0 < n

pub record TakesAll (old new : Reader) (before after : Rows) (piece : List ℕ) (n : ℕ) : Type 0 where
  pub taking : Taking old new before after piece n
  pub whole : length after.records < after.room → n ≡ length piece
  pub progress : 0 < length piece → length before.records < before.room → 0 < n

-- the bytes of the piece have a fault, whatever follows them
pub record Stops (old new : Reader) (before after : Rows) (piece : List ℕ) (f : Fault) : Type 0 where
  pub keeps : Keeps old new before after
  pub count : (taken : List ℕ) (given : List DataRecord) → Stands old taken given
      → new.given ≡ length (given ++ added before after)
  pub sure : (taken : List ℕ) (given : List DataRecord) → Stands old taken given → (more : List ℕ)
      → IsFaultAfter (layout old) ((taken ++ piece) ++ more) (given ++ added before after) f.field f.kind

-- one record more was given
pub record Gives (old new : Reader) (number : ℕ) (end : Tail) : Type 0 where
  pub layout_same : layout new ≡ layout old
  pub fault : new.fault ≡ old.fault
  pub rest : new.rest ≡ old.rest
  pub given : new.given ≡ old.given + 1
  pub before : new.before ≡ Some number
  pub tail : new.tail ≡ end

-- the bytes taken are accepted
pub record Ends (old new : Reader) (before after : Rows) : Type 0 where
  pub keeps : Keeps old new before after
  pub accepted : (taken : List ℕ) (given : List DataRecord) → Stands old taken given
      → IsAccepted (layout old) taken (given ++ added before after)

-- the bytes taken have a fault
pub record Falls (old new : Reader) (before after : Rows) (f : Fault) : Type 0 where
  pub keeps : Keeps old new before after
  pub count : (taken : List ℕ) (given : List DataRecord) → Stands old taken given
      → new.given ≡ length (given ++ added before after)
  pub here : (taken : List ℕ) (given : List DataRecord) → Stands old taken given
      → IsFaultAfter (layout old) taken (given ++ added before after) f.field f.kind
