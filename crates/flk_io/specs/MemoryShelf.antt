-- What a shelf in memory holds under its names, and how its calls go.
use Rattle.std.specs.Prelude.{◌≡◌, ℕ, List, Some}
use Rattle.flk_io.specs.Causes.{AllStay}
use Rattle.flk_io.specs.Files.{left_of, added_of, room_of}
use Rattle.flk_io.specs.declared.memory_shelf.MemShelf.{MemShelf}
use Rattle.flk_io.specs.Told.{ShelfTold}

-- what is left to read under a name
abbrev pub left_in : MemShelf → List ℕ → List ℕ
left_in shelf = left_of shelf.files.items

-- what was added under a name
abbrev pub added_in : MemShelf → List ℕ → List ℕ
added_in shelf = added_of shelf.files.items

-- how many more bytes there is place for under a name
abbrev pub room_in : MemShelf → List ℕ → ℕ
room_in shelf = room_of shelf.files.items

-- how many bytes one call moves at most
abbrev pub shelf_most : MemShelf → ℕ
shelf_most shelf = shelf.most

-- how many calls were made, reads and appends together
abbrev pub shelf_calls : MemShelf → ℕ
shelf_calls shelf = shelf.plan.calls

-- the numbers of the calls that are to fail
abbrev pub shelf_failing : MemShelf → List ℕ
shelf_failing shelf = shelf.plan.failing.items

-- how many reads failed
abbrev pub read_faults_in : MemShelf → ℕ
read_faults_in shelf = shelf.read_faults

-- how many appends failed
abbrev pub append_faults_in : MemShelf → ℕ
append_faults_in shelf = shelf.append_faults

-- what a shelf in memory tells: all that is left and all that was added
abbrev pub memory_told : MemShelf → ShelfTold
memory_told shelf = record {
  left = λ name. Some (left_in shelf name);
  added = λ name. Some (added_in shelf name);
  read_faults = read_faults_in shelf;
  append_faults = append_faults_in shelf;
}

-- the calls made and the calls to come stay as they were
pub record CallsStay (old new : MemShelf) : Type 0 where
  pub calls : shelf_calls new ≡ shelf_calls old
  pub failing : shelf_failing new ≡ shelf_failing old
  pub most : shelf_most new ≡ shelf_most old
  pub read_faults : read_faults_in new ≡ read_faults_in old
  pub append_faults : append_faults_in new ≡ append_faults_in old

-- what stands under every name, and the place for more, stays as it was
pub record FilesStay (old new : MemShelf) : Type 0 where
  pub left : AllStay (left_in old) (left_in new)
  pub added : AllStay (added_in old) (added_in new)
  pub room : AllStay (room_in old) (room_in new)
