-- What is told of the outside, beside what was read and what is due.
use Rattle.std.specs.Prelude.{◌≡◌, ℕ, List, Option, Some}
use Rattle.std.specs.Io.KnownBytes.{Appends}
use Rattle.flk_io.specs.Told.{ShelfTold}
use Rattle.flk_top.specs.Command.{IsInput}
use Rattle.flk_top.specs.Outcome.{Piece, appended_under, AreFirstPieces}

-- the bytes that stand under each name
abbrev pub Files : Type 0
Files = List ℕ → List ℕ

-- these may be the bytes there: they are, where that is told
abbrev pub MayHold : Option (List ℕ) → List ℕ → Type 0
MayHold left bytes = (held : List ℕ) → left ≡ Some held → bytes ≡ held

-- the files agree with all that is told of what is left to read
abbrev pub Agrees : ShelfTold → Files → Type 0
Agrees told files = (name : List ℕ) → MayHold (told.left name) (files name)

-- the bytes of each input of the words are told, and these are they
abbrev pub TellsInputs : List (List ℕ) → ShelfTold → Files → Type 0
TellsInputs words told files = (name : List ℕ) → IsInput words name → told.left name ≡ Some (files name)

-- what was added under each name grew by the pieces of that name, as far as it is told
abbrev pub AreAppended : (old new : List ℕ → Option (List ℕ)) → List Piece → Type 0
AreAppended old new pieces = (name : List ℕ) → Appends (old name) (new name) (appended_under name pieces)

-- the first pieces were appended whole, one in front or not at all, and those after it not at all
abbrev pub AreBegun : (old new : List ℕ → Option (List ℕ)) → List Piece → Type 0
AreBegun old new pieces = (begun : List Piece) × AreFirstPieces begun pieces × AreAppended old new begun
