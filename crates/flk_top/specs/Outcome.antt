-- How a command ends: a status, the text that goes to the sink, and the bytes that go under names.
use Rattle.std.specs.Prelude.{◌≡◌, ◌⊎◌, ℕ, ◌≤◌, List, [], ◌∷◌, ◌++◌, length, take, if◌then◌else◌}
use Rattle.std.specs.Str.{bytes_eq}

-- bytes that are appended under a name
pub record Piece : Type 0 where
  pub name : List ℕ
  pub bytes : List ℕ

-- a status, a whole text, and the pieces in the order in which they are appended
pub record Outcome : Type 0 where
  pub status : ℕ
  pub text : List ℕ
  pub pieces : List Piece

-- the text of a command that is done, and appends nothing
abbrev pub completed : (text : List ℕ) → Outcome
completed text = record { status = 0; text = text; pieces = [] }

-- the one line of a refusal
abbrev pub refusal : (line : List ℕ) → Outcome
refusal line = record { status = 2; text = line; pieces = [] }

-- all that the pieces append under one name
abbrev pub appended_under : List ℕ → List Piece → List ℕ
appended_under name [] = []
appended_under name (piece ∷ pieces) =
    (if bytes_eq piece.name name then piece.bytes else []) ++ appended_under name pieces

-- The pieces begun are the first ones of all, whole but for the last, which is a front of its bytes.
abbrev pub AreFirstPieces : (begun all : List Piece) → Type 0
AreFirstPieces begun [] = begun ≡ []
AreFirstPieces begun (piece ∷ pieces) =
    ((n : ℕ) × (n ≤ length piece.bytes) × (begun ≡ record { name = piece.name; bytes = take n piece.bytes } ∷ []))
    ⊎ ((rest : List Piece) × AreFirstPieces rest pieces × (begun ≡ piece ∷ rest))
