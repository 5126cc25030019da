-- What the parts of the reader keep and answer. Contracts of private functions cite this file: `File` says what a
-- configuration is.
use Rattle.std.specs.Prelude.{◌≡◌, ◌≢◌, ℕ, ◌+◌, ◌<◌, ◌⊎◌, List, length}
use Rattle.flk_field.specs.Sets.{Set, LineFault, IsGoodLine}
use Rattle.flk_field.specs.Columns.{parts_of}
use Rattle.flk_cfg.specs.Places.{after_lines, IsLineAt, HasLine, EndsAt, FaultAt}
use Rattle.flk_field.specs.declared.columns.Columns.{Columns}
use Rattle.flk_cfg.specs.declared.reader.Reader.{Reader}
use Rattle.flk_field.specs.declared.kind.Fault.{Fault}
use Rattle.flk_field.specs.declared.kind.Kind.TheVariants as kinds

-- the reader has taken the first k lines of the bytes
pub record StandsAt (r : Reader) (bytes : List ℕ) (k : ℕ) : Type 0 where
  pub lines : r.lines ≡ after_lines k bytes
  pub number : r.number ≡ k

-- after the first k lines there is no line
pub record NoLine (bytes : List ℕ) (k : ℕ) (f : Fault) : Type 0 where
  pub line : f.line ≡ k + 1
  pub ends : EndsAt bytes k f.field f.kind

-- the fields are those of the line after the first k, and they are so many
pub record IsAt (bytes : List ℕ) (k count : ℕ) (c : Columns) : Type 0 where
  pub line : c.line ≡ k + 1
  pub is : IsLineAt bytes k (parts_of c)
  pub count_is : length (parts_of c) ≡ count

-- the fault of a line as a whole
pub record WholeFault (bytes : List ℕ) (k count : ℕ) (f : Fault) : Type 0 where
  pub line : f.line ≡ k + 1
  pub why : EndsAt bytes k f.field f.kind ⊎ HasLine bytes k
      (λ parts. (length parts ≢ count) × (f.field ≡ 0) × (f.kind ≡ kinds.Fields))

-- the lines after the first k, up to the n-th, are good
abbrev pub AreGood : (rows : ℕ → List Set) → List ℕ → (k n : ℕ) → Type 0
AreGood rows bytes k n = (i : ℕ) → i < n → HasLine bytes (k + i) (IsGoodLine (rows i))

-- of the lines after the first k this is the first fault
pub record FirstOf (rows : ℕ → List Set) (count : ℕ) (bytes : List ℕ) (k : ℕ) (f : Fault) : Type 0 where
  pub i : ℕ
  pub within : i < count
  pub line : f.line ≡ k + i + 1
  pub before : AreGood rows bytes k i
  pub here : FaultAt bytes (k + i) (LineFault (rows i)) f.field f.kind

-- the reader has taken the first k lines and then i more, which are good
pub record Progress (rows : ℕ → List Set) (bytes : List ℕ) (k i : ℕ) (r : Reader) : Type 0 where
  pub stands : StandsAt r bytes (k + i)
  pub good : AreGood rows bytes k i
