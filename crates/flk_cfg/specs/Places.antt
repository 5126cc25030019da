-- The lines of a file by their place: the line that follows the first k lines.
use Rattle.std.specs.Prelude.{◌≡◌, ℕ, zero, suc, ◌<◌, ◌⊎◌, List, [], length}
use Rattle.flk_text.specs.Lines.{line_of, after_line, last_line_of, tail_of}
use Rattle.flk_text.specs.Fields.{fields}
use Rattle.flk_field.specs.declared.kind.Kind.{Kind}
use Rattle.flk_field.specs.declared.kind.Kind.TheVariants as kinds

-- what follows the first k lines
abbrev pub after_lines : ℕ → List ℕ → List ℕ
after_lines zero bytes = bytes
after_lines (suc k) bytes = after_line (after_lines k bytes)

-- after the first k lines there is a line, and these are its fields
pub record IsLineAt (bytes : List ℕ) (k : ℕ) (parts : List (List ℕ)) : Type 0 where
  pub there : 0 < length (after_lines k bytes)
  pub is : parts ≡ fields (line_of (after_lines k bytes))

-- after the first k lines there is the last line, and these are its fields
pub record IsLastLineAt (bytes : List ℕ) (k : ℕ) (parts : List (List ℕ)) : Type 0 where
  pub there : 0 < length (after_lines k bytes)
  pub is : parts ≡ fields (last_line_of (after_lines k bytes))

-- what follows the last line, which follows the first k lines
abbrev pub tail_at : List ℕ → ℕ → List ℕ
tail_at bytes k = tail_of (after_lines k bytes)

-- after the first k lines there is a line whose fields are so
abbrev pub HasLine : List ℕ → ℕ → (List (List ℕ) → Type 0) → Type 0
HasLine bytes k is_so = (parts : List (List ℕ)) × IsLineAt bytes k parts × is_so parts

-- after the first k lines there is the last line, whose fields are so
abbrev pub HasLastLine : List ℕ → ℕ → (List (List ℕ) → Type 0) → Type 0
HasLastLine bytes k is_so = (parts : List (List ℕ)) × IsLastLineAt bytes k parts × is_so parts

-- after the first k lines there is no line
abbrev pub EndsAt : List ℕ → ℕ → (field : ℕ) → Kind → Type 0
EndsAt bytes k field kind = (after_lines k bytes ≡ []) × (field ≡ 0) × (kind ≡ kinds.End)

-- after the first k lines there is no line, or one whose fields have this fault
abbrev pub FaultAt : List ℕ → ℕ → (List (List ℕ) → ℕ → Kind → Type 0) → (field : ℕ) → Kind → Type 0
FaultAt bytes k fault field kind = EndsAt bytes k field kind ⊎ HasLine bytes k (λ parts. fault parts field kind)

-- the same of the last line
abbrev pub LastFaultAt : List ℕ → ℕ → (List (List ℕ) → ℕ → Kind → Type 0) → (field : ℕ) → Kind → Type 0
LastFaultAt bytes k fault field kind = EndsAt bytes k field kind ⊎ HasLastLine bytes k (λ parts. fault parts field kind)
