-- The fields of a line: the parts between commas, without the spaces at both their ends.
use Rattle.std.specs.Prelude.{◌≡◌, ℕ, ◌-◌, List, [], ◌∷◌, ◌++◌, length, take, drop, map, Option, Some, None}
use Rattle.std.specs.List.{slice_split, prefix_len, suffix_len}
use Rattle.flk_text.specs.Lines.{is_byte, Lacks}

-- the spaces in front are dropped
abbrev pub trimmed_front : List ℕ → List ℕ
trimmed_front xs = drop (prefix_len (is_byte 32) xs) xs

-- the spaces at the end are dropped
abbrev pub trimmed_back : List ℕ → List ℕ
trimmed_back xs = take (length xs - suffix_len (is_byte 32) xs) xs

-- the spaces at both ends are dropped
abbrev pub trimmed : List ℕ → List ℕ
trimmed xs = trimmed_back (trimmed_front xs)

-- the fields in the line's order: the parts between commas, one more than there are commas, each trimmed
unfoldable pub fields : List ℕ → List (List ℕ)
fields line = map trimmed (slice_split (is_byte 44) line)

-- the line of these fields: one after another, with a comma between two
abbrev pub joined_fields : List (List ℕ) → List ℕ
joined_fields [] = []
joined_fields (f ∷ []) = f
joined_fields (f ∷ g ∷ gs) = f ++ (44 ∷ joined_fields (g ∷ gs))

-- a text that is a field as it stands: no comma is in it, and no space at either end
pub record IsField (text : List ℕ) : Type 0 where
  pub no_comma : Lacks 44 text
  pub tight : trimmed text ≡ text

-- the fields of what is left of a line, and none where nothing is left
abbrev pub fields_left : Option (List ℕ) → List (List ℕ)
fields_left None = []
fields_left (Some rest) = fields rest
