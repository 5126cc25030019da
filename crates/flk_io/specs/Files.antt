-- A list of files as a map from names: the first file of a name is meant.
use Rattle.std.specs.Prelude.{◌≡◌, ℕ, zero, suc, Bool, true, false, List, [], ◌∷◌, drop, if◌then◌else◌, string_bytes}
use Rattle.std.specs.Str.{bytes_eq}
use Rattle.flk_io.specs.declared.memory_file.File.{File}

-- what is left to read of a file
abbrev pub rest : File → List ℕ
rest file = drop file.at file.contents.items

-- what was added to a file
abbrev pub extra : File → List ℕ
extra file = file.added.items

-- how many more bytes a file has place for
abbrev pub place : File → ℕ
place file = file.room

-- whether a file has this name
abbrev pub has_name : File → List ℕ → Bool
has_name file name = bytes_eq (string_bytes file.name) name

-- what the first file of a name has, or `none` where there is no such file
abbrev pub held : {A : Type 0} → A → (File → A) → List File → List ℕ → A
held none value [] name = none
held none value (file ∷ files) name = if has_name file name then value file else held none value files name

-- what is left to read under a name
abbrev pub left_of : List File → List ℕ → List ℕ
left_of = held [] rest

-- what was added under a name
abbrev pub added_of : List File → List ℕ → List ℕ
added_of = held [] extra

-- how many more bytes there is place for under a name
abbrev pub room_of : List File → List ℕ → ℕ
room_of = held 0 place

-- file i is the first of this name
abbrev pub IsFirst : List File → List ℕ → ℕ → Type 0
IsFirst [] name i = ⊥
IsFirst (file ∷ files) name zero = has_name file name ≡ true
IsFirst (file ∷ files) name (suc i) = (has_name file name ≡ false) × IsFirst files name i

-- no file has this name
abbrev pub NoFile : List File → List ℕ → Type 0
NoFile [] name = Unit {0}
NoFile (file ∷ files) name = (has_name file name ≡ false) × NoFile files name
