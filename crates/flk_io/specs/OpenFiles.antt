-- The table of open files: the names under which they were opened.
use Rattle.std.specs.Prelude.{◌≡◌, ◌⊎◌, ℕ, List, [], ◌∷◌, ◌++◌, map, Contains, string_bytes}
use Rattle.flk_io.specs.declared.open_files.OpenFile.{OpenFile}
use Rattle.flk_io.specs.declared.open_files.OpenFiles.{OpenFiles}

-- the name under which a file was opened
abbrev pub name_of : OpenFile → List ℕ
name_of file = string_bytes file.name

-- the names in the order of opening
abbrev pub names_of : OpenFiles → List (List ℕ)
names_of table = map name_of table.files.items

-- the names are as before, or this one, which was not among them, came last
abbrev pub OpensOnce : List ℕ → List (List ℕ) → List (List ℕ) → Type 0
OpensOnce name old new = (new ≡ old) ⊎ ((new ≡ old ++ name ∷ []) × (¬ Contains old name))
