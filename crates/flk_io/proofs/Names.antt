-- Names of files that are the same, and the names under which files were opened.
use Rattle.std.proofs.Common.{◌≡◌, ◌≢◌, ℕ, ◌+◌, ◌<◌, true, false, List, [], length, get_or, take, map, Contains, string_bytes, slice_set, ⊎_elim, ◌∙◌, ap, subst, rules}
use Rattle.std.specs.Str.{bytes_eq}
use Rattle.std.proofs.Math.Seq.{map-set_same}
use Rattle.std.proofs.lemmas.List.{take_more}
use Rattle.std.proofs.lemmas.List.Elements.{Contains-get_or, Contains-push_cases}
use Rattle.std.proofs.lemmas.Slice.Eq.{bytes_eq-Decides}
use Rattle.flk_io.specs.OpenFiles.{name_of}
use Rattle.flk_io.specs.declared.open_files.OpenFile.{OpenFile}

pub equal_names : (xs ys : List ℕ) → bytes_eq xs ys ≡ true → xs ≡ ys
equal_names xs ys e = search (rules, bytes_eq-Decides)

pub unequal_names : (xs ys : List ℕ) → bytes_eq xs ys ≡ false → xs ≢ ys
unequal_names xs ys e = search (rules, bytes_eq-Decides)

pub Contains-named : (names : List (List ℕ)) (i : ℕ) (name : List ℕ) → i < length names → get_or names i [] ≡ name → Contains names name
Contains-named names i name less is = subst (Contains names) is (Contains-get_or names i [] less)

-- a name that is not among the first i, nor the next one, is not among these
pub not_among-more : (names : List (List ℕ)) (i : ℕ) (name : List ℕ) → i < length names → (¬ Contains (take i names) name) → get_or names i [] ≢ name → ¬ Contains (take (i + 1) names) name
not_among-more names i name less none other among =
    ⊎_elim none other (Contains-push_cases (take i names) (get_or names i []) name (subst (λ ns. Contains ns name) (take_more names i [] less) among))

-- a file that keeps its name keeps the list of names
pub names-kept : (files : List OpenFile) (i : ℕ) (old new : OpenFile) → new.name ≡ old.name → old ≡ get_or files i old → map name_of (slice_set files i new) ≡ map name_of files
names-kept files i old new same at = map-set_same name_of files i new old (ap string_bytes same ∙ ap name_of at)
