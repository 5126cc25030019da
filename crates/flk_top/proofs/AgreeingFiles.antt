-- Files that agree with what is told, and have given contents under given names.
use Rattle.std.proofs.Common.{◌≡◌, ◌≢◌, ℕ, suc, true, false, List, [], ◌∷◌, ◌++◌, append-nil, map, Option, Some, None, refl, sym, ◌∙◌, subst, arith, inl, inr}
use Rattle.std.specs.Prelude.{Contains, if◌then◌else◌}
use Rattle.std.specs.List.{AllZip}
use Rattle.std.specs.Str.{bytes_eq}
use Rattle.std.proofs.lemmas.Bool.{cases_Bool, false_from_ne_true}
use Rattle.std.proofs.lemmas.Slice.Eq.{bytes_eq-Decides}
use Rattle.flk_io.proofs.Names.{equal_names}
use Rattle.flk_io.specs.Causes.{TakesAll}
use Rattle.flk_top.specs.Told.{Files, MayHold}

-- ---- the bytes that are told, or none

abbrev pub told_or_none : Option (List ℕ) → List ℕ
told_or_none None = []
told_or_none (Some held) = held

pub may_be_told : (left : Option (List ℕ)) → MayHold left (told_or_none left)
may_be_told None = λ held is. cc
may_be_told (Some xs) = λ held is. cc

-- all bytes that were left
pub MayHold-all : (left now : Option (List ℕ)) (bytes : List ℕ) → TakesAll left now bytes → MayHold left bytes
MayHold-all None now bytes took = λ held is. cc
MayHold-all (Some xs) None bytes took = absurd took.0
MayHold-all (Some xs) (Some ys) bytes took = λ held is.
    let same : xs ≡ held = cc in
    let all : xs ≡ bytes ++ [] = rw took.1 at took.0 in
    sym (all ∙ append-nil bytes) ∙ same

-- ---- names that differ

-- no name stands twice
abbrev pub IsApart : List ℕ → List (List ℕ) → Type 0
IsApart name [] = Unit {0}
IsApart name (other ∷ names) = (name ≢ other) × IsApart name names

abbrev pub AreApart : List (List ℕ) → Type 0
AreApart [] = Unit {0}
AreApart (name ∷ names) = IsApart name names × AreApart names

-- ---- files with these contents under these names, and what is told under the others

abbrev pub files_with : (left : List ℕ → Option (List ℕ)) → (names contents : List (List ℕ)) → Files
files_with left [] contents name = told_or_none (left name)
files_with left (n ∷ names) [] name = told_or_none (left name)
files_with left (n ∷ names) (bytes ∷ contents) name = if bytes_eq n name then bytes else files_with left names contents name

pub is_itself : (xs : List ℕ) → bytes_eq xs xs ≡ true
is_itself xs = (bytes_eq-Decides xs xs).1 refl

pub is_other : (xs ys : List ℕ) → xs ≢ ys → bytes_eq xs ys ≡ false
is_other xs ys differ = false_from_ne_true (bytes_eq xs ys) (λ e. differ (equal_names xs ys e))

pub files_agree : (left : List ℕ → Option (List ℕ)) (names contents : List (List ℕ)) → AllZip MayHold (map left names) contents → (name : List ℕ)
    → MayHold (left name) (files_with left names contents name)
files_agree left [] contents all name = may_be_told (left name)
files_agree left (n ∷ names) [] all name = absurd all
files_agree left (n ∷ names) (bytes ∷ contents) all name =
    let rest = files_agree left names contents all.1 name in
    elim (cases_Bool (bytes_eq n name)) [
      | inl here ↦ rw here (subst (λ (x : List ℕ). MayHold (left x) bytes) (equal_names n name here) all.0)
      | inr other ↦ rw other rest
    ]

skipped : (left : List ℕ → Option (List ℕ)) (n bytes : List ℕ) (names contents others : List (List ℕ)) → IsApart n others
    → map (files_with left (n ∷ names) (bytes ∷ contents)) others ≡ map (files_with left names contents) others
skipped left n bytes names contents [] apart = refl
skipped left n bytes names contents (other ∷ others) apart =
    let rest = skipped left n bytes names contents others apart.1 in
    let here : files_with left (n ∷ names) (bytes ∷ contents) other ≡ files_with left names contents other = rw (is_other n other apart.0) refl in
    rw (here, rest) refl

pub files_have : (left : List ℕ → Option (List ℕ)) (names contents : List (List ℕ)) → AreApart names → AllZip MayHold (map left names) contents
    → map (files_with left names contents) names ≡ contents
files_have left [] [] apart all = refl
files_have left [] (bytes ∷ contents) apart all = absurd all
files_have left (n ∷ names) [] apart all = absurd all
files_have left (n ∷ names) (bytes ∷ contents) apart all =
    let here : files_with left (n ∷ names) (bytes ∷ contents) n ≡ bytes = rw (is_itself n) refl in
    let rest = skipped left n bytes names contents names apart.0 ∙ files_have left names contents apart.1 all.1 in
    rw (here, rest) refl

-- ---- contents of some names

-- what is told of these names, as one list
pub told_contents : (left : List ℕ → Option (List ℕ)) (names : List (List ℕ)) → AllZip MayHold (map left names) (map (λ name. told_or_none (left name)) names)
told_contents left [] = tt
told_contents left (n ∷ names) = (may_be_told (left n), told_contents left names)

-- a name of a longer list
pub contains_next : (names : List (List ℕ)) (n name : List ℕ) → Contains names name → Contains (n ∷ names) name
contains_next names n name there = (suc there.0, omega (arith, there.1), there.2)

pub contains_first : (names : List (List ℕ)) (name : List ℕ) → Contains (name ∷ names) name
contains_first names name = (0, omega arith, refl)

-- two files that agree under each of the names have the same contents there
pub same_contents : (files others : Files) (names : List (List ℕ)) → ((name : List ℕ) → Contains names name → others name ≡ files name)
    → map others names ≡ map files names
same_contents files others [] same = refl
same_contents files others (n ∷ names) same =
    let here = same n (contains_first names n) in
    let rest = same_contents files others names (λ name there. same name (contains_next names n name there)) in
    rw (here, rest) refl
