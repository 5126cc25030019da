-- A change of the first file of a name changes what is held under that name, and under no other.
use Rattle.std.proofs.Common.{◌≡◌, ◌≢◌, ℕ, zero, suc, ◌+◌, ◌<◌, Bool, true, false, cond, List, [], ◌∷◌, length, get_or, take, add-one, ◌++◌, refl, sym, ◌∙◌, ap, arith, rules}
use Rattle.std.specs.Prelude.{string_bytes, slice_set, drop, OnOk, OnErr, Result, Ok, Err}
use Rattle.std.specs.Str.{bytes_eq}
use Rattle.std.proofs.lemmas.List.{take-append-drop, drop-drop}
use Rattle.std.proofs.lemmas.Slice.Eq.{bytes_eq-Decides}
use Rattle.std.proofs.lemmas.Bool.{false_from_ne_true}
use Rattle.flk_io.specs.declared.memory_file.File.{File}
use Rattle.flk_io.specs.Files.{has_name, held, IsFirst, NoFile}
use Rattle.flk_io.proofs.Names.{equal_names}

-- ---- results

pub OnOk-map : {T E P Q : Type 0} (r : Result T E) → (P → Q) → OnOk r P → OnOk r Q
OnOk-map (Ok x) f p = f p
OnOk-map (Err e) f p = tt

pub OnErr-map : {T E P Q : Type 0} (r : Result T E) → (P → Q) → OnErr r P → OnErr r Q
OnErr-map (Ok x) f p = tt
OnErr-map (Err e) f p = f p

-- ---- names

-- a file has one name
other_name : (f : File) (name other : List ℕ) → has_name f name ≡ true → other ≢ name → has_name f other ≡ false
other_name f name other is differs = false_from_ne_true (has_name f other) (λ same. differs (sym (equal_names (string_bytes f.name) other same) ∙ equal_names (string_bytes f.name) name is))

is_named : (g : File) (name : List ℕ) → string_bytes g.name ≡ name → has_name g name ≡ true
is_named g name same = rw (← same) (equal_to_itself (string_bytes g.name))
  where
    equal_to_itself : (xs : List ℕ) → bytes_eq xs xs ≡ true
    equal_to_itself xs = let itself : xs ≡ xs = refl in search (rules, bytes_eq-Decides, itself)

-- ---- the first file of a name

pub IsFirst-within : (fs : List File) (name : List ℕ) (i : ℕ) → IsFirst fs name i → i < length fs
IsFirst-within [] name i h = absurd h
IsFirst-within (f ∷ fs) name zero h = omega arith
IsFirst-within (f ∷ fs) name (suc i) h = omega (arith, IsFirst-within fs name i h.1)

IsFirst-name : (fs : List File) (name : List ℕ) (i : ℕ) (d : File) → IsFirst fs name i → has_name (get_or fs i d) name ≡ true
IsFirst-name [] name i d h = absurd h
IsFirst-name (f ∷ fs) name zero d h = h
IsFirst-name (f ∷ fs) name (suc i) d h = IsFirst-name fs name i d h.1

NoFile-next : (fs : List File) (name : List ℕ) (i : ℕ) (d : File) → i < length fs → NoFile (take i fs) name → has_name (get_or fs i d) name ≡ false → NoFile (take (suc i) fs) name
NoFile-next [] name i d less h e = absurd (omega arith)
NoFile-next (f ∷ fs) name zero d less h e = (e, tt)
NoFile-next (f ∷ fs) name (suc i) d less h e = (h.0, NoFile-next fs name i d (omega arith) h.1 e)

pub NoFile-more : (fs : List File) (name : List ℕ) (i : ℕ) (d : File) → i < length fs → NoFile (take i fs) name → has_name (get_or fs i d) name ≡ false → NoFile (take (i + 1) fs) name
NoFile-more fs name i d less h e = rw (add-one i) (NoFile-next fs name i d less h e)

pub IsFirst-found : (fs : List File) (name : List ℕ) (i : ℕ) (d : File) → i < length fs → NoFile (take i fs) name → has_name (get_or fs i d) name ≡ true → IsFirst fs name i
IsFirst-found [] name i d less h e = absurd (omega arith)
IsFirst-found (f ∷ fs) name zero d less h e = e
IsFirst-found (f ∷ fs) name (suc i) d less h e = (h.0, IsFirst-found fs name i d (omega arith) h.1 e)

first_at_end : (fs : List File) (name : List ℕ) (g : File) → NoFile fs name → has_name g name ≡ true → IsFirst (fs ++ g ∷ []) name (length fs)
first_at_end [] name g h is = is
first_at_end (f ∷ fs) name g h is = (h.0, first_at_end fs name g h.1 is)

-- a file of this name that comes after the last one, where no other has the name, is its first
pub IsFirst-new : (fs gs : List File) (name : List ℕ) (g : File) → NoFile fs name → string_bytes g.name ≡ name → gs ≡ fs ++ g ∷ [] → IsFirst gs name (length fs)
IsFirst-new fs gs name g h same e = rw e (first_at_end fs name g h (is_named g name same))

-- file i, the first of the name, was f and becomes g, of the same name
pub record IsChange (fs : List File) (name : List ℕ) (i : ℕ) (f g : File) : Type 0 where
  pub first : IsFirst fs name i
  pub item : f ≡ get_or fs i f
  pub same : g.name ≡ f.name

IsChange-name : {fs : List File} {name : List ℕ} {i : ℕ} {f g : File} → IsChange fs name i f g → has_name g name ≡ true
IsChange-name {fs} {name} {i} {f} {g} change =
    let old : has_name f name ≡ true = rw (← change.item) at (IsFirst-name fs name i f change.first) in
    ap (λ n. bytes_eq (string_bytes n) name) change.same ∙ old

-- ---- what is held under a name: `none` where there is no file, and else `value` of the first

module _ {A : Type 0} (none : A) (value : File → A) where
  pub held-none : (fs : List File) (name : List ℕ) → NoFile fs name → held none value fs name ≡ none
  held-none [] name h = refl
  held-none (f ∷ fs) name h = rw h.0 (held-none fs name h.1)

  pub held-first : (fs : List File) (name : List ℕ) (i : ℕ) (f : File) → IsFirst fs name i → f ≡ get_or fs i f → held none value fs name ≡ value f
  held-first [] name i f h item = absurd h
  held-first (e ∷ fs) name zero f h item = rw h (ap value (sym item))
  held-first (e ∷ fs) name (suc i) f h item = rw h.0 (held-first fs name i f h.1 item)

  held_set : (fs : List File) (name : List ℕ) (i : ℕ) (g : File) → IsFirst fs name i → has_name g name ≡ true → held none value (slice_set fs i g) name ≡ value g
  held_set [] name i g h is = absurd h
  held_set (f ∷ fs) name zero g h is = rw is refl
  held_set (f ∷ fs) name (suc i) g h is = rw h.0 (held_set fs name i g h.1 is)

  held_other : (fs : List File) (name other : List ℕ) (i : ℕ) (g : File) → IsFirst fs name i → has_name g name ≡ true → other ≢ name → held none value (slice_set fs i g) other ≡ held none value fs other
  held_other [] name other i g h is differs = absurd h
  held_other (f ∷ fs) name other zero g h is differs = rw (other_name g name other is differs, other_name f name other h differs) refl
  held_other (f ∷ fs) name other (suc i) g h is differs = ap (cond (has_name f other) (value f)) (held_other fs name other i g h.1 is differs)

  held_same : (fs : List File) (i : ℕ) (d g : File) → i < length fs → string_bytes g.name ≡ string_bytes (get_or fs i d).name → value g ≡ value (get_or fs i d) → (any : List ℕ) → held none value (slice_set fs i g) any ≡ held none value fs any
  held_same [] i d g less n a any = absurd (omega arith)
  held_same (f ∷ fs) zero d g less n a any =
      ap (λ bytes. cond (bytes_eq bytes any) (value g) (held none value fs any)) n ∙ ap (λ v. cond (has_name f any) v (held none value fs any)) a
  held_same (f ∷ fs) (suc i) d g less n a any = ap (cond (has_name f any) (value f)) (held_same fs i d g (omega arith) n a any)

  -- an empty file at the end
  pub held-new : (fs gs : List File) (g : File) → value g ≡ none → gs ≡ fs ++ g ∷ [] → (any : List ℕ) → held none value gs any ≡ held none value fs any
  held-new fs gs g is e any = rw e (at_end fs)
    where
      either : (b : Bool) → cond b none none ≡ none
      either true = refl
      either false = refl

      at_end : (fs : List File) → held none value (fs ++ g ∷ []) any ≡ held none value fs any
      at_end [] = rw is (either (has_name g any))
      at_end (f ∷ fs) = ap (cond (has_name f any) (value f)) (at_end fs)

  pub held-changed : {fs : List File} {name : List ℕ} {i : ℕ} {f g : File} → IsChange fs name i f g → held none value (slice_set fs i g) name ≡ value g
  held-changed {fs} {name} {i} {f} {g} change = held_set fs name i g change.first (IsChange-name change)

  pub held-others : {fs : List File} {name : List ℕ} {i : ℕ} {f g : File} → IsChange fs name i f g → (other : List ℕ) → other ≢ name → held none value (slice_set fs i g) other ≡ held none value fs other
  held-others {fs} {name} {i} {f} {g} change other differs = held_other fs name other i g change.first (IsChange-name change) differs

  pub held-kept : {fs : List File} {name : List ℕ} {i : ℕ} {f g : File} → IsChange fs name i f g → value g ≡ value f → (any : List ℕ) → held none value (slice_set fs i g) any ≡ held none value fs any
  held-kept {fs} {name} {i} {f} {g} change equal any =
      held_same fs i f g (IsFirst-within fs name i change.first) (ap string_bytes change.same ∙ ap (λ x. string_bytes x.name) change.item) (equal ∙ ap value change.item) any

  -- what was held before
  pub held-was : {fs : List File} {name : List ℕ} {i : ℕ} {f g : File} → IsChange fs name i f g → held none value fs name ≡ value f
  held-was {fs} {name} {i} {f} {g} change = held-first fs name i f change.first change.item

-- ---- bytes

-- the next n bytes that were copied, and those after them
pub part_given : (xs buf : List ℕ) (at n : ℕ) → take n buf ≡ take n (drop at xs) → drop at xs ≡ take n buf ++ drop (at + n) xs
part_given xs buf at n copied = rw copied (sym (take-append-drop n (drop at xs)) ∙ ap (λ ys. take n (drop at xs) ++ ys) (drop-drop n at xs))
