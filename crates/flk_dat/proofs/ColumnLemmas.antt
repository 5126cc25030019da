-- Columns, and the rows across them.
use Rattle.std.proofs.Common.{◌≡◌, ◌≢◌, ℕ, ◌+◌, ◌<◌, List, [], length, get_or, set, refl, sym, ap, subst, ◌∙◌, arith, inl, inr, eqb, length-set}
use Rattle.std.proofs.lemmas.Bool.{cases_Bool, eqb-true, eq-eqb, true≢false}
use Rattle.std.proofs.lemmas.List.{length-map, get_or-map, map-set, set-get_or, get_or-set_same, get_or-set_other}
use Rattle.flk_dat.specs.Blocks.{row_in, HavePlaces, HavePlace, ChangesPlace}
use Rattle.flk_dat.proofs.Elements.{each_set}

-- ---- a row

pub row_length : {A : Type 0} (k : ℕ) (none : A) (cs : List (List A)) → length (row_in k none cs) ≡ length cs
row_length {A} k none cs = length-map cs (λ (c : List A). get_or c k none)

pub row_at : {A : Type 0} (k : ℕ) (none other : A) (cs : List (List A)) (i : ℕ) → i < length cs → get_or (row_in k none cs) i other ≡ get_or (get_or cs i []) k none
row_at {A} k none other cs i lt = get_or-map (λ (c : List A). get_or c k none) cs i [] other lt

-- a row in which a value is put
pub row_put : {A : Type 0} (k : ℕ) (none : A) (cs : List (List A)) (i : ℕ) (v : A) → k < length (get_or cs i [])
    → row_in k none (set cs i (set (get_or cs i []) k v)) ≡ set (row_in k none cs) i v
row_put {A} k none cs i v there =
    map-set (λ (c : List A). get_or c k none) cs i (set (get_or cs i []) k v)
    ∙ ap (set (row_in k none cs) i) (get_or-set_same (get_or cs i []) k v none there)

-- another row
row_other : {A : Type 0} (k j : ℕ) (none : A) (cs : List (List A)) (i : ℕ) (v : A) → i < length cs → j ≢ k
    → row_in j none (set cs i (set (get_or cs i []) k v)) ≡ row_in j none cs
row_other {A} k j none cs i v lt other =
    map-set (λ (c : List A). get_or c j none) cs i (set (get_or cs i []) k v)
    ∙ ap (set (row_in j none cs) i) (get_or-set_other (get_or cs i []) k j v none other ∙ sym (row_at j none none cs i lt))
    ∙ set-get_or (row_in j none cs) i none

-- ---- columns of which one place is changed

pub changes_none : {A : Type 0} (k : ℕ) (none : A) (cs : List (List A)) → ChangesPlace k none cs cs
changes_none {A} k none cs = record { count = refl; places = λ i. refl; others = λ j other. refl }

column_length : {A : Type 0} (k : ℕ) (cs : List (List A)) (i j : ℕ) (v : A) → i < length cs
    → length (get_or (set cs i (set (get_or cs i []) k v)) j []) ≡ length (get_or cs j [])
column_length {A} k cs i j v lt =
    let c : List A = set (get_or cs i []) k v in
    elim (cases_Bool (eqb j i)) [
      | inl same ↦
          let e : i ≡ j = sym (eqb-true j i same) in
          subst (λ (m : ℕ). length (get_or (set cs i c) m []) ≡ length (get_or cs m [])) e
          (ap length (get_or-set_same cs i c [] lt) ∙ length-set (get_or cs i []) k v)
      | inr off ↦ ap length (get_or-set_other cs i j c [] (λ e. true≢false (sym (eq-eqb j i e) ∙ off)))
    ]

pub changes_put : {A : Type 0} (k : ℕ) (none : A) (old cs : List (List A)) (i : ℕ) (v : A) → ChangesPlace k none old cs → i < length cs
    → ChangesPlace k none old (set cs i (set (get_or cs i []) k v))
changes_put {A} k none old cs i v so lt = record {
  count = length-set cs i (set (get_or cs i []) k v) ∙ so.count;
  places = λ j. column_length k cs i j v lt ∙ so.places j;
  others = λ j other. row_other k j none cs i v lt other ∙ so.others j other;
}

pub place_kept : {A : Type 0} (k : ℕ) (none : A) (old new : List (List A)) → HavePlace k old → ChangesPlace k none old new → HavePlace k new
place_kept {A} k none old new have so = λ i lt.
    let there = have i (omega (arith, lt, so.count)) in
    omega (arith, there, so.places i)

pub places_kept : {A : Type 0} (k places : ℕ) (none : A) (old new : List (List A)) → HavePlaces places old → ChangesPlace k none old new → HavePlaces places new
places_kept {A} k places none old new have so = λ i lt. so.places i ∙ have i (omega (arith, lt, so.count))

pub places_reach : {A : Type 0} (k places : ℕ) (cs : List (List A)) → HavePlaces places cs → k < places → HavePlace k cs
places_reach {A} k places cs have lt = λ i there. omega (arith, lt, have i there)

-- ---- a value that is put in one column

pub put_changes : {A : Type 0} (k : ℕ) (none : A) (old cs : List (List A)) (i : ℕ) (v : A) (c : List A) → ChangesPlace k none old cs → i < length cs → c ≡ set (get_or cs i []) k v
    → ChangesPlace k none old (set cs i c)
put_changes {A} k none old cs i v c so lt is = subst (λ (x : List A). ChangesPlace k none old (set cs i x)) (sym is) (changes_put k none old cs i v so lt)

-- what holds of each value of the row so far, and of the one that is put next, holds of each one then
pub each_put : {A : Type 0} (P : ℕ → A → Type 0) (k : ℕ) (none : A) (cs : List (List A)) (i : ℕ) (v : A) (c : List A) → HavePlace k cs → i < length cs → c ≡ set (get_or cs i []) k v
    → ((j : ℕ) → j < i → P j (get_or (row_in k none cs) j none)) → P i v → (j : ℕ) → j < i + 1 → P j (get_or (row_in k none (set cs i c)) j none)
each_put {A} P k none cs i v c have lt is so here j below =
    let row : row_in k none (set cs i c) ≡ set (row_in k none cs) i v = ap (λ (x : List A). row_in k none (set cs i x)) is ∙ row_put k none cs i v (have i lt) in
    let there : i < length (row_in k none cs) = omega (arith, lt, row_length k none cs) in
    subst (λ (x : List A). P j (get_or x j none)) (sym row) (each_set P (row_in k none cs) i v none there so here j below)
