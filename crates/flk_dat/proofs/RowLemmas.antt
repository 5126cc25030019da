-- The fields of a line by their place, and the first of them that isn't in its set.
use Rattle.std.proofs.Common.{◌≡◌, ℕ, zero, suc, ◌+◌, ◌-◌, ◌<◌, ◌≤◌, List, [], ◌∷◌, length, get_or, drop, true, false, Bool, Option, ltb, eqb, refl, sym, ap, subst, ◌∙◌, arith, inl, inr, ℤ, length-drop}
use Rattle.std.proofs.lemmas.Bool.{lt-ltb, le-ltb, cases_lt}
use Rattle.std.proofs.lemmas.List.{get_or-drop, drop-drop}
use Rattle.flk_field.specs.Values.{IsBit}
use Rattle.flk_dat.specs.Records.{Follows}
use Rattle.flk_dat.specs.SampleFields.{Set, Number, Stamp, Analog, Digital, IsIn, Refuses, IsNumber, IsStamp, IsSample, IsThere}
use Rattle.flk_dat.specs.AsciiRecords.{column, IsFirstOut, field_total}
use Rattle.flk_dat.specs.Heads.{head_column}
use Rattle.flk_dat.specs.declared.kind.Kind.{Kind}

-- ---- what is left of the fields

-- the field that is taken next, where the first i are taken
pub field_taken : (all left rest : List (List ℕ)) (i : ℕ) (f : List ℕ) → left ≡ drop i all → left ≡ f ∷ rest → f ≡ get_or all i []
field_taken all left rest i f from is =
    let here : get_or left 0 [] ≡ get_or all (i + 0) [] = ap (λ (x : List (List ℕ)). get_or x 0 []) from ∙ get_or-drop i all 0 [] in
    let same : i + 0 ≡ i = omega arith in
    ap (λ (x : List (List ℕ)). get_or x 0 []) (sym is) ∙ here ∙ ap (λ (j : ℕ). get_or all j []) same

pub fields_left_then : (all left rest : List (List ℕ)) (i : ℕ) (f : List ℕ) → left ≡ drop i all → left ≡ f ∷ rest → rest ≡ drop (i + 1) all
fields_left_then all left rest i f from is = ap (drop 1) (sym is ∙ from) ∙ drop-drop 1 i all

pub none_left : (all left : List (List ℕ)) (i : ℕ) → left ≡ drop i all → left ≡ [] → length all ≤ i
none_left all left i from none =
    let short : length all - i ≡ 0 = sym (length-drop i all) ∙ ap length (sym from ∙ none) in
    omega (arith, short)

pub one_left : (all left rest : List (List ℕ)) (i : ℕ) (f : List ℕ) → left ≡ drop i all → left ≡ f ∷ rest → i + 1 ≤ length all
one_left all left rest i f from is = omega (arith, length-drop i all, ap length (sym from ∙ is))

pub length_left : (n : ℕ) (xs left : List (List ℕ)) → left ≡ drop n xs → length left ≡ length xs - n
length_left n xs left from = ap length from ∙ length-drop n xs

-- ---- the sets by their place

pub column_number : (selected : List Bool) (before : Option ℕ) → column selected before 0 ≡ Number before
unfolding column
column_number selected before = refl

pub column_stamp : (selected : List Bool) (before : Option ℕ) → column selected before 1 ≡ Stamp
unfolding column
column_stamp selected before = refl

pub column_analog : (selected : List Bool) (before : Option ℕ) (i : ℕ) → i < length selected → column selected before (2 + i) ≡ Analog (get_or selected i false)
unfolding column
column_analog selected before i lt =
    let zeroth : eqb (2 + i) 0 ≡ false = grind arith in
    let first : eqb (2 + i) 1 ≡ false = grind arith in
    let on : ltb (2 + i) (2 + length selected) ≡ true = lt-ltb (2 + i) (2 + length selected) (omega (arith, lt)) in
    let same : 2 + i - 2 ≡ i = omega arith in
    rw (zeroth, first, on, same) refl

pub column_digital : (selected : List Bool) (before : Option ℕ) (i : ℕ) → column selected before (2 + length selected + i) ≡ Digital
unfolding column
column_digital selected before i =
    let zeroth : eqb (2 + length selected + i) 0 ≡ false = grind arith in
    let first : eqb (2 + length selected + i) 1 ≡ false = grind arith in
    let off : ltb (2 + length selected + i) (2 + length selected) ≡ false = le-ltb (2 + length selected + i) (2 + length selected) (omega arith) in
    rw (zeroth, first, off) refl

-- ---- fields in their sets

pub number_in : (before : Option ℕ) (f : List ℕ) (n : ℕ) → IsNumber f n → Follows before n → IsIn (Number before) f
unfolding IsIn
number_in before f n is after = (n, is, after)

pub stamp_in : (f : List ℕ) (s : Option ℕ) → IsStamp f s → IsIn Stamp f
unfolding IsIn
stamp_in f s is = (s, is)

pub analog_in : (selected : Bool) (f : List ℕ) (z : ℤ) → IsSample f z → IsThere selected z → IsIn (Analog selected) f
unfolding IsIn
analog_in selected f z is there = (z, is, there)

pub digital_in : (f : List ℕ) (b : Bool) → IsBit f b → IsIn Digital f
unfolding IsIn
digital_in f b is = (b, is)

-- ---- the fields of a row up to a place are in their sets

abbrev pub AreIn : (sets : ℕ → Set) → List (List ℕ) → ℕ → Type 0
AreIn sets parts n = (j : ℕ) → j < n → IsIn (sets j) (get_or parts j [])

pub head_are_in : (selected : List Bool) (before : Option ℕ) (parts : List (List ℕ)) → IsIn (Number before) (get_or parts 0 []) → IsIn Stamp (get_or parts 1 []) → AreIn (column selected before) parts 2
head_are_in selected before parts number stamp zero lt = subst (λ (s : Set). IsIn s (get_or parts 0 [])) (sym (column_number selected before)) number
head_are_in selected before parts number stamp (suc zero) lt = subst (λ (s : Set). IsIn s (get_or parts 1 [])) (sym (column_stamp selected before)) stamp
head_are_in selected before parts number stamp (suc (suc j)) lt = absurd (omega (arith, lt))

pub analog_are_in : (selected : List Bool) (before : Option ℕ) (parts : List (List ℕ)) (n : ℕ) → n ≤ length selected → AreIn (column selected before) parts 2
    → ((j : ℕ) → j < n → IsIn (Analog (get_or selected j false)) (get_or parts (2 + j) [])) → AreIn (column selected before) parts (2 + n)
analog_are_in selected before parts n few head analog j lt =
    elim (cases_lt j 2) [
      | inl less ↦ head j less
      | inr more ↦
          let k = j - 2 in
          let below : k < n = omega (arith, lt, more) in
          let same : 2 + k ≡ j = omega (arith, more) in
          let set : column selected before (2 + k) ≡ Analog (get_or selected k false) = column_analog selected before k (omega (arith, below, few)) in
          subst (λ (i : ℕ). IsIn (column selected before i) (get_or parts i [])) same (subst (λ (s : Set). IsIn s (get_or parts (2 + k) [])) (sym set) (analog k below))
    ]

pub digital_are_in : (selected : List Bool) (before : Option ℕ) (parts : List (List ℕ)) (n : ℕ) → AreIn (column selected before) parts (2 + length selected)
    → ((j : ℕ) → j < n → IsIn Digital (get_or parts (2 + length selected + j) [])) → AreIn (column selected before) parts (2 + length selected + n)
digital_are_in selected before parts n front digital j lt =
    elim (cases_lt j (2 + length selected)) [
      | inl less ↦ front j less
      | inr more ↦
          let k = j - (2 + length selected) in
          let below : k < n = omega (arith, lt, more) in
          let same : 2 + length selected + k ≡ j = omega (arith, more) in
          subst (λ (i : ℕ). IsIn (column selected before i) (get_or parts i [])) same
          (subst (λ (s : Set). IsIn s (get_or parts (2 + length selected + k) [])) (sym (column_digital selected before k)) (digital k below))
    ]

-- ---- a fault of one part of the fields is a fault of the row

dropped : (n : ℕ) (parts : List (List ℕ)) (j : ℕ) → get_or (drop n parts) j [] ≡ get_or parts (n + j) []
dropped n parts j = get_or-drop n parts j []

pub fault_in_head : (selected : List Bool) (before : Option ℕ) (total : ℕ) (parts : List (List ℕ)) (i : ℕ) (kind : Kind) → 2 ≤ total → IsFirstOut (head_column before) 2 parts i kind → IsFirstOut (column selected before) total parts i kind
fault_in_head selected before total parts zero kind room f = record {
  within = omega (arith, room);
  left = λ j lt. absurd (omega (arith, lt));
  here = subst (λ (s : Set). Refuses s (get_or parts 0 []) kind) (sym (column_number selected before)) f.here;
}
fault_in_head selected before total parts (suc zero) kind room f = record {
  within = omega (arith, room);
  left = λ j lt.
      let zeroth : 0 ≡ j = omega (arith, lt) in
      subst (λ (k : ℕ). IsIn (column selected before k) (get_or parts k [])) zeroth (subst (λ (s : Set). IsIn s (get_or parts 0 [])) (sym (column_number selected before)) (f.left 0 (omega arith)));
  here = subst (λ (s : Set). Refuses s (get_or parts 1 []) kind) (sym (column_stamp selected before)) f.here;
}
fault_in_head selected before total parts (suc (suc i)) kind room f = absurd (omega (arith, f.within))

pub fault_in_analog : (selected : List Bool) (before : Option ℕ) (digital : ℕ) (parts : List (List ℕ)) (i : ℕ) (kind : Kind) → AreIn (column selected before) parts 2
    → IsFirstOut (λ j. Analog (get_or selected j false)) (length selected) (drop 2 parts) i kind → IsFirstOut (column selected before) (field_total (length selected) digital) parts (2 + i) kind
fault_in_analog selected before digital parts i kind head f = record {
  within = omega (arith, f.within);
  left = analog_are_in selected before parts i (omega (arith, f.within)) head (λ j lt. subst (IsIn (Analog (get_or selected j false))) (dropped 2 parts j) (f.left j lt));
  here = subst (λ (s : Set). Refuses s (get_or parts (2 + i) []) kind) (sym (column_analog selected before i f.within))
      (subst (λ (p : List ℕ). Refuses (Analog (get_or selected i false)) p kind) (dropped 2 parts i) f.here);
}

pub fault_in_digital : (selected : List Bool) (before : Option ℕ) (digital : ℕ) (parts : List (List ℕ)) (i : ℕ) (kind : Kind) → AreIn (column selected before) parts (2 + length selected)
    → IsFirstOut (λ j. Digital) digital (drop (2 + length selected) parts) i kind → IsFirstOut (column selected before) (field_total (length selected) digital) parts (2 + length selected + i) kind
fault_in_digital selected before digital parts i kind front f = record {
  within = omega (arith, f.within);
  left = digital_are_in selected before parts i front (λ j lt. subst (IsIn Digital) (dropped (2 + length selected) parts j) (f.left j lt));
  here = subst (λ (s : Set). Refuses s (get_or parts (2 + length selected + i) []) kind) (sym (column_digital selected before i))
      (subst (λ (p : List ℕ). Refuses Digital p kind) (dropped (2 + length selected) parts i) f.here);
}
