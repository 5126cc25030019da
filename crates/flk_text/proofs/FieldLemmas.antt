-- The parts of a line, from the left.
use Rattle.std.proofs.Common.{◌≡◌, ℕ, ◌+◌, ◌<◌, ◌≤◌, ◌-◌, List, [], ◌∷◌, length, map, take, drop, get_or, refl, sym, ap, ◌∙◌, arith, inl, inr}
use Rattle.std.specs.List.{count_by, slice_split, before_first, after_first, position_or_len}
use Rattle.std.proofs.lemmas.List.{get_or-map, get_or-drop, length-map, drop-drop, length-drop, take_all}
use Rattle.std.proofs.lemmas.List.Splits.{slice_split_first, slice_split-cons_no, length-slice_split}
use Rattle.std.proofs.lemmas.Bool.{cases_Bool, cases_lt}
use Rattle.flk_text.specs.Fields.{trimmed, fields}
use Rattle.flk_text.specs.Lines.{is_byte}

last_part : (c : ℕ) (xs : List ℕ) → length xs ≤ position_or_len (is_byte c) xs → slice_split (is_byte c) xs ≡ xs ∷ []
last_part c [] h = refl
last_part c (x ∷ xs) h =
    elim (cases_Bool (is_byte c x)) [
      | inl so ↦ absurd (omega (arith, rw so at h))
      | inr off ↦ slice_split-cons_no (is_byte c) x xs off ∙ rw (last_part c xs (omega (arith, rw off at h))) refl
    ]

-- what is left of a line stands for the parts from one on
pub record IsFrom (line rest : List ℕ) (k : ℕ) : Type 0 where
  pub parts : slice_split (is_byte 44) rest ≡ drop k (slice_split (is_byte 44) line)

pub IsFrom-start : (line : List ℕ) → IsFrom line line 0
IsFrom-start line = record { parts = refl }

pub IsFrom-next : (line rest after : List ℕ) (k : ℕ) → position_or_len (is_byte 44) rest < length rest → after ≡ drop (position_or_len (is_byte 44) rest + 1) rest → IsFrom line rest k → IsFrom line after (k + 1)
IsFrom-next line rest after k more is h =
    let cut = slice_split_first (is_byte 44) rest 0 more in
    let e : slice_split (is_byte 44) (after_first (is_byte 44) rest) ≡ drop 1 (drop k (slice_split (is_byte 44) line)) = ap (drop 1) (sym cut ∙ h.parts) in
    record { parts = ap (slice_split (is_byte 44)) is ∙ e ∙ drop-drop 1 k (slice_split (is_byte 44) line) }

pub IsFrom-end : (line rest : List ℕ) (k : ℕ) → length rest ≤ position_or_len (is_byte 44) rest → IsFrom line rest k → length (slice_split (is_byte 44) line) ≤ k + 1
IsFrom-end line rest k end h =
    let one : length (drop k (slice_split (is_byte 44) line)) ≡ 1 = ap length (sym h.parts ∙ last_part 44 rest end) in
    omega (arith, one, length-drop k (slice_split (is_byte 44) line))

first_part : (rest : List ℕ) → (get_or (slice_split (is_byte 44) rest) 0 [] ≡ before_first (is_byte 44) rest) × (0 < length (slice_split (is_byte 44) rest))
first_part rest =
    elim (cases_lt (position_or_len (is_byte 44) rest) (length rest)) [
      | inl lt ↦ let e = slice_split_first (is_byte 44) rest 0 lt in (ap (λ (x : List (List ℕ)). get_or x 0 []) e, omega (arith, ap length e))
      | inr ge ↦
          let e = last_part 44 rest ge in
          let all : before_first (is_byte 44) rest ≡ rest = take_all (position_or_len (is_byte 44) rest) rest ge in
          (ap (λ (x : List (List ℕ)). get_or x 0 []) e ∙ sym all, omega (arith, ap length e))
    ]

pub IsFrom-field : (line rest : List ℕ) (k : ℕ) → IsFrom line rest k → (k < length (fields line)) × (trimmed (before_first (is_byte 44) rest) ≡ get_or (fields line) k [])
unfolding fields
IsFrom-field line rest k h =
    let f = first_part rest in
    let parts = slice_split (is_byte 44) line in
    let there : k < length parts = omega (arith, f.1, ap length h.parts, length-drop k parts) in
    let is : get_or parts k [] ≡ before_first (is_byte 44) rest = sym (ap (λ (x : List (List ℕ)). get_or x 0 []) h.parts ∙ get_or-drop k parts 0 [] ∙ ap (λ (j : ℕ). get_or parts j []) (omega arith)) ∙ f.0 in
    (omega (arith, there, length-map parts trimmed), ap trimmed (sym is) ∙ sym (get_or-map trimmed parts k [] [] there))

pub fields_length : (line : List ℕ) → length (fields line) ≡ length (slice_split (is_byte 44) line)
unfolding fields
fields_length line = length-map (slice_split (is_byte 44) line) trimmed

pub fields_count : (line : List ℕ) → length (fields line) ≡ count_by (is_byte 44) line + 1
fields_count line = fields_length line ∙ length-slice_split (is_byte 44) line

-- where a part ends at a comma, the fields are that part and those of what follows
pub fields_cut : (rest first : List ℕ) (end : ℕ) → end ≡ position_or_len (is_byte 44) rest → end < length rest → first ≡ trimmed (take end rest)
    → fields rest ≡ first ∷ fields (take (length rest - (end + 1)) (drop (end + 1) rest))
unfolding fields
fields_cut rest first end is more same =
    let all : take (length rest - (end + 1)) (drop (end + 1) rest) ≡ drop (end + 1) rest = take_all (length rest - (end + 1)) (drop (end + 1) rest) (omega (arith, length-drop (end + 1) rest)) in
    let lt : position_or_len (is_byte 44) rest < length rest = omega (arith, is, more) in
    let cut = ap (map trimmed) (slice_split_first (is_byte 44) rest 0 lt) in
    rw (all, same, is) cut

-- where a part ends at the end of the line, it is the last field
pub fields_end : (rest first : List ℕ) (end : ℕ) → end ≡ position_or_len (is_byte 44) rest → end ≡ length rest → first ≡ trimmed (take end rest) → fields rest ≡ first ∷ []
unfolding fields
fields_end rest first end is last same =
    let all : take end rest ≡ rest = take_all end rest (omega (arith, last)) in
    rw (same, all) (ap (map trimmed) (last_part 44 rest (omega (arith, is, last))))
