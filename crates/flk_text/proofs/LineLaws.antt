-- The laws of lines: a file's bytes are a line, its end and what follows.
use Rattle.std.proofs.Common.{◌≡◌, ◌≢◌, ℕ, suc, ◌+◌, ◌-◌, ◌<◌, ◌⊎◌, Bool, true, eqb, List, [], ◌∷◌, ◌++◌, length, take, drop, get_or, refl, sym, ap, ◌∙◌, arith, inl, inr, append-nil, append_assoc, length-append}
use Rattle.std.specs.List.{before_first, after_first, position_or_len}
use Rattle.std.proofs.lemmas.Bool.{cases_Bool, cases_lt, eqb-true, true≢false}
use Rattle.std.proofs.lemmas.List.{get_or-take, get_or_append_left, length-take, length-drop, drop_all, take_all, take-append-drop}
use Rattle.std.proofs.lemmas.List.Sums.{split_at_first, fails_before_first, passes_at_first}
use Rattle.std.proofs.Math.Seq.{split_at}
use Rattle.flk_text.specs.Lines.{is_byte, without_cr, line_of, after_line, ends_last_line, last_line_of, without_lf, tail_of, IsLineEnd}

last_cut : (xs : List ℕ) → get_or xs (length xs - 1) 0 ≡ 13 → xs ≡ take (length xs - 1) xs ++ (13 ∷ [])
last_cut [] e = absurd cc
last_cut (x ∷ xs) e =
    let all = x ∷ xs in
    let j = length all - 1 in
    split_at all j 0 (omega arith) ∙ ap (λ (b : ℕ). take j all ++ (b ∷ drop (suc j) all)) e ∙ ap (λ (rest : List ℕ). take j all ++ (13 ∷ rest)) (drop_all (suc j) all (omega arith))

-- a line is what is left of it without a CR, and perhaps a CR
cr_cut : (xs : List ℕ) → (xs ≡ without_cr xs) ⊎ (xs ≡ without_cr xs ++ (13 ∷ []))
cr_cut xs =
    elim (cases_Bool (eqb (get_or xs (length xs - 1) 0) 13)) [
      | inl so ↦ inr (rw so (last_cut xs (eqb-true _ 13 so)))
      | inr off ↦ inl (rw off refl)
    ]

abbrev LfOrNothing : List ℕ → Type 0
LfOrNothing lf = (lf ≡ []) ⊎ (lf ≡ 10 ∷ [])

end_is : (lf : List ℕ) → LfOrNothing lf → IsLineEnd lf
end_is lf (inl e) = inl e
end_is lf (inr e) = inr (inr (inl e))

cr_end_is : (lf : List ℕ) → LfOrNothing lf → IsLineEnd (13 ∷ lf)
cr_end_is lf (inl e) = inr (inl (ap (λ (x : List ℕ). 13 ∷ x) e))
cr_end_is lf (inr e) = inr (inr (inr (ap (λ (x : List ℕ). 13 ∷ x) e)))

with_end : (bytes line lf after : List ℕ) → bytes ≡ line ++ (lf ++ after) → LfOrNothing lf → (end : List ℕ) × IsLineEnd end × (bytes ≡ without_cr line ++ (end ++ after))
with_end bytes line lf after is end =
    elim (cr_cut line) [
      | inl same ↦ (lf, end_is lf end, is ∙ ap (λ (x : List ℕ). x ++ (lf ++ after)) same)
      | inr cr ↦ (13 ∷ lf, cr_end_is lf end, is ∙ ap (λ (x : List ℕ). x ++ (lf ++ after)) cr ∙ append_assoc (without_cr line) (13 ∷ []) (lf ++ after))
    ]

pub line_is_cut : (bytes : List ℕ) → (end : List ℕ) × IsLineEnd end × (bytes ≡ line_of bytes ++ (end ++ after_line bytes))
line_is_cut bytes =
    let at = position_or_len (is_byte 10) bytes in
    elim (cases_lt at (length bytes)) [
      | inl there ↦
          let ten : get_or bytes at 0 ≡ 10 = eqb-true _ 10 (passes_at_first (is_byte 10) bytes 0 there) in
          let cut : bytes ≡ before_first (is_byte 10) bytes ++ (10 ∷ after_first (is_byte 10) bytes) =
          split_at_first (is_byte 10) bytes 0 there ∙ ap (λ (b : ℕ). before_first (is_byte 10) bytes ++ (b ∷ after_first (is_byte 10) bytes)) ten in
          with_end bytes (before_first (is_byte 10) bytes) (10 ∷ []) (after_first (is_byte 10) bytes) cut (inr refl)
      | inr none ↦
          let before : before_first (is_byte 10) bytes ≡ bytes = take_all at bytes none in
          let after : after_first (is_byte 10) bytes ≡ [] = drop_all (at + 1) bytes (omega (arith, none)) in
          let cut : bytes ≡ before_first (is_byte 10) bytes ++ ([] ++ after_first (is_byte 10) bytes) =
          sym before ∙ sym (append-nil _) ∙ ap (λ (rest : List ℕ). before_first (is_byte 10) bytes ++ rest) (sym after) in
          with_end bytes (before_first (is_byte 10) bytes) [] (after_first (is_byte 10) bytes) cut (inl refl)
    ]

lf_cut : (xs : List ℕ) → (lf : List ℕ) × LfOrNothing lf × (xs ≡ lf ++ without_lf xs)
lf_cut [] = ([], inl refl, refl)
lf_cut (x ∷ xs) =
    elim (cases_Bool (eqb x 10)) [
      | inl so ↦ (10 ∷ [], inr refl, rw so (ap (λ (b : ℕ). b ∷ xs) (eqb-true x 10 so)))
      | inr off ↦ ([], inl refl, rw off refl)
    ]

pub last_line_is_cut : (bytes : List ℕ) → (end : List ℕ) × IsLineEnd end × (bytes ≡ last_line_of bytes ++ (end ++ tail_of bytes))
last_line_is_cut bytes =
    let at = position_or_len ends_last_line bytes in
    let lf = lf_cut (drop at bytes) in
    let cut : bytes ≡ before_first ends_last_line bytes ++ (lf.0 ++ tail_of bytes) =
    sym (take-append-drop at bytes) ∙ ap (λ (rest : List ℕ). take at bytes ++ rest) lf.2 in
    with_end bytes (before_first ends_last_line bytes) lf.0 (tail_of bytes) cut lf.1

pub after_line_shorter : (bytes : List ℕ) → 0 < length bytes → length (after_line bytes) < length bytes
after_line_shorter bytes some = omega (arith, some, length-drop (position_or_len (is_byte 10) bytes + 1) bytes)

-- ---- what ends a line doesn't stand in it

within_line : (xs : List ℕ) (k : ℕ) → k < length (without_cr xs) → (k < length xs) × (get_or (without_cr xs) k 0 ≡ get_or xs k 0)
within_line xs k lt =
    elim (cr_cut xs) [
      | inl same ↦ (omega (arith, lt, ap length same), ap (λ (l : List ℕ). get_or l k 0) (sym same))
      | inr cr ↦ (omega (arith, lt, ap length cr, length-append (without_cr xs) (13 ∷ [])), sym (ap (λ (l : List ℕ). get_or l k 0) cr ∙ get_or_append_left (without_cr xs) (13 ∷ []) 0 k lt))
    ]

not_within : (p : ℕ → Bool) (c : ℕ) (bytes : List ℕ) (k : ℕ) → p c ≡ true → k < length (without_cr (before_first p bytes)) → get_or (without_cr (before_first p bytes)) k 0 ≢ c
not_within p c bytes k ends lt = λ e.
    let at = position_or_len p bytes in
    let w = within_line (before_first p bytes) k lt in
    let early : k < at = omega (arith, w.0, length-take at bytes) in
    let same : get_or bytes k 0 ≡ c = sym (get_or-take at bytes k 0 early) ∙ sym w.1 ∙ e in
    true≢false (sym ends ∙ ap p (sym same) ∙ fails_before_first p bytes k 0 early)

pub no_lf_in_line : (bytes : List ℕ) (k : ℕ) → k < length (line_of bytes) → get_or (line_of bytes) k 0 ≢ 10
no_lf_in_line bytes k lt = not_within (is_byte 10) 10 bytes k refl lt

pub no_lf_in_last_line : (bytes : List ℕ) (k : ℕ) → k < length (last_line_of bytes) → get_or (last_line_of bytes) k 0 ≢ 10
no_lf_in_last_line bytes k lt = not_within ends_last_line 10 bytes k refl lt

pub no_mark_in_last_line : (bytes : List ℕ) (k : ℕ) → k < length (last_line_of bytes) → get_or (last_line_of bytes) k 0 ≢ 26
no_mark_in_last_line bytes k lt = not_within ends_last_line 26 bytes k refl lt
