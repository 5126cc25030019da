-- What the parts of a number's text are, and that they are found again.
use Rattle.std.proofs.Common.{◌≡◌, ℕ, suc, ◌+◌, ◌-◌, ◌*◌, ◌^◌, ◌<◌, ◌≤◌, true, false, leb, List, [], ◌∷◌, ◌++◌, length, refl, sym, ap, subst, ◌∙◌, arith, inl, inr, add-one, one-add}
use Rattle.std.specs.List.{prefix_len, list_all}
use Rattle.std.proofs.lemmas.List.{take-append-drop}
use Rattle.std.proofs.lemmas.Grind.{pow_more}
use Rattle.std.proofs.lemmas.Bool.{cases_Bool, and_parts, leb-true}
use Rattle.std.proofs.Math.Nat.{mul-le-mul_right}
use Rattle.flk_text.specs.Numeral.{is_digit, number_from, AreDigits}
use Rattle.flk_text.specs.NumeralParts.{digits_of, after_digits}

-- no digit stands in front
abbrev pub StopsDigits : List ℕ → Type 0
StopsDigits [] = Unit {0}
StopsDigits (b ∷ bs) = is_digit b ≡ false

digits_cons : (b : ℕ) (bs : List ℕ) → is_digit b ≡ true → digits_of (b ∷ bs) ≡ b ∷ digits_of bs
digits_cons b bs d = rw (d, one-add (prefix_len is_digit bs)) refl

after_cons : (b : ℕ) (bs : List ℕ) → is_digit b ≡ true → after_digits (b ∷ bs) ≡ after_digits bs
after_cons b bs d = rw (d, one-add (prefix_len is_digit bs)) refl

digits_none : (b : ℕ) (bs : List ℕ) → is_digit b ≡ false → (digits_of (b ∷ bs) ≡ []) × (after_digits (b ∷ bs) ≡ b ∷ bs)
digits_none b bs d = (rw d refl, rw d refl)

pub digits_are : (bytes : List ℕ) → AreDigits (digits_of bytes)
digits_are [] = refl
digits_are (b ∷ bs) =
    elim (cases_Bool (is_digit b)) [
      | inl d ↦ subst (λ (t : List ℕ). AreDigits t) (sym (digits_cons b bs d)) (rw d (digits_are bs))
      | inr d ↦ subst (λ (t : List ℕ). AreDigits t) (sym (digits_none b bs d).0) refl
    ]

pub digits_stop : (bytes : List ℕ) → StopsDigits (after_digits bytes)
digits_stop [] = tt
digits_stop (b ∷ bs) =
    elim (cases_Bool (is_digit b)) [
      | inl d ↦ subst StopsDigits (sym (after_cons b bs d)) (digits_stop bs)
      | inr d ↦ subst StopsDigits (sym (digits_none b bs d).1) d
    ]

pub digits_cut : (bytes : List ℕ) → bytes ≡ digits_of bytes ++ after_digits bytes
digits_cut bytes = sym (take-append-drop (prefix_len is_digit bytes) bytes)

pub digits_front : (ds rest : List ℕ) → AreDigits ds → StopsDigits rest → digits_of (ds ++ rest) ≡ ds
digits_front [] [] are stops = refl
digits_front [] (b ∷ rest) are stops = (digits_none b rest stops).0
digits_front (d ∷ ds) rest are stops =
    let h = and_parts (is_digit d) (list_all is_digit ds) are in
    digits_cons d (ds ++ rest) h.0 ∙ ap (λ (t : List ℕ). d ∷ t) (digits_front ds rest h.1 stops)

pub digits_after : (ds rest : List ℕ) → AreDigits ds → StopsDigits rest → after_digits (ds ++ rest) ≡ rest
digits_after [] [] are stops = refl
digits_after [] (b ∷ rest) are stops = (digits_none b rest stops).1
digits_after (d ∷ ds) rest are stops =
    let h = and_parts (is_digit d) (list_all is_digit ds) are in
    after_cons d (ds ++ rest) h.0 ∙ digits_after ds rest h.1 stops

pub digit_most : (d : ℕ) → is_digit d ≡ true → d - 48 ≤ 9
digit_most d is =
    let h = and_parts (leb 48 d) (leb d 57) is in
    let most : d ≤ 57 = leb-true d 57 h.1 in
    omega arith

pub number_small : (n : ℕ) (ds : List ℕ) → AreDigits ds → number_from n ds < (n + 1) * 10 ^ length ds
number_small n [] are = omega arith
number_small n (d ∷ ds) are =
    let h = and_parts (is_digit d) (list_all is_digit ds) are in
    let most : d - 48 ≤ 9 = digit_most d h.0 in
    let ih : number_from (n * 10 + (d - 48)) ds < (n * 10 + (d - 48) + 1) * 10 ^ length ds = number_small (n * 10 + (d - 48)) ds h.1 in
    let grow : (n * 10 + (d - 48) + 1) * 10 ^ length ds ≤ (n * 10 + 10) * 10 ^ length ds = mul-le-mul_right (10 ^ length ds) (omega arith) in
    let power : 10 ^ suc (length ds) ≡ 10 ^ length ds * 10 = ap (λ (k : ℕ). 10 ^ k) (sym (add-one (length ds))) ∙ pow_more 10 (length ds) in
    let same : (n + 1) * 10 ^ suc (length ds) ≡ (n * 10 + 10) * 10 ^ length ds = rw power (omega arith) in
    omega (arith, ih, grow, same)

pub number_three : (ds : List ℕ) → AreDigits ds → length ds ≤ 3 → number_from 0 ds < 1000
number_three [] are few = omega arith
number_three (a ∷ []) are few = omega (arith, number_small 0 (a ∷ []) are)
number_three (a ∷ b ∷ []) are few = omega (arith, number_small 0 (a ∷ b ∷ []) are)
number_three (a ∷ b ∷ c ∷ []) are few = number_small 0 (a ∷ b ∷ c ∷ []) are
number_three (a ∷ b ∷ c ∷ d ∷ ds) are few = absurd (omega arith)
