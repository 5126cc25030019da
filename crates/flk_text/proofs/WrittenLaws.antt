-- What is written is read back: lines with their ends, and fields with commas between them.
use Rattle.std.proofs.Common.{◌≡◌, ℕ, zero, suc, ◌+◌, ◌-◌, ◌<◌, Bool, false, eqb, List, [], ◌∷◌, ◌++◌, length, get_or, take, drop, map, reverse, refl, sym, ap, subst, ◌∙◌, arith, inl, inr, ◌⊎◌, ℤ, length-append, append_assoc, one-add}
use Rattle.std.specs.Prelude.{not, All}
use Rattle.std.specs.List.{list_all, slice_split, prefix_len, suffix_len, position_or_len, before_first, after_first}
use Rattle.std.proofs.lemmas.Bool.{and_parts, and_from, not-true, ne_eqb, eqb-false, true≢false}
use Rattle.std.proofs.lemmas.List.Splits.{slice_split-cons_no}
use Rattle.std.proofs.lemmas.List.{take_all, get_or-reverse}
use Rattle.std.proofs.lemmas.List.Folds.{list_all-append}
use Rattle.std.proofs.lemmas.List.Elements.{All-head, All-tail}
use Rattle.std.proofs.Math.Seq.{take-append_seam, drop-append-add, get_or-append_seam}
use Rattle.flk_text.specs.Numeral.{is_digit, AreDigits, IsSign, IsFraction, IsExponent, IsNumeral, Numeral}
use Rattle.flk_text.specs.Decimal.{IsDecimal}
use Rattle.flk_text.specs.Lines.{is_byte, Lacks, without_cr, line_of, after_line}
use Rattle.flk_text.specs.Fields.{trimmed, trimmed_front, trimmed_back, fields, joined_fields, IsField}

-- ---- fields

pub split_front : (xs ys : List ℕ) → Lacks 44 xs → slice_split (is_byte 44) (xs ++ (44 ∷ ys)) ≡ xs ∷ slice_split (is_byte 44) ys
split_front [] ys h = refl
split_front (x ∷ xs) ys h =
    let p = and_parts (not (eqb x 44)) (list_all (λ b. not (eqb b 44)) xs) h in
    slice_split-cons_no (is_byte 44) x (xs ++ (44 ∷ ys)) (not-true (eqb x 44) p.0) ∙ rw (split_front xs ys p.1) refl

pub split_last : (xs : List ℕ) → Lacks 44 xs → slice_split (is_byte 44) xs ≡ xs ∷ []
split_last [] h = refl
split_last (x ∷ xs) h =
    let p = and_parts (not (eqb x 44)) (list_all (λ b. not (eqb b 44)) xs) h in
    slice_split-cons_no (is_byte 44) x xs (not-true (eqb x 44) p.0) ∙ rw (split_last xs p.1) refl

-- a text without spaces is not trimmed
first_no : (xs : List ℕ) → (get_or xs 0 0 ≡ 32 → ⊥) → prefix_len (is_byte 32) xs ≡ 0
first_no [] h = refl
first_no (x ∷ xs) h =
    let off : is_byte 32 x ≡ false = ne_eqb x 32 h in
    rw off refl

last_no : (xs : List ℕ) → (get_or xs (length xs - 1) 0 ≡ 32 → ⊥) → get_or (reverse xs) 0 0 ≡ 32 → ⊥
last_no [] h e = h e
last_no (x ∷ xs) h e =
    let there : 0 < length (x ∷ xs) = omega arith in
    let same : length (x ∷ xs) - 1 - 0 ≡ length (x ∷ xs) - 1 = omega arith in
    h (ap (λ (i : ℕ). get_or (x ∷ xs) i 0) (sym same) ∙ sym (get_or-reverse (x ∷ xs) 0 0 there) ∙ e)

pub stays : (xs : List ℕ) → (get_or xs 0 0 ≡ 32 → ⊥) → (get_or xs (length xs - 1) 0 ≡ 32 → ⊥) → trimmed xs ≡ xs
stays xs first last =
    let front : trimmed_front xs ≡ xs = ap (λ (n : ℕ). drop n xs) (first_no xs first) in
    let none : suffix_len (is_byte 32) xs ≡ 0 = first_no (reverse xs) (last_no xs last) in
    let back : trimmed_back xs ≡ xs = take_all (length xs - suffix_len (is_byte 32) xs) xs (omega (arith, none)) in
    ap trimmed_back front ∙ back

lacks_at : (xs : List ℕ) (i : ℕ) → Lacks 32 xs → get_or xs i 0 ≡ 32 → ⊥
lacks_at [] i h e = omega (arith, e)
lacks_at (x ∷ xs) zero h e =
    let p = and_parts (not (eqb x 32)) (list_all (λ b. not (eqb b 32)) xs) h in
    eqb-false x 32 (not-true (eqb x 32) p.0) e
lacks_at (x ∷ xs) (suc i) h e = lacks_at xs i (and_parts (not (eqb x 32)) (list_all (λ b. not (eqb b 32)) xs) h).1 e

pub lacks_stays : (xs : List ℕ) → Lacks 32 xs → trimmed xs ≡ xs
lacks_stays xs h = stays xs (lacks_at xs 0 h) (lacks_at xs (length xs - 1) h)

-- ---- the text of a decimal has no comma and no space

pub digits_lack : (c : ℕ) (ds : List ℕ) → is_digit c ≡ false → AreDigits ds → Lacks c ds
digits_lack c [] off are = refl
digits_lack c (d ∷ ds) off are =
    let p = and_parts (is_digit d) (list_all is_digit ds) are in
    let other : eqb d c ≡ false = ne_eqb d c (λ e. true≢false (sym p.0 ∙ ap is_digit e ∙ off)) in
    rw other (digits_lack c ds off p.1)

pub lacks-append : (c : ℕ) (a b : List ℕ) → Lacks c a → Lacks c b → Lacks c (a ++ b)
lacks-append c a b la lb = list_all-append (λ x. not (eqb x c)) a b ∙ and_from (list_all (λ x. not (eqb x c)) a) (list_all (λ x. not (eqb x c)) b) la lb

-- a byte that no number has
pub record IsApart (c : ℕ) : Type 0 where
  pub digit : is_digit c ≡ false
  pub plus : Lacks c (43 ∷ [])
  pub minus : Lacks c (45 ∷ [])
  pub point : Lacks c (46 ∷ [])
  pub upper : Lacks c (69 ∷ [])
  pub lower : Lacks c (101 ∷ [])

pub comma_apart : IsApart 44
comma_apart = record { digit = refl; plus = refl; minus = refl; point = refl; upper = refl; lower = refl }

pub space_apart : IsApart 32
space_apart = record { digit = refl; plus = refl; minus = refl; point = refl; upper = refl; lower = refl }

pub sign_lacks : (c : ℕ) (sign : List ℕ) (m : Bool) → IsApart c → IsSign sign m → Lacks c sign
sign_lacks c sign m a (inl s) = subst (Lacks c) (sym s.0) refl
sign_lacks c sign m a (inr (inl s)) = subst (Lacks c) (sym s.0) a.plus
sign_lacks c sign m a (inr (inr s)) = subst (Lacks c) (sym s.0) a.minus

letter_lacks : (c b : ℕ) → IsApart c → (b ≡ 69) ⊎ (b ≡ 101) → Lacks c (b ∷ [])
letter_lacks c b a (inl e) = subst (λ (x : ℕ). Lacks c (x ∷ [])) (sym e) a.upper
letter_lacks c b a (inr e) = subst (λ (x : ℕ). Lacks c (x ∷ [])) (sym e) a.lower

fraction_lacks : (c : ℕ) (part ds : List ℕ) → IsApart c → IsFraction part ds → Lacks c part
fraction_lacks c part ds a (inl f) = subst (Lacks c) (sym f.0) refl
fraction_lacks c part ds a (inr f) = subst (Lacks c) (sym f.0) (lacks-append c (46 ∷ []) ds a.point (digits_lack c ds a.digit f.1))

exponent_lacks : (c : ℕ) (part : List ℕ) (r l : ℕ) → IsApart c → IsExponent part r l → Lacks c part
exponent_lacks c part r l a (inl e) = subst (Lacks c) (sym e.0) refl
exponent_lacks c part r l a (inr p) =
    subst (Lacks c) (sym p.part_is) (lacks-append c (p.letter ∷ []) (p.sign ++ p.digits) (letter_lacks c p.letter a p.letter_is)
    (lacks-append c p.sign p.digits (sign_lacks c p.sign p.minus a p.sign_is) (digits_lack c p.digits a.digit p.are)))

pub numeral_lacks : (c : ℕ) (text : List ℕ) (d : Numeral) → IsApart c → IsNumeral text d → Lacks c text
numeral_lacks c text d a n =
    subst (Lacks c) (sym n.text_is) (lacks-append c n.sign (d.whole ++ (n.fraction ++ n.exponent)) (sign_lacks c n.sign d.minus a n.sign_is)
    (lacks-append c d.whole (n.fraction ++ n.exponent) (digits_lack c d.whole a.digit n.whole_is)
    (lacks-append c n.fraction n.exponent (fraction_lacks c n.fraction d.fraction a n.fraction_is) (exponent_lacks c n.exponent d.right d.left a n.exponent_is))))

-- ---- joined fields

parts_joined : (f : List ℕ) (fs : List (List ℕ)) → All IsField (f ∷ fs) → slice_split (is_byte 44) (joined_fields (f ∷ fs)) ≡ f ∷ fs
parts_joined f [] all = split_last f (All-head IsField f [] all).no_comma
parts_joined f (g ∷ gs) all = split_front f (joined_fields (g ∷ gs)) (All-head IsField f (g ∷ gs) all).no_comma ∙ ap (λ (r : List (List ℕ)). f ∷ r) (parts_joined g gs (All-tail IsField f (g ∷ gs) all))

trims_none : (fs : List (List ℕ)) → All IsField fs → map trimmed fs ≡ fs
trims_none [] all = refl
trims_none (f ∷ fs) all = ap (λ (x : List ℕ). x ∷ map trimmed fs) (All-head IsField f fs all).tight ∙ ap (λ (r : List (List ℕ)). f ∷ r) (trims_none fs (All-tail IsField f fs all))

pub fields_joined : (fs : List (List ℕ)) → 0 < length fs → All IsField fs → fields (joined_fields fs) ≡ fs
unfolding fields
fields_joined [] some all = absurd (omega (arith, some))
fields_joined (f ∷ fs) some all = ap (map trimmed) (parts_joined f fs all) ∙ trims_none (f ∷ fs) all

pub lf_apart : IsApart 10
lf_apart = record { digit = refl; plus = refl; minus = refl; point = refl; upper = refl; lower = refl }

pub decimal_is_field : (text : List ℕ) (z : ℤ) → IsDecimal text z → IsField text
decimal_is_field text z d = record {
  no_comma = numeral_lacks 44 text d.numeral comma_apart d.spelled;
  tight = lacks_stays text (numeral_lacks 32 text d.numeral space_apart d.spelled);
}

pub decimal_lacks_lf : (text : List ℕ) (z : ℤ) → IsDecimal text z → Lacks 10 text
decimal_lacks_lf text z d = numeral_lacks 10 text d.numeral lf_apart d.spelled

-- ---- lines

lf_place : (line rest : List ℕ) → Lacks 10 line → position_or_len (is_byte 10) (line ++ (10 ∷ rest)) ≡ length line
lf_place [] rest h = refl
lf_place (x ∷ xs) rest h =
    let p = and_parts (not (eqb x 10)) (list_all (λ b. not (eqb b 10)) xs) h in
    let off : eqb x 10 ≡ false = not-true (eqb x 10) p.0 in
    rw off (ap (λ (n : ℕ). 1 + n) (lf_place xs rest p.1) ∙ one-add (length xs))

pub cr_dropped : (line : List ℕ) → without_cr (line ++ (13 ∷ [])) ≡ line
cr_dropped line =
    let last : length (line ++ (13 ∷ [])) - 1 ≡ length line = omega (arith, length-append line (13 ∷ [])) in
    let cr : get_or (line ++ (13 ∷ [])) (length line) 0 ≡ 13 = get_or-append_seam line 13 [] 0 in
    rw (last, cr) (take-append_seam line (13 ∷ []))

-- the bytes up to the LF, and those after it
written : (line rest : List ℕ) → Lacks 10 line → (before_first (is_byte 10) (line ++ (10 ∷ rest)) ≡ line) × (after_first (is_byte 10) (line ++ (10 ∷ rest)) ≡ rest)
written line rest h =
    let at = lf_place line rest h in
    (ap (λ (n : ℕ). take n (line ++ (10 ∷ rest))) at ∙ take-append_seam line (10 ∷ rest), ap (λ (n : ℕ). drop (n + 1) (line ++ (10 ∷ rest))) at ∙ drop-append-add line (10 ∷ rest) 1)

with_cr : (line rest : List ℕ) → (line ++ (13 ∷ [])) ++ (10 ∷ rest) ≡ line ++ (13 ∷ (10 ∷ rest))
with_cr line rest = append_assoc line (13 ∷ []) (10 ∷ rest)

cr_lacks : (line : List ℕ) → Lacks 10 line → Lacks 10 (line ++ (13 ∷ []))
cr_lacks line h = lacks-append 10 line (13 ∷ []) h refl

pub line_of-written : (line rest : List ℕ) → Lacks 10 line → line_of (line ++ (13 ∷ (10 ∷ rest))) ≡ line
line_of-written line rest h =
    ap line_of (sym (with_cr line rest)) ∙ ap without_cr (written (line ++ (13 ∷ [])) rest (cr_lacks line h)).0 ∙ cr_dropped line

pub after_line-written : (line rest : List ℕ) → Lacks 10 line → after_line (line ++ (13 ∷ (10 ∷ rest))) ≡ rest
after_line-written line rest h =
    ap after_line (sym (with_cr line rest)) ∙ (written (line ++ (13 ∷ [])) rest (cr_lacks line h)).1
