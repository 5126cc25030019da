-- A numeral is found exactly where the text is one.
use Rattle.std.proofs.Common.{◌≡◌, ℕ, zero, suc, ◌+◌, ◌^◌, ◌<◌, ◌≤◌, Bool, true, false, cond, ltb, leb, eqb, ◌&&◌, ◌||◌, List, [], ◌∷◌, ◌++◌, length, Option, Some, None, refl, sym, ap, subst, ◌∙◌, arith, inl, inr, ◌⊎◌, ℤ}
use Rattle.std.specs.List.{list_all}
use Rattle.std.proofs.lemmas.List.{append-nil, nil_from_length}
use Rattle.std.proofs.lemmas.Bool.{cases_Bool, and_parts, leb-true, eqb-true, ltb-true, ne_eqb, lt-ltb, le-leb, true≢false, or_cases}
use Rattle.flk_text.specs.Numeral.{is_digit, number_from, digits_number, AreDigits, IsSign, IsFraction, IsExponent, IsNumeral, Numeral}
use Rattle.flk_text.specs.Decimal.{IsUnits, IsInSet, IsDecimal, IsForm, signed}
use Rattle.flk_text.proofs.PowersOfTen.{cancel}
use Rattle.flk_text.specs.WholeNumber.{IsWhole, IsWholeValue, IsWholeForm}
use Rattle.flk_text.specs.NumeralParts.{◌>>=◌, digits_of, after_digits, sign_of, fraction_of, exponent_of, numeral_of, whole_of}
use Rattle.flk_text.proofs.DigitRuns.{StopsDigits, digits_are, digits_cut, digits_front, digits_after}

-- ---- signs

abbrev pub NoSign : List ℕ → Type 0
NoSign [] = Unit {0}
NoSign (b ∷ bs) = (eqb b 45 ≡ false) × (eqb b 43 ≡ false)

pub record Signed (bytes rest : List ℕ) (minus : Bool) : Type 0 where
  pub sign : List ℕ
  pub is : IsSign sign minus
  pub cut : bytes ≡ sign ++ rest

pub sign_found : (bytes : List ℕ) → Signed bytes (sign_of bytes).1 (sign_of bytes).0
unfolding sign_of
sign_found [] = record { sign = []; is = inl (refl, refl); cut = refl }
sign_found (b ∷ bs) =
    elim (cases_Bool (eqb b 45)) [
      | inl so ↦ rw so (record { sign = 45 ∷ []; is = inr (inr (refl, refl)); cut = ap (λ (x : ℕ). x ∷ bs) (eqb-true b 45 so) })
      | inr off ↦ elim (cases_Bool (eqb b 43)) [
        | inl so ↦ rw (off, so) (record { sign = 43 ∷ []; is = inr (inl (refl, refl)); cut = ap (λ (x : ℕ). x ∷ bs) (eqb-true b 43 so) })
        | inr none ↦ rw (off, none) (record { sign = []; is = inl (refl, refl); cut = refl })
      ]
    ]

sign_none : (rest : List ℕ) → NoSign rest → sign_of rest ≡ (false, rest)
unfolding sign_of
sign_none [] off = refl
sign_none (b ∷ bs) off =
    let x : eqb b 45 ≡ false = off.0 in
    let y : eqb b 43 ≡ false = off.1 in
    rw (x, y) refl

sign_plus : (rest : List ℕ) → sign_of (43 ∷ rest) ≡ (false, rest)
unfolding sign_of
sign_plus rest = refl

sign_minus : (rest : List ℕ) → sign_of (45 ∷ rest) ≡ (true, rest)
unfolding sign_of
sign_minus rest = refl

pub sign_again : (sign rest : List ℕ) (minus : Bool) → IsSign sign minus → NoSign rest → sign_of (sign ++ rest) ≡ (minus, rest)
sign_again sign rest minus (inl is) off = rw (is.0, is.1) (sign_none rest off)
sign_again sign rest minus (inr (inl is)) off = rw (is.0, is.1) (sign_plus rest)
sign_again sign rest minus (inr (inr is)) off = rw (is.0, is.1) (sign_minus rest)

digit_no_sign : (b : ℕ) (bs : List ℕ) → is_digit b ≡ true → NoSign (b ∷ bs)
digit_no_sign b bs d =
    let low : 48 ≤ b = leb-true 48 b (and_parts (leb 48 b) (leb b 57) d).0 in
    (ne_eqb b 45 (λ e. omega (arith, e, low)), ne_eqb b 43 (λ e. omega (arith, e, low)))

pub digits_no_sign : (ds rest : List ℕ) → AreDigits ds → 0 < length ds → NoSign (ds ++ rest)
digits_no_sign [] rest are some = absurd (omega (arith, some))
digits_no_sign (d ∷ ds) rest are some = digit_no_sign d (ds ++ rest) (and_parts (is_digit d) (list_all is_digit ds) are).0

-- ---- guards

pub some_is : {A : Type 0} (x y : A) → Some x ≡ Some y → x ≡ y
some_is x y e = cc

pub guard_some : {A : Type 0} (t : Bool) (x : Option A) (y : A) → cond t x None ≡ Some y → (t ≡ true) × (x ≡ Some y)
guard_some true x y e = (refl, e)
guard_some false x y e = absurd cc

pub guard_not : {A : Type 0} (t : Bool) (x : Option A) (y : A) → cond t None x ≡ Some y → (t ≡ false) × (x ≡ Some y)
guard_not true x y e = absurd cc
guard_not false x y e = (refl, e)

pub bind_some : {A B : Type 0} (o : Option A) (f : A → Option B) (y : B) → (o >>= f) ≡ Some y → (x : A) × (o ≡ Some x) × (f x ≡ Some y)
bind_some (Some x) f y e = (x, refl, e)
bind_some None f y e = absurd cc

length_zero : (xs : List ℕ) → eqb (length xs) 0 ≡ true → xs ≡ []
length_zero xs e = nil_from_length xs (eqb-true _ _ e)

none_some : {A : Type 0} (x : A) → None ≡ Some x → ⊥
none_some x e = cc

-- ---- exponents

abbrev both : ℕ → ℕ → ℕ × ℕ
both r l = (r, l)

pick : (m : Bool) (k right left : ℕ) → right ≡ cond m 0 k → left ≡ cond m k 0 → cond m (both 0 k) (both k 0) ≡ both right left
pick true k right left r l = rw (r, l) refl
pick false k right left r l = rw (r, l) refl

picked : (m : Bool) (k : ℕ) (e : ℕ × ℕ) → cond m (both 0 k) (both k 0) ≡ e → (e.0 ≡ cond m 0 k) × (e.1 ≡ cond m k 0)
picked true k e is = (sym (ap (λ (p : ℕ × ℕ). p.0) is), sym (ap (λ (p : ℕ × ℕ). p.1) is))
picked false k e is = (sym (ap (λ (p : ℕ × ℕ). p.0) is), sym (ap (λ (p : ℕ × ℕ). p.1) is))

abbrev fits : List ℕ → Bool
fits rest = (eqb (length (after_digits rest)) 0 && ltb 0 (length (digits_of rest))) && leb (length (digits_of rest)) 3

exponent_at : (b : ℕ) (bs rest : List ℕ) (minus : Bool) (e : ℕ × ℕ) → (eqb b 69 || eqb b 101) ≡ true → sign_of bs ≡ (minus, rest) → fits rest ≡ true
    → cond minus (both 0 (number_from 0 (digits_of rest))) (both (number_from 0 (digits_of rest)) 0) ≡ e → exponent_of (b ∷ bs) ≡ Some e
unfolding exponent_of
exponent_at b bs rest minus e letter s fit is = rw (letter, s, fit, is) refl

letter_test : (b : ℕ) → (b ≡ 69) ⊎ (b ≡ 101) → (eqb b 69 || eqb b 101) ≡ true
letter_test b (inl e) = rw e refl
letter_test b (inr e) = rw e refl

letter_from : (b : ℕ) → (eqb b 69 || eqb b 101) ≡ true → (b ≡ 69) ⊎ (b ≡ 101)
letter_from b t =
    elim (or_cases (eqb b 69) (eqb b 101) t) [
      | inl e ↦ inl (eqb-true b 69 e)
      | inr e ↦ inr (eqb-true b 101 e)
    ]

exponent_none : (right left : ℕ) → right ≡ 0 → left ≡ 0 → exponent_of [] ≡ Some (right, left)
unfolding exponent_of
exponent_none right left r l = rw (r, l) refl

all_digits : (ds : List ℕ) → AreDigits ds → (digits_of ds ≡ ds) × (after_digits ds ≡ [])
all_digits ds are =
    (ap digits_of (sym (append-nil ds)) ∙ digits_front ds [] are tt, ap after_digits (sym (append-nil ds)) ∙ digits_after ds [] are tt)

pub exponent_again : (part : List ℕ) (right left : ℕ) → IsExponent part right left → exponent_of part ≡ Some (right, left)
exponent_again part right left (inl is) = ap exponent_of is.0 ∙ exponent_none right left is.1 is.2
exponent_again part right left (inr p) =
    let clear : NoSign p.digits = subst NoSign (append-nil p.digits) (digits_no_sign p.digits [] p.are p.some) in
    let s : sign_of (p.sign ++ p.digits) ≡ (p.minus, p.digits) = sign_again p.sign p.digits p.minus p.sign_is clear in
    let a = all_digits p.digits p.are in
    let ds : digits_of p.digits ≡ p.digits = a.0 in
    let after : after_digits p.digits ≡ [] = a.1 in
    let one : ltb 0 (length p.digits) ≡ true = lt-ltb 0 (length p.digits) p.some in
    let three : leb (length p.digits) 3 ≡ true = le-leb (length p.digits) 3 p.few in
    let fit : fits p.digits ≡ true = rw (after, ds, one, three) refl in
    let value : cond p.minus (both 0 (number_from 0 (digits_of p.digits))) (both (number_from 0 (digits_of p.digits)) 0) ≡ both right left = rw ds (pick p.minus (number_from 0 p.digits) right left p.right_is p.left_is) in
    ap exponent_of p.part_is ∙ exponent_at p.letter (p.sign ++ p.digits) p.digits p.minus (right, left) (letter_test p.letter p.letter_is) s fit value

pub exponent_found : (part : List ℕ) (e : ℕ × ℕ) → exponent_of part ≡ Some e → IsExponent part e.0 e.1
unfolding exponent_of
exponent_found [] e is =
    let same : both 0 0 ≡ e = some_is (both 0 0) e is in
    inl (refl, sym (ap (λ (p : ℕ × ℕ). p.0) same), sym (ap (λ (p : ℕ × ℕ). p.1) same))
exponent_found (b ∷ bs) e is =
    let rest = (sign_of bs).1 in
    let g = guard_some (eqb b 69 || eqb b 101) _ e is in
    let h = guard_some (fits rest) _ e g.1 in
    let v = picked (sign_of bs).0 (number_from 0 (digits_of rest)) e (some_is _ e h.1) in
    let t = and_parts (eqb (length (after_digits rest)) 0 && ltb 0 (length (digits_of rest))) (leb (length (digits_of rest)) 3) h.0 in
    let u = and_parts (eqb (length (after_digits rest)) 0) (ltb 0 (length (digits_of rest))) t.0 in
    let s = sign_found bs in
    let cut : rest ≡ digits_of rest = digits_cut rest ∙ ap (λ (x : List ℕ). digits_of rest ++ x) (length_zero (after_digits rest) u.0) ∙ append-nil (digits_of rest) in
    inr (record {
      letter = b;
      sign = s.sign;
      minus = (sign_of bs).0;
      digits = digits_of rest;
      part_is = ap (λ (x : List ℕ). b ∷ x) (s.cut ∙ ap (λ (x : List ℕ). s.sign ++ x) cut);
      letter_is = letter_from b g.0;
      sign_is = s.is;
      are = digits_are rest;
      some = ltb-true 0 (length (digits_of rest)) u.1;
      few = leb-true (length (digits_of rest)) 3 t.1;
      right_is = v.0;
      left_is = v.1;
    })

-- ---- fractions

pub record Pointed (bytes ds rest : List ℕ) : Type 0 where
  pub part : List ℕ
  pub is : IsFraction part ds
  pub cut : bytes ≡ part ++ rest

pub fraction_found : (bytes : List ℕ) → Pointed bytes (fraction_of bytes).0 (fraction_of bytes).1
unfolding fraction_of
fraction_found [] = record { part = []; is = inl (refl, refl); cut = refl }
fraction_found (b ∷ bs) =
    elim (cases_Bool (eqb b 46)) [
      | inl so ↦ rw so (record { part = 46 ∷ digits_of bs; is = inr (refl, digits_are bs); cut = ap (λ (x : ℕ). x ∷ bs) (eqb-true b 46 so) ∙ ap (λ (x : List ℕ). 46 ∷ x) (digits_cut bs) })
      | inr off ↦ rw off (record { part = []; is = inl (refl, refl); cut = refl })
    ]

abbrev NoPoint : List ℕ → Type 0
NoPoint [] = Unit {0}
NoPoint (b ∷ bs) = eqb b 46 ≡ false

fraction_none : (rest : List ℕ) → NoPoint rest → fraction_of rest ≡ ([], rest)
unfolding fraction_of
fraction_none [] off = refl
fraction_none (b ∷ bs) off =
    let x : eqb b 46 ≡ false = off in
    rw x refl

fraction_some : (ds rest : List ℕ) → AreDigits ds → StopsDigits rest → fraction_of (46 ∷ (ds ++ rest)) ≡ (ds, rest)
unfolding fraction_of
fraction_some ds rest are stops = rw (digits_front ds rest are stops, digits_after ds rest are stops) refl

pub fraction_again : (part ds rest : List ℕ) → IsFraction part ds → StopsDigits rest → NoPoint rest → fraction_of (part ++ rest) ≡ (ds, rest)
fraction_again part ds rest (inl is) stops off = rw (is.0, is.1) (fraction_none rest off)
fraction_again part ds rest (inr is) stops off = rw is.0 (fraction_some ds rest is.1 stops)

letter_stops : (b : ℕ) (bs : List ℕ) → (b ≡ 69) ⊎ (b ≡ 101) → StopsDigits (b ∷ bs) × NoPoint (b ∷ bs)
letter_stops b bs (inl e) = rw e (refl, refl)
letter_stops b bs (inr e) = rw e (refl, refl)

exponent_stops : (part : List ℕ) (right left : ℕ) → IsExponent part right left → StopsDigits part × NoPoint part
exponent_stops part right left (inl is) = rw is.0 (tt, tt)
exponent_stops part right left (inr p) = rw p.part_is (letter_stops p.letter (p.sign ++ p.digits) p.letter_is)

-- ---- decimals

some_from : (n : ℕ) → eqb n 0 ≡ false → 0 < n
some_from zero e = absurd (true≢false e)
some_from (suc n) e = omega arith

pub numeral_found : (text : List ℕ) (d : Numeral) → numeral_of text ≡ Some d → IsNumeral text d
unfolding numeral_of
numeral_found text d is =
    let s = sign_found text in
    let rest = (sign_of text).1 in
    let f = fraction_of (after_digits rest) in
    let p = fraction_found (after_digits rest) in
    let g = guard_not (eqb (length (digits_of rest) + length f.0) 0) _ d is in
    let b = bind_some (exponent_of f.1) (λ e. Some (record { minus = (sign_of text).0; whole = digits_of rest; fraction = f.0; right = e.0; left = e.1 })) d g.1 in
    let made : Numeral = record { minus = (sign_of text).0; whole = digits_of rest; fraction = f.0; right = b.0.0; left = b.0.1 } in
    subst (IsNumeral text) (some_is made d b.2) (record {
      sign = s.sign;
      fraction = p.part;
      exponent = f.1;
      text_is = s.cut ∙ ap (λ (x : List ℕ). s.sign ++ x) (digits_cut rest ∙ ap (λ (x : List ℕ). digits_of rest ++ x) p.cut);
      sign_is = s.is;
      whole_is = digits_are rest;
      fraction_is = p.is;
      some = some_from _ g.0;
      exponent_is = exponent_found f.1 b.0 b.1;
    })

numeral_at : (text rest after : List ℕ) (d : Numeral) → sign_of text ≡ (d.minus, rest) → digits_of rest ≡ d.whole → fraction_of (after_digits rest) ≡ (d.fraction, after)
    → 0 < length d.whole + length d.fraction → exponent_of after ≡ Some (d.right, d.left) → numeral_of text ≡ Some d
unfolding numeral_of
numeral_at text rest after d s w f some e =
    let more : eqb (length d.whole + length d.fraction) 0 ≡ false = ne_eqb (length d.whole + length d.fraction) 0 (λ z. omega (arith, z, some)) in
    rw (s, w, f, more, e) refl

numeral_starts : (whole part ds exponent : List ℕ) → AreDigits whole → IsFraction part ds → 0 < length whole + length ds → StopsDigits exponent → NoSign (whole ++ (part ++ exponent)) × StopsDigits (part ++ exponent)
numeral_starts [] part ds exponent are (inl is) some stop = absurd (omega (arith, some, ap length is.1))
numeral_starts [] part ds exponent are (inr is) some stop = rw is.0 ((refl, refl), refl)
numeral_starts (w ∷ ws) part ds exponent are (inl is) some stop = (digits_no_sign (w ∷ ws) (part ++ exponent) are (omega arith), rw is.0 stop)
numeral_starts (w ∷ ws) part ds exponent are (inr is) some stop = (digits_no_sign (w ∷ ws) (part ++ exponent) are (omega arith), rw is.0 refl)

pub numeral_again : (text : List ℕ) (d : Numeral) → IsNumeral text d → numeral_of text ≡ Some d
numeral_again text d n =
    let stop = exponent_stops n.exponent d.right d.left n.exponent_is in
    let tail = n.fraction ++ n.exponent in
    let clear : NoSign (d.whole ++ tail) × StopsDigits tail = numeral_starts d.whole n.fraction d.fraction n.exponent n.whole_is n.fraction_is n.some stop.0 in
    let s : sign_of text ≡ (d.minus, d.whole ++ tail) = ap sign_of n.text_is ∙ sign_again n.sign (d.whole ++ tail) d.minus n.sign_is clear.0 in
    let w : digits_of (d.whole ++ tail) ≡ d.whole = digits_front d.whole tail n.whole_is clear.1 in
    let f : fraction_of (after_digits (d.whole ++ tail)) ≡ (d.fraction, n.exponent) = ap fraction_of (digits_after d.whole tail n.whole_is clear.1) ∙ fraction_again n.fraction d.fraction n.exponent n.fraction_is stop.0 stop.1 in
    numeral_at text (d.whole ++ tail) n.exponent d s w f n.some (exponent_again n.exponent d.right d.left n.exponent_is)

-- ---- values

pub one_value : (n right left u v : ℕ) → IsUnits n right left u → IsUnits n right left v → u ≡ v
one_value n right left u v p q = cancel u v left (p ∙ sym q)

-- a text is at most one decimal
pub decimal_once : (text : List ℕ) (y z : ℤ) → IsDecimal text y → IsDecimal text z → y ≡ z
decimal_once text y z p q =
    let same : p.numeral ≡ q.numeral = some_is p.numeral q.numeral (sym (numeral_again text p.numeral p.spelled) ∙ numeral_again text q.numeral q.spelled) in
    let value : IsUnits (digits_number q.numeral) q.numeral.right (q.numeral.left + length q.numeral.fraction) p.units =
    subst (λ (d : Numeral). IsUnits (digits_number d) d.right (d.left + length d.fraction) p.units) same p.value in
    let units : p.units ≡ q.units = one_value (digits_number q.numeral) q.numeral.right (q.numeral.left + length q.numeral.fraction) p.units q.units value q.value in
    p.signed_is ∙ ap (λ (d : Numeral). signed d.minus p.units) same ∙ ap (λ (u : ℕ). signed q.numeral.minus u) units ∙ sym q.signed_is

pub decimal_syntax : (text : List ℕ) → numeral_of text ≡ None → (d : Numeral) → IsNumeral text d → ⊥
decimal_syntax text none d n = none_some d (sym none ∙ numeral_again text d n)

pub decimal_value : (text : List ℕ) (d : Numeral) (u : ℕ) (z : ℤ) → numeral_of text ≡ Some d → IsUnits (digits_number d) d.right (d.left + length d.fraction) u → IsInSet u → z ≡ signed d.minus u → IsDecimal text z
decimal_value text d u z is value inside sign = record { numeral = d; units = u; spelled = numeral_found text d is; value = value; inside = inside; signed_is = sign }

pub decimal_range : (text : List ℕ) (d : Numeral) → numeral_of text ≡ Some d → ((u : ℕ) → IsUnits (digits_number d) d.right (d.left + length d.fraction) u → IsInSet u → ⊥)
    → IsForm text × ((z : ℤ) → IsDecimal text z → ⊥)
decimal_range text d is out = (
  (d, numeral_found text d is),
  λ z q.
      let same : q.numeral ≡ d = some_is q.numeral d (sym (numeral_again text q.numeral q.spelled) ∙ is) in
      out q.units (subst (λ (e : Numeral). IsUnits (digits_number e) e.right (e.left + length e.fraction) q.units) same q.value) q.inside,
)

-- ---- whole numbers

pub whole_found : (text : List ℕ) (w : Bool × List ℕ) → whole_of text ≡ Some w → IsWhole text w.0 (number_from 0 w.1)
unfolding whole_of
whole_found text w is =
    let s = sign_found text in
    let rest = (sign_of text).1 in
    let made : Bool × List ℕ = ((sign_of text).0, digits_of rest) in
    let g = guard_some (eqb (length (after_digits rest)) 0 && ltb 0 (length (digits_of rest))) (Some made) w is in
    let u = and_parts (eqb (length (after_digits rest)) 0) (ltb 0 (length (digits_of rest))) g.0 in
    let cut : rest ≡ digits_of rest = digits_cut rest ∙ ap (λ (x : List ℕ). digits_of rest ++ x) (length_zero (after_digits rest) u.0) ∙ append-nil (digits_of rest) in
    subst (λ (v : Bool × List ℕ). IsWhole text v.0 (number_from 0 v.1)) (some_is made w g.1) (record {
      sign = s.sign;
      digits = digits_of rest;
      text_is = s.cut ∙ ap (λ (x : List ℕ). s.sign ++ x) cut;
      sign_is = s.is;
      are = digits_are rest;
      some = ltb-true 0 (length (digits_of rest)) u.1;
      value = refl;
    })

whole_at : (text ds : List ℕ) (minus : Bool) → sign_of text ≡ (minus, ds) → digits_of ds ≡ ds → after_digits ds ≡ [] → ltb 0 (length ds) ≡ true → whole_of text ≡ Some (minus, ds)
unfolding whole_of
whole_at text ds minus s d a one = rw (s, a, d, one) refl

pub whole_again : (text : List ℕ) (minus : Bool) (n : ℕ) → (w : IsWhole text minus n) → whole_of text ≡ Some (minus, w.digits)
whole_again text minus n w =
    let clear : NoSign w.digits = subst NoSign (append-nil w.digits) (digits_no_sign w.digits [] w.are w.some) in
    let a = all_digits w.digits w.are in
    whole_at text w.digits minus (ap sign_of w.text_is ∙ sign_again w.sign w.digits minus w.sign_is clear) a.0 a.1 (lt-ltb 0 (length w.digits) w.some)

pub whole_syntax : (text : List ℕ) → whole_of text ≡ None → IsWholeForm text → ⊥
whole_syntax text none f = none_some (f.0, f.2.digits) (sym none ∙ whole_again text f.0 f.1 f.2)

pub whole_range : (text : List ℕ) (w : Bool × List ℕ) → whole_of text ≡ Some w → 10 ^ 12 < number_from 0 w.1 → IsWholeForm text × ((z : ℤ) → IsWholeValue text z → ⊥)
whole_range text w is big = (
  (w.0, number_from 0 w.1, whole_found text w is),
  λ z v.
      let same : (v.minus, v.spelled.digits) ≡ w = some_is (v.minus, v.spelled.digits) w (sym (whole_again text v.minus v.size v.spelled) ∙ is) in
      omega (arith, big, v.most, v.spelled.value, ap (λ (p : Bool × List ℕ). number_from 0 p.1) same),
)
