-- The text of a date or a time, and the numbers that are found in it.
use Rattle.std.proofs.Common.{◌≡◌, ℕ, ◌+◌, ◌-◌, ◌*◌, ◌^◌, ◌<◌, ◌≤◌, List, [], ◌∷◌, ◌++◌, length, true, false, cond, eqb, ltb, leb, ◌&&◌, Some, None, refl, sym, ap, subst, ◌∙◌, arith, inl, inr, ℤ, pos, ◌≤ℤ◌}
use Rattle.std.specs.List.{list_all}
use Rattle.std.proofs.lemmas.List.{nil_from_length, append-nil}
use Rattle.std.proofs.lemmas.Bool.{cases_Bool, and_parts, eqb-true, leb-true, ltb-true, le-leb, lt-ltb}
use Rattle.std.proofs.Math.Nat.{mul-le-mul_right}
use Rattle.flk_text.specs.Numeral.{is_digit, number_from, AreDigits}
use Rattle.flk_text.specs.NumeralParts.{◌>>=◌}
use Rattle.flk_text.proofs.NumeralLemmas.{some_is, guard_some, bind_some}
use Rattle.flk_text.proofs.DigitRuns.{number_small}
use Rattle.flk_text.proofs.PowersOfTen.{ten_pos, times_add}
use Rattle.flk_field.specs.Dates.{IsNumber, IsDateText, IsDateForm, IsDateOf, IsSecondFraction, IsTimeText, IsTimeForm, IsTimeOf}
use Rattle.std.proofs.lemmas.Int.{ints}
use Rattle.jiff.specs.Words.{IsDate}
use Rattle.flk_field.specs.Sets.{Date, Time, Refuses}
use Rattle.flk_field.specs.declared.kind.Kind.TheVariants as kinds
use Rattle.flk_field.specs.DateParts.{short_of, two_of, after_of, date_of, nanos_of, time_of, DateNumbers, TimeNumbers}

-- ---- numbers of few digits

pub number_nine : (digits : List ℕ) → AreDigits digits → length digits ≤ 9 → number_from 0 digits < 10 ^ length digits
number_nine digits are few = omega (arith, number_small 0 digits are)

pub nine_digits : (n d : ℕ) → d ≤ 9 → n < 10 ^ d → n * 10 ^ (9 - d) < 10 ^ 9
nine_digits n d few small =
    let more : (n + 1) * 10 ^ (9 - d) ≤ 10 ^ d * 10 ^ (9 - d) = mul-le-mul_right (10 ^ (9 - d)) (omega (arith, small)) in
    let all : d + (9 - d) ≡ 9 = omega (arith, few) in
    let power : 1 * 10 ^ 9 ≡ 1 * 10 ^ d * 10 ^ (9 - d) = ap (λ (k : ℕ). 1 * 10 ^ k) (sym all) ∙ times_add 1 d (9 - d) in
    let some : 1 ≤ 10 ^ (9 - d) = ten_pos (9 - d) in
    omega (arith, more, power, some)

-- ---- the parts

-- the digits in front with their number, and what follows
pub record Cut (least most : ℕ) (bytes rest : List ℕ) (n : ℕ) : Type 0 where
  pub digits : List ℕ
  pub is : bytes ≡ digits ++ rest
  pub number : IsNumber least most digits n

abbrev with_rest : ℕ → List ℕ → ℕ × List ℕ
with_rest n rest = (n, rest)

one_is : (a : ℕ) → is_digit a ≡ true → IsNumber 1 2 (a ∷ []) (number_from 0 (a ∷ []))
one_is a d = record { are = rw d refl; least_is = omega arith; most_is = omega arith; value = refl }

both_are : (a b : ℕ) → is_digit a ≡ true → is_digit b ≡ true → AreDigits (a ∷ b ∷ [])
both_are a b d e = rw (d, e) refl

both_is : (least a b : ℕ) → least ≤ 2 → is_digit a ≡ true → is_digit b ≡ true → IsNumber least 2 (a ∷ b ∷ []) (number_from 0 (a ∷ b ∷ []))
both_is least a b le d e = record { are = both_are a b d e; least_is = omega (arith, le); most_is = omega arith; value = refl }

cut_at : (least most : ℕ) (bytes : List ℕ) (n : ℕ) (rest : List ℕ) (x : ℕ × List ℕ) → Some (with_rest n rest) ≡ Some x → Cut least most bytes rest n → Cut least most bytes x.1 x.0
cut_at least most bytes n rest x e c = subst (λ (y : ℕ × List ℕ). Cut least most bytes y.1 y.0) (some_is (with_rest n rest) x e) c

pub short_found : (bytes : List ℕ) (x : ℕ × List ℕ) → short_of bytes ≡ Some x → Cut 1 2 bytes x.1 x.0
unfolding short_of
short_found [] x e = absurd cc
short_found (a ∷ []) x e =
    let g = guard_some (is_digit a) (Some (with_rest (number_from 0 (a ∷ [])) [])) x e in
    cut_at 1 2 (a ∷ []) (number_from 0 (a ∷ [])) [] x g.1 (record { digits = a ∷ []; is = refl; number = one_is a g.0 })
short_found (a ∷ b ∷ rest) x e =
    let g = guard_some (is_digit a) (cond (is_digit b) (Some (with_rest (number_from 0 (a ∷ b ∷ [])) rest)) (Some (with_rest (number_from 0 (a ∷ [])) (b ∷ rest)))) x e in
    elim (cases_Bool (is_digit b)) [
      | inl so ↦
          let h : Some (with_rest (number_from 0 (a ∷ b ∷ [])) rest) ≡ Some x = rw so at g.1 in
          cut_at 1 2 (a ∷ b ∷ rest) (number_from 0 (a ∷ b ∷ [])) rest x h (record { digits = a ∷ b ∷ []; is = refl; number = both_is 1 a b (omega arith) g.0 so })
      | inr off ↦
          let h : Some (with_rest (number_from 0 (a ∷ [])) (b ∷ rest)) ≡ Some x = rw off at g.1 in
          cut_at 1 2 (a ∷ b ∷ rest) (number_from 0 (a ∷ [])) (b ∷ rest) x h (record { digits = a ∷ []; is = refl; number = one_is a g.0 })
    ]

pub two_found : (bytes : List ℕ) (x : ℕ × List ℕ) → two_of bytes ≡ Some x → Cut 2 2 bytes x.1 x.0
unfolding two_of
two_found [] x e = absurd cc
two_found (a ∷ []) x e = absurd cc
two_found (a ∷ b ∷ rest) x e =
    let g = guard_some (is_digit a && is_digit b) (Some (with_rest (number_from 0 (a ∷ b ∷ [])) rest)) x e in
    let d = and_parts (is_digit a) (is_digit b) g.0 in
    cut_at 2 2 (a ∷ b ∷ rest) (number_from 0 (a ∷ b ∷ [])) rest x g.1 (record { digits = a ∷ b ∷ []; is = refl; number = both_is 2 a b (omega arith) d.0 d.1 })

pub after_found : (mark : ℕ) (bytes rest : List ℕ) → after_of mark bytes ≡ Some rest → bytes ≡ mark ∷ rest
unfolding after_of
after_found mark [] rest e = absurd cc
after_found mark (b ∷ bs) rest e =
    let g = guard_some (eqb b mark) (Some bs) rest e in
    let first : b ≡ mark = eqb-true b mark g.0 in
    ap (λ (x : ℕ). x ∷ bs) first ∙ ap (λ (x : List ℕ). mark ∷ x) (some_is bs rest g.1)

-- the digits of a short number are found again where a byte that is no digit follows
pub short_again : (ds rest : List ℕ) (n mark : ℕ) → IsNumber 1 2 ds n → is_digit mark ≡ false → short_of (ds ++ mark ∷ rest) ≡ Some (with_rest n (mark ∷ rest))
unfolding short_of
short_again [] rest n mark is off = absurd (omega (arith, is.least_is))
short_again (a ∷ []) rest n mark is off =
    let d = and_parts (is_digit a) true is.are in
    rw (d.0, off) (ap (λ (m : ℕ). Some (with_rest m (mark ∷ rest))) (sym is.value))
short_again (a ∷ b ∷ []) rest n mark is off =
    let d = and_parts (is_digit a) (list_all is_digit (b ∷ [])) is.are in
    let e = and_parts (is_digit b) true d.1 in
    rw (d.0, e.0) (ap (λ (m : ℕ). Some (with_rest m (mark ∷ rest))) (sym is.value))
short_again (a ∷ b ∷ c ∷ ds) rest n mark is off = absurd (omega (arith, is.most_is))

pub two_again : (ds rest : List ℕ) (n : ℕ) → IsNumber 2 2 ds n → two_of (ds ++ rest) ≡ Some (with_rest n rest)
unfolding two_of
two_again [] rest n is = absurd (omega (arith, is.least_is))
two_again (a ∷ []) rest n is = absurd (omega (arith, is.least_is))
two_again (a ∷ b ∷ []) rest n is =
    let d = and_parts (is_digit a) (list_all is_digit (b ∷ [])) is.are in
    let e = and_parts (is_digit b) true d.1 in
    rw (d.0, e.0) (ap (λ (m : ℕ). Some (with_rest m rest)) (sym is.value))
two_again (a ∷ b ∷ c ∷ ds) rest n is = absurd (omega (arith, is.most_is))

-- ---- dates

-- four digits are two and two
pub year_again : (ys : List ℕ) (n : ℕ) → IsNumber 4 4 ys n → (c : List ℕ) × (y : List ℕ) × (p : ℕ) × (q : ℕ) × (ys ≡ c ++ (y ++ [])) × IsNumber 2 2 c p × IsNumber 2 2 y q × (n ≡ p * 100 + q)
year_again [] n is = absurd (omega (arith, is.least_is))
year_again (a ∷ []) n is = absurd (omega (arith, is.least_is))
year_again (a ∷ b ∷ []) n is = absurd (omega (arith, is.least_is))
year_again (a ∷ b ∷ c ∷ []) n is = absurd (omega (arith, is.least_is))
year_again (a ∷ b ∷ c ∷ d ∷ []) n is =
    let h = and_parts (is_digit a) (list_all is_digit (b ∷ c ∷ d ∷ [])) is.are in
    let i = and_parts (is_digit b) (list_all is_digit (c ∷ d ∷ [])) h.1 in
    let j = and_parts (is_digit c) (list_all is_digit (d ∷ [])) i.1 in
    let k = and_parts (is_digit d) true j.1 in
    (a ∷ b ∷ [], c ∷ d ∷ [], number_from 0 (a ∷ b ∷ []), number_from 0 (c ∷ d ∷ []), refl, both_is 2 a b (omega arith) h.0 i.0, both_is 2 c d (omega arith) j.0 k.0, omega (arith, is.value))
year_again (a ∷ b ∷ c ∷ d ∷ e ∷ ds) n is = absurd (omega (arith, is.most_is))

year_cut : (cs ys : List ℕ) (p q : ℕ) → IsNumber 2 2 cs p → IsNumber 2 2 ys q → IsNumber 4 4 (cs ++ ys) (p * 100 + q)
year_cut [] ys p q c y = absurd (omega (arith, c.least_is))
year_cut (a ∷ []) ys p q c y = absurd (omega (arith, c.least_is))
year_cut (a ∷ b ∷ []) [] p q c y = absurd (omega (arith, y.least_is))
year_cut (a ∷ b ∷ []) (d ∷ []) p q c y = absurd (omega (arith, y.least_is))
year_cut (a ∷ b ∷ []) (d ∷ e ∷ []) p q c y =
    let h = and_parts (is_digit a) (list_all is_digit (b ∷ [])) c.are in
    let i = and_parts (is_digit b) true h.1 in
    record { are = rw (h.0, i.0) y.are; least_is = omega arith; most_is = omega arith; value = omega (arith, c.value, y.value) }
year_cut (a ∷ b ∷ []) (d ∷ e ∷ f ∷ ys) p q c y = absurd (omega (arith, y.most_is))
year_cut (a ∷ b ∷ d ∷ cs) ys p q c y = absurd (omega (arith, c.most_is))

abbrev pub date_numbers : ℕ → ℕ → ℕ → DateNumbers
date_numbers d m y = record { day = d; month = m; year = y }

date_joined : (text dr r mr s cr yr d m c y : List ℕ) → text ≡ d ++ dr → dr ≡ 47 ∷ r → r ≡ m ++ mr → mr ≡ 47 ∷ s → s ≡ c ++ cr → cr ≡ y ++ yr → yr ≡ [] → text ≡ d ++ 47 ∷ (m ++ 47 ∷ (c ++ y))
date_joined text dr r mr s cr yr d m c y e1 e2 e3 e4 e5 e6 e7 = rw (e1, e2, e3, e4, e5, e6, e7, append-nil y) refl

pub date_found : (text : List ℕ) (n : DateNumbers) → date_of text ≡ Some n → IsDateText text n.day n.month n.year
unfolding date_of
date_found text n e =
    let d = bind_some (short_of text) (λ d. after_of 47 d.1 >>= λ r. short_of r >>= λ m. after_of 47 m.1 >>= λ s. two_of s >>= λ c. two_of c.1 >>= λ y. cond (eqb (length y.1) 0) (Some (date_numbers d.0 m.0 (c.0 * 100 + y.0))) None) n e in
    let r = bind_some (after_of 47 d.0.1) (λ r. short_of r >>= λ m. after_of 47 m.1 >>= λ s. two_of s >>= λ c. two_of c.1 >>= λ y. cond (eqb (length y.1) 0) (Some (date_numbers d.0.0 m.0 (c.0 * 100 + y.0))) None) n d.2 in
    let m = bind_some (short_of r.0) (λ m. after_of 47 m.1 >>= λ s. two_of s >>= λ c. two_of c.1 >>= λ y. cond (eqb (length y.1) 0) (Some (date_numbers d.0.0 m.0 (c.0 * 100 + y.0))) None) n r.2 in
    let s = bind_some (after_of 47 m.0.1) (λ s. two_of s >>= λ c. two_of c.1 >>= λ y. cond (eqb (length y.1) 0) (Some (date_numbers d.0.0 m.0.0 (c.0 * 100 + y.0))) None) n m.2 in
    let c = bind_some (two_of s.0) (λ c. two_of c.1 >>= λ y. cond (eqb (length y.1) 0) (Some (date_numbers d.0.0 m.0.0 (c.0 * 100 + y.0))) None) n s.2 in
    let y = bind_some (two_of c.0.1) (λ y. cond (eqb (length y.1) 0) (Some (date_numbers d.0.0 m.0.0 (c.0.0 * 100 + y.0))) None) n c.2 in
    let g = guard_some (eqb (length y.0.1) 0) (Some (date_numbers d.0.0 m.0.0 (c.0.0 * 100 + y.0.0))) n y.2 in
    let day = short_found text d.0 d.1 in
    let month = short_found r.0 m.0 m.1 in
    let century = two_found s.0 c.0 c.1 in
    let year = two_found c.0.1 y.0 y.1 in
    let none : y.0.1 ≡ [] = nil_from_length y.0.1 (eqb-true (length y.0.1) 0 g.0) in
    let joined = date_joined text d.0.1 r.0 m.0.1 s.0 c.0.1 y.0.1 day.digits month.digits century.digits year.digits day.is (after_found 47 d.0.1 r.0 r.1) month.is (after_found 47 m.0.1 s.0 s.1) century.is year.is none in
    subst (λ (x : DateNumbers). IsDateText text x.day x.month x.year) (some_is (date_numbers d.0.0 m.0.0 (c.0.0 * 100 + y.0.0)) n g.1) (record {
      d = day.digits;
      m = month.digits;
      y = century.digits ++ year.digits;
      text_is = joined;
      day_is = day.number;
      month_is = month.number;
      year_is = year_cut century.digits year.digits c.0.0 y.0.0 century.number year.number;
    })

pub date_again : (text : List ℕ) (day month year : ℕ) → IsDateText text day month year → date_of text ≡ Some (date_numbers day month year)
unfolding date_of after_of
date_again text day month year is =
    let y = year_again is.y year is.year_is in
    let cut : text ≡ is.d ++ 47 ∷ (is.m ++ 47 ∷ (y.0 ++ (y.1 ++ []))) = is.text_is ∙ ap (λ (x : List ℕ). is.d ++ 47 ∷ (is.m ++ 47 ∷ x)) y.4 in
    let d = short_again is.d (is.m ++ 47 ∷ (y.0 ++ (y.1 ++ []))) day 47 is.day_is refl in
    let m = short_again is.m (y.0 ++ (y.1 ++ [])) month 47 is.month_is refl in
    let c = two_again y.0 (y.1 ++ []) y.2 y.5 in
    let q = two_again y.1 [] y.3 y.6 in
    rw (cut, d, m, c, q) (ap (λ (x : ℕ). Some (date_numbers day month x)) (sym y.7))

-- ---- times

pub nanos_found : (bytes : List ℕ) (n : ℕ) → nanos_of bytes ≡ Some n → IsSecondFraction bytes n
unfolding nanos_of
nanos_found [] n e = inl (refl, sym (some_is 0 n e))
nanos_found (b ∷ ds) n e =
    let g = guard_some (eqb b 46) (cond ((list_all is_digit ds && ltb 0 (length ds)) && leb (length ds) 9) (Some (number_from 0 ds * 10 ^ (9 - length ds))) None) n e in
    let h = guard_some ((list_all is_digit ds && ltb 0 (length ds)) && leb (length ds) 9) (Some (number_from 0 ds * 10 ^ (9 - length ds))) n g.1 in
    let t = and_parts (list_all is_digit ds && ltb 0 (length ds)) (leb (length ds) 9) h.0 in
    let u = and_parts (list_all is_digit ds) (ltb 0 (length ds)) t.0 in
    let some : 0 < length ds = ltb-true 0 (length ds) u.1 in
    let few : length ds ≤ 9 = leb-true (length ds) 9 t.1 in
    inr (
      ds,
      number_from 0 ds,
      ap (λ (x : ℕ). x ∷ ds) (eqb-true b 46 g.0),
      record { are = u.0; least_is = omega (arith, some); most_is = few; value = refl },
      sym (some_is (number_from 0 ds * 10 ^ (9 - length ds)) n h.1),
    )

pub nanos_again : (part : List ℕ) (n : ℕ) → IsSecondFraction part n → nanos_of part ≡ Some n
unfolding nanos_of
nanos_again part n (inl e) = rw (e.0, e.1) refl
nanos_again part n (inr e) =
    let ds = e.0 in
    let some : ltb 0 (length ds) ≡ true = lt-ltb 0 (length ds) (omega (arith, e.3.least_is)) in
    let few : leb (length ds) 9 ≡ true = le-leb (length ds) 9 e.3.most_is in
    let are : list_all is_digit ds ≡ true = e.3.are in
    rw (e.2, are, some, few) (ap (λ (x : ℕ). Some (x * 10 ^ (9 - length ds))) (sym e.3.value) ∙ ap (λ (x : ℕ). Some x) (sym e.4))

abbrev pub time_numbers : ℕ → ℕ → ℕ → ℕ → TimeNumbers
time_numbers h m s n = record { hour = h; minute = m; second = s; nanos = n }

time_joined : (text hr r mr q part h m s : List ℕ) → text ≡ h ++ hr → hr ≡ 58 ∷ r → r ≡ m ++ mr → mr ≡ 58 ∷ q → q ≡ s ++ part → text ≡ h ++ 58 ∷ (m ++ 58 ∷ (s ++ part))
time_joined text hr r mr q part h m s e1 e2 e3 e4 e5 = rw (e1, e2, e3, e4, e5) refl

pub time_found : (text : List ℕ) (n : TimeNumbers) → time_of text ≡ Some n → IsTimeText text n.hour n.minute n.second n.nanos
unfolding time_of
time_found text n e =
    let h = bind_some (short_of text) (λ h. after_of 58 h.1 >>= λ r. two_of r >>= λ m. after_of 58 m.1 >>= λ q. two_of q >>= λ s. nanos_of s.1 >>= λ k. Some (time_numbers h.0 m.0 s.0 k)) n e in
    let r = bind_some (after_of 58 h.0.1) (λ r. two_of r >>= λ m. after_of 58 m.1 >>= λ q. two_of q >>= λ s. nanos_of s.1 >>= λ k. Some (time_numbers h.0.0 m.0 s.0 k)) n h.2 in
    let m = bind_some (two_of r.0) (λ m. after_of 58 m.1 >>= λ q. two_of q >>= λ s. nanos_of s.1 >>= λ k. Some (time_numbers h.0.0 m.0 s.0 k)) n r.2 in
    let q = bind_some (after_of 58 m.0.1) (λ q. two_of q >>= λ s. nanos_of s.1 >>= λ k. Some (time_numbers h.0.0 m.0.0 s.0 k)) n m.2 in
    let s = bind_some (two_of q.0) (λ s. nanos_of s.1 >>= λ k. Some (time_numbers h.0.0 m.0.0 s.0 k)) n q.2 in
    let k = bind_some (nanos_of s.0.1) (λ k. Some (time_numbers h.0.0 m.0.0 s.0.0 k)) n s.2 in
    let hour = short_found text h.0 h.1 in
    let minute = two_found r.0 m.0 m.1 in
    let second = two_found q.0 s.0 s.1 in
    let joined = time_joined text h.0.1 r.0 m.0.1 q.0 s.0.1 hour.digits minute.digits second.digits hour.is (after_found 58 h.0.1 r.0 r.1) minute.is (after_found 58 m.0.1 q.0 q.1) second.is in
    subst (λ (x : TimeNumbers). IsTimeText text x.hour x.minute x.second x.nanos) (some_is (time_numbers h.0.0 m.0.0 s.0.0 k.0) n k.2) (record {
      h = hour.digits;
      m = minute.digits;
      s = second.digits;
      part = s.0.1;
      text_is = joined;
      hour_is = hour.number;
      minute_is = minute.number;
      second_is = second.number;
      nanos_is = nanos_found s.0.1 k.0 k.1;
    })

pub time_again : (text : List ℕ) (hour minute second nanos : ℕ) → IsTimeText text hour minute second nanos → time_of text ≡ Some (time_numbers hour minute second nanos)
unfolding time_of after_of
time_again text hour minute second nanos is =
    let h = short_again is.h (is.m ++ 58 ∷ (is.s ++ is.part)) hour 58 is.hour_is refl in
    let m = two_again is.m (58 ∷ (is.s ++ is.part)) minute is.minute_is in
    let s = two_again is.s is.part second is.second_is in
    let n = nanos_again is.part nanos is.nanos_is in
    rw (is.text_is, h, m, s, n) refl

-- ---- one date and one time

pub date_once : (text : List ℕ) (d m y e n z : ℕ) → IsDateText text d m y → IsDateText text e n z → (d ≡ e) × (m ≡ n) × (y ≡ z)
date_once text d m y e n z p q =
    let same : date_numbers d m y ≡ date_numbers e n z = some_is (date_numbers d m y) (date_numbers e n z) (sym (date_again text d m y p) ∙ date_again text e n z q) in
    (ap (λ (x : DateNumbers). x.day) same, ap (λ (x : DateNumbers). x.month) same, ap (λ (x : DateNumbers). x.year) same)

pub time_once : (text : List ℕ) (h m s n i j k l : ℕ) → IsTimeText text h m s n → IsTimeText text i j k l → (h ≡ i) × (m ≡ j) × (s ≡ k) × (n ≡ l)
time_once text h m s n i j k l p q =
    let same : time_numbers h m s n ≡ time_numbers i j k l = some_is (time_numbers h m s n) (time_numbers i j k l) (sym (time_again text h m s n p) ∙ time_again text i j k l q) in
    (ap (λ (x : TimeNumbers). x.hour) same, ap (λ (x : TimeNumbers). x.minute) same, ap (λ (x : TimeNumbers). x.second) same, ap (λ (x : TimeNumbers). x.nanos) same)

-- no numbers found: the text isn't of the form
pub no_date : (text : List ℕ) → date_of text ≡ None → IsDateForm text → ⊥
no_date text none f =
    let e : None ≡ Some (date_numbers f.0 f.1 f.2) = sym none ∙ date_again text f.0 f.1 f.2 f.3 in
    absurd cc

pub no_time : (text : List ℕ) → time_of text ≡ None → IsTimeForm text → ⊥
no_time text none f =
    let e : None ≡ Some (time_numbers f.0 f.1 f.2 f.3) = sym none ∙ time_again text f.0 f.1 f.2 f.3 f.4 in
    absurd cc

-- ---- the answers

pub date_in : (text : List ℕ) (n : DateNumbers) (year : ℤ) → date_of text ≡ Some n → year ≡ pos n.year → (pos 1 ≤ℤ year) × IsDate year (pos n.month) (pos n.day) → IsDateOf text year n.month n.day
date_in text n year found is good = record {
  number = n.year;
  text = date_found text n found;
  year_is = is;
  from = omega (arith, ints, good.0, is);
  civil = good.1;
}

pub date_out : (text : List ℕ) (n : DateNumbers) (year : ℤ) → date_of text ≡ Some n → year ≡ pos n.year → ((pos 1 ≤ℤ year) × IsDate year (pos n.month) (pos n.day) → ⊥) → Refuses Date text kinds.Range
unfolding Refuses
date_out text n year found is bad =
    let t = date_found text n found in
    inr (
      refl,
      (n.day, n.month, n.year, t),
      λ y m d other.
          let same = date_once text d m other.number n.day n.month n.year other.text t in
          let years : y ≡ year = other.year_is ∙ ap (λ (k : ℕ). pos k) same.2 ∙ sym is in
          let low : pos 1 ≤ℤ y = omega (arith, ints, other.from, other.year_is) in
          let one : IsDate year (pos m) (pos d) = subst (λ (k : ℤ). IsDate k (pos m) (pos d)) years other.civil in
          let two : IsDate year (pos n.month) (pos d) = subst (λ (k : ℕ). IsDate year (pos k) (pos d)) same.1 one in
          bad (subst (λ (k : ℤ). pos 1 ≤ℤ k) years low, subst (λ (k : ℕ). IsDate year (pos n.month) (pos k)) same.0 two),
    )

pub time_in : (text : List ℕ) (n : TimeNumbers) → time_of text ≡ Some n → (n.hour ≤ 23) × (n.minute ≤ 59) × (n.second ≤ 59) → IsTimeOf text n.hour n.minute n.second n.nanos
time_in text n found day = record { text = time_found text n found; hour_most = day.0; minute_most = day.1; second_most = day.2 }

pub time_out : (text : List ℕ) (n : TimeNumbers) → time_of text ≡ Some n → ((n.hour ≤ 23) × (n.minute ≤ 59) × (n.second ≤ 59) → ⊥) → Refuses Time text kinds.Range
unfolding Refuses
time_out text n found bad =
    let t = time_found text n found in
    inr (
      refl,
      (n.hour, n.minute, n.second, n.nanos, t),
      λ h m s k other.
          let same = time_once text h m s k n.hour n.minute n.second n.nanos other.text t in
          bad (subst (λ (x : ℕ). x ≤ 23) same.0 other.hour_most, subst (λ (x : ℕ). x ≤ 59) same.1 other.minute_most, subst (λ (x : ℕ). x ≤ 59) same.2 other.second_most),
    )
