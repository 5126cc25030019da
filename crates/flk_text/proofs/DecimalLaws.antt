-- The laws of decimals and whole numbers.
use Rattle.std.proofs.Common.{◌≡◌, ◌≢◌, ◌↔◌, ℕ, zero, suc, ◌+◌, ◌-◌, ◌*◌, ◌/◌, ◌%◌, ◌^◌, ◌<◌, ◌≤◌, Bool, true, false, eqb, List, Result, Ok, Err, refl, sym, ap, subst, ◌∙◌, arith, inl, inr, ℤ}
use Rattle.std.specs.Prelude.{unsigned_abs}
use Rattle.std.proofs.lemmas.Bool.{cases_Bool, cases_lt, eqb-true, true≢false, eq-eqb}
use Rattle.std.proofs.Math.Nat.{mul-le-mul_right}
use Rattle.flk_text.specs.Numeral.{Numeral, IsNumeral, number_from, digits_number, places_left}
use Rattle.flk_text.specs.Decimal.{IsUnits, IsInSet, IsDecimal, IsAnswer, IsOutOfRange, signed}
use Rattle.flk_text.specs.WholeNumber.{IsWholeValue, IsWholeAnswer}
use Rattle.flk_text.specs.DigitsRead.{IsLong}
use Rattle.flk_text.specs.declared.decimals.DecimalValue.{DecimalValue}
use Rattle.flk_text.specs.declared.decimals.NumFault.{NumFault}
use Rattle.flk_text.specs.declared.decimals.NumFault.TheVariants.{Syntax, Range}
use Rattle.flk_text.proofs.PowersOfTen.{cancel, times_add, times_ten_more, ten_pos, ends_in_zero, up_units, units_at, units_down, IsLong-out}
use Rattle.flk_text.proofs.NumeralLemmas.{some_is, decimal_once, decimal_value, decimal_range, numeral_again, whole_again}

-- ---- one answer

pub one_answer : (text : List ℕ) (r s : Result DecimalValue NumFault) → IsAnswer text r → IsAnswer text s → r ≡ s
one_answer text (Ok a) (Ok b) p q = ap (λ (z : ℤ). Ok (let d : DecimalValue = record { n = z } in d)) (decimal_once text a.n b.n p q)
one_answer text (Ok a) (Err Syntax) p q = absurd (q (p.numeral, p.spelled))
one_answer text (Ok a) (Err Range) p q = absurd (q.1 a.n p)
one_answer text (Err Syntax) (Ok b) p q = absurd (p (q.numeral, q.spelled))
one_answer text (Err Range) (Ok b) p q = absurd (p.1 b.n q)
one_answer text (Err Syntax) (Err Syntax) p q = refl
one_answer text (Err Syntax) (Err Range) p q = absurd (p q.0)
one_answer text (Err Range) (Err Syntax) p q = absurd (q p.0)
one_answer text (Err Range) (Err Range) p q = refl

-- a text is of one whole number
pub whole_once : (text : List ℕ) (y z : ℤ) → IsWholeValue text y → IsWholeValue text z → y ≡ z
whole_once text y z p q =
    let one : Bool × List ℕ = (p.minus, p.spelled.digits) in
    let other : Bool × List ℕ = (q.minus, q.spelled.digits) in
    let same : one ≡ other = some_is one other (sym (whole_again text p.minus p.size p.spelled) ∙ whole_again text q.minus q.size q.spelled) in
    p.is ∙ ap (λ (n : ℕ). signed p.minus n) p.spelled.value ∙ ap (λ (w : Bool × List ℕ). signed w.0 (number_from 0 w.1)) same ∙ sym (q.is ∙ ap (λ (n : ℕ). signed q.minus n) q.spelled.value)

pub one_whole_answer : (text : List ℕ) (r s : Result ℤ NumFault) → IsWholeAnswer text r → IsWholeAnswer text s → r ≡ s
one_whole_answer text (Ok a) (Ok b) p q = ap (λ (z : ℤ). Ok z) (whole_once text a b p q)
one_whole_answer text (Ok a) (Err Syntax) p q = absurd (q (p.minus, p.size, p.spelled))
one_whole_answer text (Ok a) (Err Range) p q = absurd (q.1 a p)
one_whole_answer text (Err Syntax) (Ok b) p q = absurd (p (q.minus, q.size, q.spelled))
one_whole_answer text (Err Range) (Ok b) p q = absurd (p.1 b q)
one_whole_answer text (Err Syntax) (Err Syntax) p q = refl
one_whole_answer text (Err Syntax) (Err Range) p q = absurd (p q.0)
one_whole_answer text (Err Range) (Err Syntax) p q = absurd (q p.0)
one_whole_answer text (Err Range) (Err Range) p q = refl

-- ---- a number and the zeros at its end

reduced_within : (most n : ℕ) → n ≤ most → 0 < n → (m : ℕ) × (zeros : ℕ) × (n ≡ m * 10 ^ zeros) × (m % 10 ≢ 0)
reduced_within zero n le some = absurd (omega (arith, le, some))
reduced_within (suc most) n le some =
    elim (cases_Bool (eqb (n % 10) 0)) [
      | inl e ↦
          let none : n % 10 ≡ 0 = eqb-true (n % 10) 0 e in
          let r = reduced_within most (n / 10) (omega (arith, le, some, none)) (omega (arith, some, none)) in
          (r.0, suc r.1, omega (arith, none, r.2, times_ten_more r.0 r.1), r.3)
      | inr off ↦ (n, 0, omega arith, λ e. true≢false (sym (eq-eqb (n % 10) 0 e) ∙ off))
    ]

pub reduced_number : (n : ℕ) → 0 < n → (m : ℕ) × (zeros : ℕ) × (n ≡ m * 10 ^ zeros) × (m % 10 ≢ 0)
reduced_number n some = reduced_within n n (omega arith) some

some_reduced : (m : ℕ) → m % 10 ≢ 0 → 0 < m
some_reduced zero h = absurd (h refl)
some_reduced (suc m) h = omega arith

more_digits : (m k : ℕ) → m ≤ m * 10 ^ k
more_digits m k =
    let grow : 1 * m ≤ 10 ^ k * m = mul-le-mul_right m (ten_pos k) in
    omega (arith, grow)

pub digits_in_set : (u m places : ℕ) → u ≡ m * 10 ^ places → m < 10 ^ 18 → u ≤ 10 ^ 12 * 10 ^ 24 → IsInSet u
digits_in_set u zero places is few most = record { m = 0; places = places; is = is; reduced = inl refl; digits = few; most = most }
digits_in_set u (suc n) places is few most =
    let r = reduced_number (suc n) (omega arith) in
    let all : u ≡ r.0 * 10 ^ (r.1 + places) = is ∙ ap (λ (m : ℕ). m * 10 ^ places) r.2 ∙ sym (times_add r.0 r.1 places) in
    record { m = r.0; places = r.1 + places; is = all; reduced = inr r.3; digits = omega (arith, few, r.2, more_digits r.0 r.1); most = most }

-- ---- where Range comes

long_reduced : (n m zeros : ℕ) → n ≡ m * 10 ^ zeros → m % 10 ≢ 0 → 10 ^ 18 ≤ m → IsLong n
long_reduced n m zeros is last long = λ other k e.
    elim (cases_lt zeros k) [
      | inl less ↦
          let j = k - zeros - 1 in
          let cut : other * 10 ^ k ≡ other * 10 ^ suc j * 10 ^ zeros = ap (λ (i : ℕ). other * 10 ^ i) (omega (arith, less)) ∙ times_add other (suc j) zeros in
          let same : m ≡ other * 10 ^ suc j = cancel m (other * 10 ^ suc j) zeros (sym is ∙ e ∙ cut) in
          absurd (last (ap (λ (x : ℕ). x % 10) (same ∙ times_ten_more other j) ∙ ends_in_zero (other * 10 ^ j)))
      | inr more ↦
          let j = zeros - k in
          let cut : m * 10 ^ zeros ≡ m * 10 ^ j * 10 ^ k = ap (λ (i : ℕ). m * 10 ^ i) (omega (arith, more)) ∙ times_add m j k in
          let same : m * 10 ^ j ≡ other = cancel (m * 10 ^ j) other k (sym cut ∙ sym is ∙ e) in
          omega (arith, same, long, more_digits m j)
    ]

cancel_at_most : (a b k : ℕ) → a * 10 ^ k ≤ b * 10 ^ k → a ≤ b
cancel_at_most a b zero h = omega (arith, h)
cancel_at_most a b (suc k) h = cancel_at_most a b k (omega (arith, h, times_ten_more a k, times_ten_more b k))

-- the digits' number, its point moved right and then by 24 places
units_high : (n m zeros right left u : ℕ) → n ≡ m * 10 ^ zeros → IsUnits n right left u → u * 10 ^ left ≡ m * 10 ^ (zeros + right) * 10 ^ 24
units_high n m zeros right left u is value =
    units_at n m zeros right left u is value ∙ ap (λ (i : ℕ). m * 10 ^ i) (omega arith) ∙ times_add m (zeros + right) 24

pub no_units : (n m zeros right left : ℕ) → n ≡ m * 10 ^ zeros → m % 10 ≢ 0 → IsOutOfRange m (zeros + right) left → (u : ℕ) → IsUnits n right left u → IsInSet u → ⊥
no_units n m zeros right left is last (inl long) u value inside = IsLong-out n right left u (long_reduced n m zeros is last long) value inside
no_units n m zeros right left is last (inr (inl low)) u value inside = units_down n m zeros right left u is (some_reduced m last) last (omega (arith, low)) value
no_units n m zeros right left is last (inr (inr high)) u value inside =
    let most : u * 10 ^ left ≤ 10 ^ 12 * 10 ^ 24 * 10 ^ left = mul-le-mul_right (10 ^ left) inside.most in
    omega (arith, most, high, units_high n m zeros right left u is value)

pub in_set_at : (n m zeros right left : ℕ) → n ≡ m * 10 ^ zeros → m % 10 ≢ 0 → m < 10 ^ 18 → left ≤ zeros + right + 24 → m * 10 ^ (zeros + right) ≤ 10 ^ 12 * 10 ^ left
    → (u : ℕ) × IsUnits n right left u × IsInSet u
in_set_at n m zeros right left is last few low high =
    let k = zeros + right + 24 - left in
    let value : IsUnits n right left (m * 10 ^ k) = up_units n m zeros right left k is (omega (arith, low)) in
    let most : m * 10 ^ k * 10 ^ left ≤ 10 ^ 12 * 10 ^ 24 * 10 ^ left = omega (arith, high, units_high n m zeros right left (m * 10 ^ k) is value) in
    (m * 10 ^ k, value, record { m = m; places = k; is = refl; reduced = inr last; digits = few; most = cancel_at_most (m * 10 ^ k) (10 ^ 12 * 10 ^ 24) left most })

pub range_exact : (text : List ℕ) (d : Numeral) (m zeros : ℕ) → IsNumeral text d → digits_number d ≡ m * 10 ^ zeros → m % 10 ≢ 0 → IsAnswer text (Err Range) ↔ IsOutOfRange m (zeros + d.right) (places_left d)
range_exact text d m zeros spelled is last =
    let n = digits_number d in
    let left = places_left d in
    let found = numeral_again text d spelled in (
      λ range.
          elim (cases_lt m (10 ^ 18)) [
            | inl few ↦ elim (cases_lt (zeros + d.right + 24) left) [
              | inl low ↦ inr (inl low)
              | inr fine ↦ elim (cases_lt (10 ^ 12 * 10 ^ left) (m * 10 ^ (zeros + d.right))) [
                | inl high ↦ inr (inr high)
                | inr most ↦
                    let u = in_set_at n m zeros d.right left is last few fine most in
                    absurd (range.1 (signed d.minus u.0) (decimal_value text d u.0 (signed d.minus u.0) found u.1 u.2 refl))
              ]
            ]
            | inr long ↦ inl long
          ],
      λ out. decimal_range text d found (no_units n m zeros d.right left is last out),
    )

pub zero_in_range : (text : List ℕ) (d : Numeral) → IsNumeral text d → digits_number d ≡ 0 → IsAnswer text (Err Range) → ⊥
zero_in_range text d spelled none range =
    let inside : IsInSet 0 = digits_in_set 0 0 0 (omega arith) (omega arith) (omega arith) in
    let value : IsUnits (digits_number d) d.right (places_left d) 0 = rw none (omega arith) in
    range.1 (signed d.minus 0) (decimal_value text d 0 (signed d.minus 0) (numeral_again text d spelled) value inside refl)

-- ---- values read are in the set

abs_signed : (minus : Bool) (u : ℕ) → unsigned_abs (signed minus u) ≡ u
abs_signed false u = refl
abs_signed true zero = refl
abs_signed true (suc u) = refl

pub value_in_set : (text : List ℕ) (z : ℤ) → IsDecimal text z → IsInSet (unsigned_abs z)
value_in_set text z d = subst IsInSet (sym (ap unsigned_abs d.signed_is ∙ abs_signed d.numeral.minus d.units)) d.inside
