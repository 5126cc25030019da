-- Numbers of at most 18 digits with zeros behind them.
use Rattle.std.proofs.Common.{◌≡◌, ◌≢◌, ℕ, suc, ◌+◌, ◌*◌, ◌/◌, ◌%◌, ◌^◌, ◌<◌, ◌≤◌, Bool, false, sym, ap, subst, ◌∙◌, arith, inl, inr}
use Rattle.std.specs.Prelude.{IsTrue}
use Rattle.std.proofs.lemmas.Bool.{cases_Bool}
use Rattle.std.proofs.Math.Nat.{mod-lt, div-add-mod'}
use Rattle.flk_text.specs.Decimal.{IsInSet}
use Rattle.flk_text.specs.DigitsRead.{IsLong}
use Rattle.flk_text.proofs.PowersOfTen.{IsLong-push, IsLong-from, times_ten_more}
use Rattle.flk_text.proofs.DecimalLaws.{digits_in_set}

tenth : (n : ℕ) → n % 10 ≡ 0 → n ≡ n / 10 * 10
tenth n none = omega (arith, none, div-add-mod' n 10)

moved : (a q : ℕ) → a * 10 * q ≡ a * q * 10
moved a q = omega arith

pub tenth_front : (number left : ℕ) → left % 10 ≡ 0 → (places : ℕ) × (number ≡ left * 10 ^ places) → (places : ℕ) × (number ≡ left / 10 * 10 ^ places)
tenth_front number left none front =
    let p = front.0 in
    (suc p, front.1 ∙ ap (λ (n : ℕ). n * 10 ^ p) (tenth left none) ∙ moved (left / 10) (10 ^ p) ∙ sym (times_ten_more (left / 10) p))

pub tenth_long : (left : ℕ) → left % 10 ≡ 0 → IsLong (left / 10) → IsLong left
tenth_long left none long =
    let e : left / 10 * 10 + 0 ≡ left = omega (arith, tenth left none) in
    subst IsLong e (IsLong-push (left / 10) 0 (omega arith) long)

pub long_here : (left : ℕ) → left % 10 ≢ 0 → 10 ^ 18 ≤ left → IsLong left
long_here left some big =
    let cut : left / 10 * 10 + left % 10 ≡ left = div-add-mod' left 10 in
    let digit : left % 10 ≤ 9 = omega (arith, mod-lt left (let ten : 0 < 10 = omega arith in ten)) in
    let above : 0 < left % 10 = omega (arith, some) in
    let itself : left / 10 ≡ left / 10 * 10 ^ 0 = omega arith in
    subst IsLong cut (IsLong-from (left / 10) (left % 10) (left / 10) 0 digit above itself (omega (arith, cut, big)))

pub in_set : (u : ℕ) (short : Bool) → u ≤ 10 ^ 36 → (IsTrue short → (m : ℕ) × (places : ℕ) × (u ≡ m * 10 ^ places) × (m < 10 ^ 18)) → (short ≡ false → IsLong u) → (IsTrue short → IsInSet u) × (IsInSet u → IsTrue short)
in_set u short few front long =
    let there : IsTrue short → IsInSet u = λ so. let s = front so in digits_in_set u s.0 s.1 s.2 s.3 (omega (arith, few)) in
    let back : IsInSet u → IsTrue short = λ set. elim (cases_Bool short) [
      | inl so ↦ so
      | inr off ↦ let big : 10 ^ 18 ≤ set.m = long off set.m set.places set.is in absurd (omega (arith, big, set.digits))
    ] in
    (there, back)
