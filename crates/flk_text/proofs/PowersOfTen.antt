-- Numbers and the zeros at their ends.
use Rattle.std.proofs.Common.{◌≡◌, ◌≢◌, ℕ, zero, suc, ◌+◌, ◌-◌, ◌*◌, ◌^◌, ◌<◌, ◌≤◌, ◌%◌, ◌⊎◌, true, false, refl, sym, ap, subst, ◌∙◌, arith, inl, inr, add-one}
use Rattle.std.proofs.lemmas.Grind.{pow_more}
use Rattle.std.proofs.lemmas.Nat.{pow-add}
use Rattle.std.proofs.Common.{Option, Some, None}
use Rattle.std.specs.Prelude.{MatchOption}
use Rattle.std.proofs.lemmas.Bool.{cases_lt, true≢false}
use Rattle.flk_text.specs.declared.digits.DigitsRead.{DigitsRead}
use Rattle.std.proofs.Math.Nat.{mul-le-mul_right, one-le-pow, pow-le-pow_right}
use Rattle.flk_text.specs.Decimal.{IsUnits, IsInSet}
use Rattle.flk_text.specs.DigitsRead.{IsLong, IsShort, StandsFor}

pub ten_more : (k : ℕ) → 10 ^ suc k ≡ 10 ^ k * 10
ten_more k = ap (λ (i : ℕ). 10 ^ i) (sym (add-one k)) ∙ pow_more 10 k

pub ten_pos : (k : ℕ) → 1 ≤ 10 ^ k
ten_pos k = one-le-pow k 10 (omega arith)

pub times_ten_more : (m k : ℕ) → m * 10 ^ suc k ≡ m * 10 ^ k * 10
times_ten_more m k = rw (ten_more k) (omega arith)

pub times_add : (m i j : ℕ) → m * 10 ^ (i + j) ≡ m * 10 ^ i * 10 ^ j
times_add m i j = rw (pow-add 10 i j) (omega arith)

pub cancel : (a b k : ℕ) → a * 10 ^ k ≡ b * 10 ^ k → a ≡ b
cancel a b zero e = omega (arith, e)
cancel a b (suc k) e = cancel a b k (omega (arith, e, times_ten_more a k, times_ten_more b k))

pub tens : (n d m k : ℕ) → d ≤ 9 → n * 10 + d ≡ m * 10 ^ suc k → (d ≡ 0) × (n ≡ m * 10 ^ k)
tens n d m k few e =
    let t = times_ten_more m k in
    (omega (arith, e, t), omega (arith, e, t))

pub IsLong-push : (n d : ℕ) → d ≤ 9 → IsLong n → IsLong (n * 10 + d)
IsLong-push n d few long m zero e =
    let whole : 10 ^ 18 ≤ n = long n 0 (omega arith) in
    omega (arith, e, whole)
IsLong-push n d few long m (suc k) e = long m k (tens n d m k few e).1

pub IsLong-from : (n d significand places : ℕ) → d ≤ 9 → 0 < d → n ≡ significand * 10 ^ places → 10 ^ 18 ≤ n * 10 + d → IsLong (n * 10 + d)
IsLong-from n d significand places few some is long m zero e = omega (arith, e, long)
IsLong-from n d significand places few some is long m (suc k) e = absurd (omega (arith, some, (tens n d m k few e).0))

-- a number above 18 digits has no value in the set
pub IsLong-out : (n right left u : ℕ) → IsLong n → IsUnits n right left u → IsInSet u → ⊥
IsLong-out n right left u long value inside =
    let whole : 10 ^ 18 ≤ n = long n 0 (omega arith) in
    let both : n * 10 ^ (right + 24) ≡ inside.m * 10 ^ (inside.places + left) = sym value ∙ rw inside.is (sym (times_add inside.m inside.places left)) in
    elim (cases_lt (inside.places + left) (right + 24)) [
      | inl less ↦
          let j = right + 24 - (inside.places + left) in
          let e : n * 10 ^ (right + 24) ≡ n * 10 ^ j * 10 ^ (inside.places + left) = ap (λ (i : ℕ). n * 10 ^ i) (omega (arith, less)) ∙ times_add n j (inside.places + left) in
          let significand : n * 10 ^ j ≡ inside.m = cancel (n * 10 ^ j) inside.m (inside.places + left) (sym e ∙ both) in
          let grow : 1 * n ≤ 10 ^ j * n = mul-le-mul_right n (ten_pos j) in
          omega (arith, significand, grow, whole, inside.digits)
      | inr more ↦
          let j = inside.places + left - (right + 24) in
          let e : inside.m * 10 ^ (inside.places + left) ≡ inside.m * 10 ^ j * 10 ^ (right + 24) = ap (λ (i : ℕ). inside.m * 10 ^ i) (omega (arith, more)) ∙ times_add inside.m j (right + 24) in
          let significand : n ≡ inside.m * 10 ^ j = cancel n (inside.m * 10 ^ j) (right + 24) (both ∙ e) in
          omega (arith, long inside.m j significand, inside.digits)
    ]

-- the value of a number with its zeros apart
pub units_at : (n significand zeros right left u : ℕ) → n ≡ significand * 10 ^ zeros → IsUnits n right left u → u * 10 ^ left ≡ significand * 10 ^ (zeros + (right + 24))
units_at n significand zeros right left u is value = value ∙ rw is (sym (times_add significand zeros (right + 24)))

pub units_up : (n significand zeros right left u k : ℕ) → n ≡ significand * 10 ^ zeros → zeros + (right + 24) ≡ k + left → IsUnits n right left u → u ≡ significand * 10 ^ k
units_up n significand zeros right left u k is room value =
    cancel u (significand * 10 ^ k) left (units_at n significand zeros right left u is value ∙ ap (λ (i : ℕ). significand * 10 ^ i) room ∙ times_add significand k left)

pub up_units : (n significand zeros right left k : ℕ) → n ≡ significand * 10 ^ zeros → zeros + (right + 24) ≡ k + left → IsUnits n right left (significand * 10 ^ k)
up_units n significand zeros right left k is room =
    sym (times_add significand k left) ∙ ap (λ (i : ℕ). significand * 10 ^ i) (sym room) ∙ times_add significand zeros (right + 24) ∙ ap (λ (m : ℕ). m * 10 ^ (right + 24)) (sym is)

pub ends_in_zero : (m : ℕ) → m * 10 % 10 ≡ 0
ends_in_zero m = omega arith

pub units_down : (n significand zeros right left u : ℕ) → n ≡ significand * 10 ^ zeros → 0 < significand → significand % 10 ≢ 0 → zeros + (right + 24) < left → IsUnits n right left u → ⊥
units_down n significand zeros right left u is some last less value =
    let j = left - (zeros + (right + 24)) - 1 in
    let e : u * 10 ^ left ≡ u * 10 ^ suc j * 10 ^ (zeros + (right + 24)) = ap (λ (i : ℕ). u * 10 ^ i) (omega (arith, less)) ∙ times_add u (suc j) (zeros + (right + 24)) in
    let same : u * 10 ^ suc j ≡ significand = cancel (u * 10 ^ suc j) significand (zeros + (right + 24)) (sym e ∙ units_at n significand zeros right left u is value) in
    last (ap (λ (m : ℕ). m % 10) (sym same ∙ times_ten_more u j) ∙ ends_in_zero (u * 10 ^ j))

pub ten_most : (k : ℕ) → k ≤ 36 → 10 ^ k ≤ 10 ^ 36
ten_most k few = pow-le-pow_right {n = 10} (omega arith) few

-- ---- the digits so far

pub short_front : (s : DigitsRead) (n : ℕ) → s.long ≡ false → IsShort n s.significand s.zeros → StandsFor s n
short_front s n off h = record { short = λ e. h; long = λ e. absurd (true≢false (sym e ∙ off)) }

pub long_front : (s : DigitsRead) (n : ℕ) → s.long ≡ true → IsLong n → StandsFor s n
long_front s n so h = record { short = λ e. absurd (true≢false (sym so ∙ e)); long = λ e. h }

pub ten_grows : (i j : ℕ) → i ≤ j → 10 ^ i ≤ 10 ^ j
ten_grows i j le = pow-le-pow_right {n = 10} (omega arith) le

pub IsShort-zero : (n d significand zeros : ℕ) → d ≡ 0 → 0 < significand → IsShort n significand zeros → IsShort (n * 10 + d) significand (zeros + 1)
IsShort-zero n d significand zeros none some h = record {
  is = omega (arith, none, h.is, times_add significand zeros 1);
  few = h.few;
  none = λ e. absurd (omega (arith, e, some));
  last = h.last;
}

pub IsShort-digit : (n d significand zeros wide : ℕ) → d ≤ 9 → 0 < d → wide ≡ significand * 10 ^ (zeros + 1) + d → wide < 10 ^ 18 → IsShort n significand zeros → IsShort (n * 10 + d) wide 0
IsShort-digit n d significand zeros wide few some is small h =
    let e : wide ≡ significand * 10 ^ zeros * 10 + d = omega (arith, is, times_add significand zeros 1) in
    record {
      is = omega (arith, h.is, e);
      few = small;
      none = λ _. refl;
      last = λ _. λ z. omega (arith, few, some, e, z);
    }

pub wide_long : (n d significand zeros wide : ℕ) → d ≤ 9 → 0 < d → wide ≡ significand * 10 ^ (zeros + 1) + d → 10 ^ 18 ≤ wide → IsShort n significand zeros → IsLong (n * 10 + d)
wide_long n d significand zeros wide few some is big h =
    IsLong-from n d significand zeros few some h.is (omega (arith, is, h.is, times_add significand zeros 1, big))

pub far_long : (n d significand zeros : ℕ) → d ≤ 9 → 0 < d → 0 < significand → 17 < zeros → IsShort n significand zeros → IsLong (n * 10 + d)
far_long n d significand zeros few some more far h =
    let a : 10 ^ 18 ≤ 10 ^ zeros = ten_grows 18 zeros (omega (arith, far)) in
    let b : 1 * 10 ^ zeros ≤ significand * 10 ^ zeros = mul-le-mul_right (10 ^ zeros) more in
    IsLong-from n d significand zeros few some h.is (omega (arith, a, b, h.is))

pub short_reduced : (n significand places : ℕ) → IsShort n significand places → (significand ≡ 0) ⊎ (significand % 10 ≢ 0)
short_reduced n zero places h = inl refl
short_reduced n (suc s) places h = inr (h.last (omega arith))

pub units_found : (r : Option ℕ) (n significand zeros right left k : ℕ) → IsShort n significand zeros → zeros + (right + 24) ≡ k + left
    → MatchOption r (10 ^ 36 < significand * 10 ^ k) (λ u. (u ≡ significand * 10 ^ k) × (u ≤ 10 ^ 36))
    → MatchOption r ((u : ℕ) → IsUnits n right left u → IsInSet u → ⊥) (λ u. IsUnits n right left u × IsInSet u)
units_found None n significand zeros right left k h room big = λ u value inside. absurd (omega (arith, big, inside.most, units_up n significand zeros right left u k h.is room value))
units_found (Some u) n significand zeros right left k h room found = (
  subst (λ (m : ℕ). IsUnits n right left m) (sym found.0) (up_units n significand zeros right left k h.is room),
  record { m = significand; places = k; is = found.0; reduced = short_reduced n significand zeros h; digits = h.few; most = found.1 },
)

pub units_far : (n significand zeros right left u : ℕ) → IsShort n significand zeros → 0 < significand → 36 + left < zeros + (right + 24) → IsUnits n right left u → IsInSet u → ⊥
units_far n significand zeros right left u h some far value inside =
    let k = zeros + (right + 24) - left in
    let is : u ≡ significand * 10 ^ k = units_up n significand zeros right left u k h.is (omega (arith, far)) value in
    let a : 10 ^ 37 ≤ 10 ^ k = ten_grows 37 k (omega (arith, far)) in
    let b : 1 * 10 ^ k ≤ significand * 10 ^ k = mul-le-mul_right (10 ^ k) some in
    omega (arith, is, a, b, inside.most)
