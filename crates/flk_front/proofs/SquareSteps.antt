-- Quotients of natural numbers, rounded down and up; and rounded squares: they hold the exact square of a voltage, and are not far from it.
use Rattle.std.proofs.Common.{◌≡◌, ℕ, ◌+◌, ◌-◌, ◌*◌, ◌/◌, ◌^◌, ◌<◌, ◌≤◌, ℤ, pos, ◌-ℤ◌, ◌*ℤ◌, ap, arith}
use Rattle.std.specs.Prelude.{negsuc}
use Rattle.std.specs.Int.{div_ceil}
use Rattle.std.specs.Int.RustNames.{unsigned_abs}
use Rattle.std.proofs.lemmas.Int.{ints, unsigned_abs-mul}
use Rattle.std.proofs.lemmas.Grind.{div_ceil_times}
use Rattle.std.proofs.lemmas.Nat.{mul-le, div-add-mod', mod_below}
use Rattle.std.proofs.Math.Nat.{div-mul-le_self, mul-le-mul_left, mul-le-mul_right}
use Rattle.std.proofs.Math.Nat.{le_of_mul-le-mul_left, le_of_mul-le-mul_right, lt_of_mul-lt-mul_right}
use Rattle.flk_exact.specs.Fraction.{Fraction, ◌≤ℚ◌, ◌-ℚ◌, size, units}
use Rattle.flk_exact.proofs.NumeratorLemmas.{IsOver, over_units, over_difference, over_size, over_at_most}
use Rattle.flk_num.specs.declared.interval.Interval.{Interval}
use Rattle.flk_num.specs.Interval.{Holds, IsNear}
use Rattle.flk_num.specs.Square.{least_size, greatest_size}
use Rattle.flk_num.proofs.SizeLemmas.{least_held, greatest_held}
use Rattle.flk_front.specs.Rounded.{squares_of}
use Rattle.flk_front.proofs.PointSteps.{cases_le}

-- ---- quotients of natural numbers

pub floor_greatest : (a b : ℕ) → 0 < b → a + 1 ≤ a / b * b + b
floor_greatest a b h = omega (arith, div-add-mod' a b, mod_below a b h)

pub ceil_within : (a b : ℕ) → 0 < b → a ≤ div_ceil a b * b
ceil_within a b h = (div_ceil_times a b h).0

pub ceil_least : (a b : ℕ) → 0 < b → div_ceil a b * b + 1 ≤ a + b
ceil_least a b h = let e = (div_ceil_times a b h).1 in omega (arith, e)

ceil_at_most : (x d b c : ℕ) → b * d + 1 ≤ x + d → x ≤ c * d → b ≤ c
ceil_at_most x d b c h k =
    let less : b < c + 1 = lt_of_mul-lt-mul_right d (omega arith) in
    omega arith

-- no other number rounds the quotient up
pub ceil_unique : (x d c : ℕ) → 0 < d → x ≤ c * d → c * d + 1 ≤ x + d → c ≡ div_ceil x d
ceil_unique x d c some h k = omega (arith, ceil_at_most x d c (div_ceil x d) k (ceil_within x d some), ceil_at_most x d (div_ceil x d) c (ceil_least x d some) h)

-- a greater dividend and a lesser divisor give no lesser quotient
pub floor_at_most_ceil : (a b m n : ℕ) → a ≤ b → 0 < m → m ≤ n → a / n ≤ div_ceil b m
floor_at_most_ceil a b m n less some wider =
    let q = a / n in
    let c = div_ceil b m in
    let h : q * n ≤ c * n = omega (arith, div-mul-le_self a n, ceil_within b m some, mul-le-mul_left c wider) in
    le_of_mul-le-mul_right {k = n} h (omega arith)

-- ---- rounded squares hold the exact one

square_within : (w g s d Q : ℕ) → 0 < w → s * w ≤ g * d → g * g ≤ Q * w → w * (s * s) ≤ Q * (d * d)
square_within w g s d Q hw h k =
    let a = mul-le (s * w) (s * w) (g * d) (g * d) h h in
    let b = mul-le-mul_right (d * d) k in
    le_of_mul-le-mul_left {k = w} (omega arith) hw

square_beyond : (w l s d Q : ℕ) → 0 < w → l * d ≤ s * w → Q * w ≤ l * l → Q * (d * d) ≤ w * (s * s)
square_beyond w l s d Q hw h k =
    let a = mul-le (l * d) (l * d) (s * w) (s * w) h h in
    let b = mul-le-mul_right (d * d) k in
    le_of_mul-le-mul_left {k = w} (omega arith) hw

pub square_above : (v : Interval) (u : Fraction) (delta : ℕ) (n : ℤ) → 0 < delta → IsOver delta u n → Holds v u
    → 2 ^ 48 * (unsigned_abs n * unsigned_abs n) ≤ (squares_of v).hi * (delta * delta)
square_above v u delta n hd h held =
    let size = greatest_held v u delta n hd h held in
    square_within (2 ^ 48) (greatest_size v.lo v.hi) (unsigned_abs n) delta (squares_of v).hi (omega arith) size (ceil_within (greatest_size v.lo v.hi * greatest_size v.lo v.hi) (2 ^ 48) (omega arith))

pub square_below : (v : Interval) (u : Fraction) (delta : ℕ) (n : ℤ) → 0 < delta → IsOver delta u n → Holds v u
    → (squares_of v).lo * (delta * delta) ≤ 2 ^ 48 * (unsigned_abs n * unsigned_abs n)
square_below v u delta n hd h held =
    let size = least_held v u delta n hd h held in
    square_beyond (2 ^ 48) (least_size v.lo v.hi) (unsigned_abs n) delta (squares_of v).lo (omega arith) size (div-mul-le_self (least_size v.lo v.hi * least_size v.lo v.hi) (2 ^ 48))

-- ---- and are not far from it, where the ends are near the voltage

-- an end, times base, that is near z
near_size : (base rho : ℕ) (end z : ℤ) → unsigned_abs (pos base *ℤ end -ℤ z) ≤ rho → unsigned_abs end * base ≤ unsigned_abs z + rho
near_size base rho end z h = omega (arith, ints, unsigned_abs-mul (pos base) end)

near_size_back : (base rho : ℕ) (end z : ℤ) → unsigned_abs (pos base *ℤ end -ℤ z) ≤ rho → unsigned_abs z ≤ unsigned_abs end * base + rho
near_size_back base rho end z h = omega (arith, ints, unsigned_abs-mul (pos base) end)

greatest_near : (base rho : ℕ) (lo hi z : ℤ) → unsigned_abs (pos base *ℤ lo -ℤ z) ≤ rho → unsigned_abs (pos base *ℤ hi -ℤ z) ≤ rho
    → greatest_size lo hi * base ≤ unsigned_abs z + rho
greatest_near base rho lo hi z h k =
    cases_le (unsigned_abs lo) (unsigned_abs hi)
    (λ less. let e : greatest_size lo hi ≡ unsigned_abs hi = omega arith in
    rw e (near_size base rho hi z k))
    (λ most. let e : greatest_size lo hi ≡ unsigned_abs lo = omega arith in
    rw e (near_size base rho lo z h))

least_near : (base rho : ℕ) (lo hi z : ℤ) → unsigned_abs (pos base *ℤ lo -ℤ z) ≤ rho → unsigned_abs (pos base *ℤ hi -ℤ z) ≤ rho
    → unsigned_abs z ≤ least_size lo hi * base + rho
least_near base rho (pos a) hi z h k = near_size_back base rho (pos a) z h
least_near base rho (negsuc a) (pos b) z h k = omega (arith, ints)
least_near base rho (negsuc a) (negsuc b) z h k = near_size_back base rho (negsuc b) z k

-- w is 2^48, and s is at most a
upper_square : (w base s rho a g Q : ℕ) → s ≤ a → g * base ≤ s + rho → Q * w + 1 ≤ g * g + w
    → Q * (base * w * (base * w)) ≤ w * (s * s) + w * (2 * a * rho + rho * rho) + base * w * (base * w)
upper_square w base s rho a g Q ha hg hq =
    let x = mul-le (g * base) (g * base) (s + rho) (s + rho) hg hg in
    let y = mul-le-mul_right (w * base * base) hq in
    let z = mul-le-mul_left w x in
    let t = mul-le-mul_left (2 * w * rho) ha in
    omega arith

square_of_sum : (s x rho a : ℕ) → s ≤ a → s ≤ x + rho → s * s ≤ x * x + (2 * a * rho + rho * rho)
square_of_sum s x rho a ha hx =
    cases_le s rho
    (λ less. let t = mul-le s s rho rho less less in omega arith)
    (λ most.
    let e : s ≡ s - rho + rho = omega arith in
    let k = s - rho in
    let p : k * k ≤ x * x = mul-le k k x x (omega arith) (omega arith) in
    let q : s * s ≡ (k + rho) * (k + rho) = ap (λ n. n * n) e in
    let r : 2 * ((k + rho) * rho) ≤ 2 * (a * rho) = mul-le-mul_left 2 (mul-le-mul_right rho (omega arith)) in
    omega arith)

lower_square : (w base s rho a l Q : ℕ) → s ≤ a → s ≤ l * base + rho → l * l + 1 ≤ Q * w + w
    → w * (s * s) ≤ Q * (base * w * (base * w)) + w * (2 * a * rho + rho * rho) + base * w * (base * w)
lower_square w base s rho a l Q ha hl hq =
    let x = mul-le-mul_left w (square_of_sum s (l * base) rho a ha hl) in
    let y = mul-le-mul_right (w * base * base) hq in
    omega arith

-- the ends of v times base are at most rho away from the voltage's number over base * 2^48
near_numbers : (base : ℕ) (reach u : Fraction) (end z : ℤ) (rho : ℕ) → 0 < base → IsOver (base * 2 ^ 48) u z → IsOver (base * 2 ^ 48) reach (pos rho)
    → size (units end -ℚ u) ≤ℚ reach → unsigned_abs (pos base *ℤ end -ℤ z) ≤ rho
near_numbers base reach u end z rho hb hu hr h =
    let delta = base * 2 ^ 48 in
    let e = over_at_most delta _ reach _ (pos rho) (omega arith) h (over_size delta _ _ (over_difference delta (units end) u (pos base *ℤ end) z (over_units base end) hu)) hr in
    omega (arith, ints)

pub square_top : (v : Interval) (reach u : Fraction) (base rho a : ℕ) (z : ℤ) → 0 < base → IsOver (base * 2 ^ 48) u z → IsOver (base * 2 ^ 48) reach (pos rho)
    → unsigned_abs z ≤ a → IsNear reach v u
    → (squares_of v).hi * (base * 2 ^ 48 * (base * 2 ^ 48)) ≤ 2 ^ 48 * (unsigned_abs z * unsigned_abs z) + 2 ^ 48 * (2 * a * rho + rho * rho) + base * 2 ^ 48 * (base * 2 ^ 48)
square_top v reach u base rho a z hb hu hr ha near =
    let g = greatest_size v.lo v.hi in
    upper_square (2 ^ 48) base (unsigned_abs z) rho a g (squares_of v).hi ha
    (greatest_near base rho v.lo v.hi z (near_numbers base reach u v.lo z rho hb hu hr near.low) (near_numbers base reach u v.hi z rho hb hu hr near.high))
    (ceil_least (g * g) (2 ^ 48) (omega arith))

pub square_foot : (v : Interval) (reach u : Fraction) (base rho a : ℕ) (z : ℤ) → 0 < base → IsOver (base * 2 ^ 48) u z → IsOver (base * 2 ^ 48) reach (pos rho)
    → unsigned_abs z ≤ a → IsNear reach v u
    → 2 ^ 48 * (unsigned_abs z * unsigned_abs z) ≤ (squares_of v).lo * (base * 2 ^ 48 * (base * 2 ^ 48)) + 2 ^ 48 * (2 * a * rho + rho * rho) + base * 2 ^ 48 * (base * 2 ^ 48)
square_foot v reach u base rho a z hb hu hr ha near =
    let l = least_size v.lo v.hi in
    lower_square (2 ^ 48) base (unsigned_abs z) rho a l (squares_of v).lo ha
    (least_near base rho v.lo v.hi z (near_numbers base reach u v.lo z rho hb hu hr near.low) (near_numbers base reach u v.hi z rho hb hu hr near.high))
    (floor_greatest (l * l) (2 ^ 48) (omega arith))
