-- The interval of a half-period's value is narrow where those of its voltages are.
use Rattle.std.proofs.Common.{◌≡◌, ℕ, ◌+◌, ◌-◌, ◌*◌, ◌^◌, ◌<◌, ◌≤◌, List, [], ◌∷◌, length, ℤ, pos, neg_ℤ, ◌+ℤ◌, ◌-ℤ◌, ◌*ℤ◌, ◌≤ℤ◌, ⊎_elim, arith}
use Rattle.std.specs.List.{All}
use Rattle.std.proofs.Math.Nat.{mul-pos, mul-le-mul_right, mul-le-mul_left, le_of_mul-le-mul_left}
use Rattle.std.specs.Int.RustNames.{unsigned_abs}
use Rattle.std.proofs.lemmas.Bool.{cases_lt}
use Rattle.std.proofs.lemmas.Int.{ints}
use Rattle.std.proofs.lemmas.List.Elements.{All-head, All-tail}
use Rattle.std.proofs.lemmas.List.Sums.{sum_by-cons}
use Rattle.std.proofs.lemmas.Nat.{mul-le}
use Rattle.flk_exact.specs.Fraction.{Fraction, ◌≤ℚ◌, whole}
use Rattle.flk_exact.specs.HalfPeriod.{half_period_width}
use Rattle.flk_exact.proofs.WholeLemmas.{sum-*ℤ, neg-*ℤ, natural_is, twice_product}
use Rattle.flk_num.specs.declared.interval.Interval.{Interval}
use Rattle.flk_num.specs.Interval.{IsNarrow}
use Rattle.flk_num.specs.Square.{least_size, greatest_size, least_squares, greatest_squares}
use Rattle.flk_num.proofs.SizeLemmas.{sizes_apart}
use Rattle.flk_half.specs.Cutter.{IsValueAt, IsHalfPeriodInterval}
use Rattle.flk_half.proofs.EnclosureLemmas.{IsReachedBy-size, size-IsReachedBy, IsValueAt-natural}

-- the square of a sum, by two weights
weighed_square : (x t a b : ℕ) → a * b * ((x + t) * (x + t)) ≤ b * (a + b) * (x * x) + a * (a + b) * (t * t)
weighed_square x t a b = omega (arith, twice_product (b * x) (a * t))

term : (near far q t a b : ℕ) → far * q ≤ near * q + t → a * b * (far * q * (far * q)) ≤ b * (a + b) * (near * q * (near * q)) + a * (a + b) * (t * t)
term near far q t a b h =
    let top : far * q * (far * q) ≤ (near * q + t) * (near * q + t) = mul-le _ _ _ _ h h in
    omega (arith, mul-le-mul_left (a * b) top, weighed_square (near * q) t a b)

-- a voltage's width over the denominator of delta, p over q
voltage_spread : (v : Interval) (delta : Fraction) (p : ℕ) → delta.num ≡ pos p → IsNarrow delta v → (v.hi *ℤ pos delta.den) ≤ℤ (v.lo *ℤ pos delta.den +ℤ pos (2 ^ 49 * p))
voltage_spread v delta p e h =
    let k = rw e at h.width.cross in
    omega (arith, ints, k, sum-*ℤ v.hi (neg_ℤ v.lo) delta.den, neg-*ℤ v.lo delta.den)

sums : (delta : Fraction) (p a b : ℕ) (vs : List Interval) → delta.num ≡ pos p → All (IsNarrow delta) vs
    → a * b * (delta.den * delta.den) * greatest_squares vs ≤ b * (a + b) * (delta.den * delta.den) * least_squares vs + a * (a + b) * length vs * (2 ^ 49 * p * (2 ^ 49 * p))
sums delta p a b [] e h = omega arith
sums delta p a b (v ∷ vs) e h =
    let q = delta.den in
    let width = voltage_spread v delta p e (All-head (IsNarrow delta) v vs h) in
    let one = term (least_size v.lo v.hi) (greatest_size v.lo v.hi) q (2 ^ 49 * p) a b (sizes_apart v.lo v.hi q (2 ^ 49 * p) v.ordered width) in
    rw (sum_by-cons (λ v. least_size v.lo v.hi * least_size v.lo v.hi) v vs, sum_by-cons (λ v. greatest_size v.lo v.hi * greatest_size v.lo v.hi) v vs)
    (omega (arith, sums delta p a b vs e (All-tail (IsNarrow delta) v vs h), one))

-- the last step, on numbers alone: a is `lo + 1`, and b is how much further hi is
far_apart : (n len p q a b least greatest : ℕ) → 0 < n → 0 < a → len ≤ 2 * n → 3 * 10 ^ 9 * p + 1 ≤ b * q
    → (a + b) * (a + b) * n * 2 ^ 78 ≤ 5 ^ 18 * greatest → 5 ^ 18 * least ≤ a * a * n * 2 ^ 78
    → a * b * (q * q) * greatest ≤ b * (a + b) * (q * q) * least + a * (a + b) * len * (2 ^ 49 * p * (2 ^ 49 * p)) → ⊥
far_apart n len p q a b least greatest some high count far reached below weighed =
    let one : a * b * (q * q) * ((a + b) * (a + b) * n * 2 ^ 78) ≤ a * b * (q * q) * (5 ^ 18 * greatest) = mul-le-mul_left (a * b * (q * q)) reached in
    let two : b * (a + b) * (q * q) * (5 ^ 18 * least) ≤ b * (a + b) * (q * q) * (a * a * n * 2 ^ 78) = mul-le-mul_left (b * (a + b) * (q * q)) below in
    let three : a * (a + b) * (b * (q * q) * (a + b) * n * 2 ^ 78) ≤ a * (a + b) * (b * (q * q) * a * n * 2 ^ 78 + 5 ^ 18 * len * (2 ^ 49 * p * (2 ^ 49 * p))) = omega arith in
    let four : b * (q * q) * (a + b) * n * 2 ^ 78 ≤ b * (q * q) * a * n * 2 ^ 78 + 5 ^ 18 * len * (2 ^ 49 * p * (2 ^ 49 * p)) = le_of_mul-le-mul_left three (mul-pos high (omega arith)) in
    let five : (3 * 10 ^ 9 * p + 1) * (3 * 10 ^ 9 * p + 1) ≤ b * q * (b * q) = mul-le _ _ _ _ far far in
    let six : (3 * 10 ^ 9 * p + 1) * (3 * 10 ^ 9 * p + 1) * n ≤ b * q * (b * q) * n = mul-le-mul_right n five in
    let seven : len * (p * p) ≤ 2 * n * (p * p) = mul-le-mul_right (p * p) count in
    omega arith

-- what a value says of natural numbers
value_reached : (half sum a : ℕ) (w : ℤ) → w ≡ pos a → IsValueAt half sum w → a * a * half * 2 ^ 78 ≤ 5 ^ 18 * sum
value_reached half sum a w e h = let k = rw e at (size-IsReachedBy half sum w h.reached) in omega (arith, k)

value_next : (half sum a : ℕ) (w : ℤ) → w ≡ pos a → IsValueAt half sum w → 5 ^ 18 * sum ≤ (a + 1) * (a + 1) * half * 2 ^ 78
value_next half sum a w e h =
    ⊎_elim
    (λ less. let reached : (a + 1) * (a + 1) * (half * 2 ^ 78) ≤ 5 ^ 18 * sum = omega (arith, less) in
    absurd (omega (arith, ints, h.greatest (pos (a + 1)) (IsReachedBy-size half sum (pos (a + 1)) reached))))
    (λ most. most)
    (cases_lt ((a + 1) * (a + 1) * half * 2 ^ 78) (5 ^ 18 * sum))

width : (half p lo hi : ℕ) (delta : Fraction) (vs : List Interval) (h : Interval) → 0 < half → length vs ≤ 2 * half → delta.num ≡ pos p → All (IsNarrow delta) vs → IsHalfPeriodInterval half vs h
    → h.lo ≡ pos lo → h.hi ≡ pos hi → hi * delta.den ≤ lo * delta.den + delta.den + 3 * 10 ^ 9 * p
width half p lo hi delta vs h some count e narrow interval at_lo at_hi =
    let q = delta.den in
    let b = hi - (lo + 1) in
    let reached = value_reached half (greatest_squares vs) hi h.hi at_hi interval.high in
    let next = value_next half (least_squares vs) lo h.lo at_lo interval.low in
    ⊎_elim
    (λ far.
    let more : lo + 1 + b ≡ hi =
    ⊎_elim (λ less. omega arith) (λ none. let z : b ≡ 0 = omega arith in absurd (omega (arith, rw z at far))) (cases_lt lo hi) in
    absurd (far_apart half (length vs) p q (lo + 1) b (least_squares vs) (greatest_squares vs) some (omega arith) count (omega (arith, far))
    (rw more reached) next (sums delta p (lo + 1) b vs e narrow)))
    (λ near. let step : hi ≤ lo + 1 + b = omega arith in omega (arith, mul-le-mul_right q step))
    (cases_lt (3 * 10 ^ 9 * p) (b * q))

width_is : (lo hi : ℤ) (delta : Fraction) (p a b : ℕ) → delta.num ≡ pos p → lo ≡ pos a → hi ≡ pos b → b * delta.den ≤ a * delta.den + delta.den + 3 * 10 ^ 9 * p → whole (hi -ℤ lo) ≤ℚ half_period_width delta
width_is lo hi delta p a b e f g h =
    let k : (hi *ℤ pos delta.den) ≤ℤ (lo *ℤ pos delta.den +ℤ pos (delta.den + 3 * 10 ^ 9 * p)) = rw (f, g) (omega (arith, ints)) in
    record { cross = rw e (omega (arith, ints, k, sum-*ℤ hi (neg_ℤ lo) delta.den, neg-*ℤ lo delta.den)) }

-- for a delta that is not below 0, which each list of voltages but the empty one makes so
pub half_period_narrow : (half : ℕ) (vs : List Interval) (h : Interval) (delta : Fraction) → 0 < half → length vs ≤ 2 * half → pos 0 ≤ℤ delta.num → All (IsNarrow delta) vs → IsHalfPeriodInterval half vs h → whole (h.hi -ℤ h.lo) ≤ℚ half_period_width delta
half_period_narrow half vs h delta some count natural narrow interval =
    let num = natural_is delta.num natural in
    let lo = natural_is h.lo (IsValueAt-natural half (least_squares vs) h.lo interval.low) in
    let hi = natural_is h.hi (IsValueAt-natural half (greatest_squares vs) h.hi interval.high) in
    width_is h.lo h.hi delta (unsigned_abs delta.num) (unsigned_abs h.lo) (unsigned_abs h.hi) num lo hi
    (width half (unsigned_abs delta.num) (unsigned_abs h.lo) (unsigned_abs h.hi) delta vs h some count num narrow interval lo hi)
