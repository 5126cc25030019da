-- Intervals of voltages hold the values of half-periods.
use Rattle.std.proofs.Common.{inl, inr, ℕ, ◌*◌, ◌^◌, ◌<◌, ◌≤◌, List, [], ◌∷◌, ℤ, pos, ◌≤ℤ◌, arith}
use Rattle.std.proofs.Math.Nat.{mul-le-mul_right, le_of_mul-le-mul_left}
use Rattle.std.proofs.lemmas.Bool.{cases_lt}
use Rattle.std.specs.Int.RustNames.{unsigned_abs}
use Rattle.std.proofs.lemmas.Int.{ints}
use Rattle.std.proofs.lemmas.List.Sums.{sum_by-cons}
use Rattle.std.proofs.lemmas.Nat.{mul-le}
use Rattle.flk_exact.specs.Fraction.{Fraction}
use Rattle.flk_exact.specs.Rounding.{IsBetween}
use Rattle.flk_exact.specs.HalfPeriod.{IsHalfPeriodValue}
use Rattle.flk_exact.proofs.WholeLemmas.{square_is}
use Rattle.flk_exact.proofs.NumeratorLemmas.{over_own}
use Rattle.flk_exact.proofs.HalfPeriodLemmas.{square_den, square_num, square_den_pos, reached_of, of_reached}
use Rattle.flk_num.specs.declared.interval.Interval.{Interval}
use Rattle.flk_num.specs.Interval.{HoldEach}
use Rattle.flk_num.specs.Square.{least_size, greatest_size, least_squares, greatest_squares}
use Rattle.flk_num.proofs.SizeLemmas.{least_held, greatest_held}
use Rattle.flk_half.specs.Cutter.{IsReachedBy, IsValueAt, IsHalfPeriodInterval}

-- the sums of the squares of voltages lie between those of the least and of the greatest sizes
pub sum_above : (vs : List Interval) (us : List Fraction) → HoldEach vs us → least_squares vs * square_den us ≤ square_num us * 2 ^ 96
sum_above [] [] h = omega arith
sum_above [] (u ∷ us) h = absurd h
sum_above (v ∷ vs) [] h = absurd h
sum_above (v ∷ vs) (u ∷ us) h =
    let a = least_size v.lo v.hi in
    let m = unsigned_abs u.num in
    let d = u.den in
    let size = least_held v u d u.num u.positive (over_own u) h.0 in
    let one : a * d * (a * d) ≤ m * 2 ^ 48 * (m * 2 ^ 48) = mul-le _ _ _ _ size size in
    rw (sum_by-cons (λ v. least_size v.lo v.hi * least_size v.lo v.hi) v vs)
    (omega (arith, mul-le-mul_right (square_den us) one, mul-le-mul_right (d * d) (sum_above vs us h.1)))

pub sum_below : (vs : List Interval) (us : List Fraction) → HoldEach vs us → square_num us * 2 ^ 96 ≤ greatest_squares vs * square_den us
sum_below [] [] h = omega arith
sum_below [] (u ∷ us) h = absurd h
sum_below (v ∷ vs) [] h = absurd h
sum_below (v ∷ vs) (u ∷ us) h =
    let a = greatest_size v.lo v.hi in
    let m = unsigned_abs u.num in
    let d = u.den in
    let size = greatest_held v u d u.num u.positive (over_own u) h.0 in
    let one : m * 2 ^ 48 * (m * 2 ^ 48) ≤ a * d * (a * d) = mul-le _ _ _ _ size size in
    rw (sum_by-cons (λ v. greatest_size v.lo v.hi * greatest_size v.lo v.hi) v vs)
    (omega (arith, mul-le-mul_right (square_den us) one, mul-le-mul_right (d * d) (sum_below vs us h.1)))

-- a number is reached where its size is
pub IsReachedBy-size : (half sum : ℕ) (w : ℤ) → unsigned_abs w * unsigned_abs w * (half * 2 ^ 78) ≤ 5 ^ 18 * sum → IsReachedBy half sum w
IsReachedBy-size half sum w h = rw (square_is w) (omega (arith, ints))

pub size-IsReachedBy : (half sum : ℕ) (w : ℤ) → IsReachedBy half sum w → unsigned_abs w * unsigned_abs w * (half * 2 ^ 78) ≤ 5 ^ 18 * sum
size-IsReachedBy half sum w h = let k = rw (square_is w) at h in omega (arith, ints)

-- a value is not below 0, since 0 is reached
pub IsValueAt-natural : (half sum : ℕ) (w : ℤ) → IsValueAt half sum w → pos 0 ≤ℤ w
IsValueAt-natural half sum w h = h.greatest (pos 0) (IsReachedBy-size half sum (pos 0) (omega arith))

-- the value of every run lies between the two ends
value_above : (half : ℕ) (vs : List Interval) (us : List Fraction) (lo w : ℤ) → HoldEach vs us → IsValueAt half (least_squares vs) lo → IsHalfPeriodValue half us w → lo ≤ℤ w
value_above half vs us lo w held low value =
    let reached = size-IsReachedBy half (least_squares vs) lo low.reached in
    value.greatest lo (reached_of half lo us
    (omega (arith, sum_above vs us held, mul-le-mul_right (square_den us) reached)))

value_below : (half : ℕ) (vs : List Interval) (us : List Fraction) (hi w : ℤ) → HoldEach vs us → IsValueAt half (greatest_squares vs) hi → IsHalfPeriodValue half us w → w ≤ℤ hi
value_below half vs us hi w held high value =
    let d = square_den us in
    let m = unsigned_abs w in
    let reached = of_reached half w us value.reached in
    let over : d * (m * m * (half * 2 ^ 78)) ≤ d * (5 ^ 18 * greatest_squares vs) = omega (arith, sum_below vs us held, reached) in
    high.greatest w (IsReachedBy-size half (greatest_squares vs) w (le_of_mul-le-mul_left over (square_den_pos us)))

pub half_period_holds : (half : ℕ) (vs : List Interval) (us : List Fraction) (h : Interval) (w : ℤ) → HoldEach vs us → IsHalfPeriodInterval half vs h → IsHalfPeriodValue half us w → IsBetween h.lo h.hi w
half_period_holds half vs us h w held interval value = record {
  above = value_above half vs us h.lo w held interval.low value;
  below = value_below half vs us h.hi w held interval.high value;
}

-- a value of at most so many samples of at most five times nominal is at most ten times nominal
pub value_small : (half s since : ℕ) (w : ℤ) → 0 < half → since ≤ 2 * half → s ≤ 25 * 2 ^ 96 * since → IsValueAt half s w → w ≤ℤ pos 10000000000
value_small half s since w some few sum value =
    let n = unsigned_abs w in
    let reached : n * n * (half * 2 ^ 78) ≤ 5 ^ 18 * s = size-IsReachedBy half s w value.reached in
    elim (cases_lt 10000000000 n) [
      | inl more ↦
          (let square : 10000000000 * 10000000000 ≤ n * n = mul-le 10000000000 10000000000 n n (omega (arith, more)) (omega (arith, more)) in
          let product : 10000000000 * 10000000000 * (half * 2 ^ 78) ≤ n * n * (half * 2 ^ 78) = mul-le-mul_right (half * 2 ^ 78) square in
          absurd (omega (arith, product, reached, sum, few, some)))
      | inr most ↦ omega (arith, ints, most)
    ]
