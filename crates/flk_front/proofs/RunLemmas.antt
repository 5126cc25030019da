-- All points of a list of intervals at once.
use Rattle.std.proofs.Common.{◌≡◌, ℕ, suc, ◌+◌, ◌-◌, ◌*◌, ◌/◌, ◌^◌, ◌<◌, ◌≤◌, List, [], ◌∷◌, All, ap, subst, ⊎_elim, arith}
use Rattle.std.specs.Int.{div_ceil}
use Rattle.std.specs.List.{AllZip}
use Rattle.std.proofs.lemmas.Bool.{cases_lt}
use Rattle.std.proofs.lemmas.Nat.{mul-le, pow_pos}
use Rattle.std.proofs.lemmas.List.Elements.{All-cons}
use Rattle.std.proofs.Math.Nat.{div-le_self, div-mul-le_self, mul-le-mul_left, mul-le-mul_right, lt_of_mul-lt-mul_right, le_of_mul-le-mul_right}
use Rattle.flk_exact.specs.Fraction.{Fraction, ◌≤ℚ◌, units}
use Rattle.flk_num.specs.declared.interval.Interval.{Interval}
use Rattle.flk_num.specs.Interval.{HoldEach}
use Rattle.flk_num.proofs.SizeLemmas.{sizes_ordered}
use Rattle.flk_front.specs.declared.ends.Ends.{Ends}
use Rattle.flk_front.specs.declared.point.Point.{Point}
use Rattle.flk_front.specs.Adaptor.{IsAdapted}
use Rattle.flk_front.specs.Rounded.{squares_of, next_mean, mean_of, divisor_of, newest_output, ArePoints}
use Rattle.flk_front.specs.Front.{IsWithin}
use Rattle.flk_front.specs.Width.{AreClose, CoversOutput}
use Rattle.flk_front.proofs.SquareSteps.{ceil_within, ceil_least, floor_greatest}
use Rattle.flk_front.proofs.MeanLemmas.{ceil_below}
use Rattle.flk_front.proofs.EnclosureLemmas.{point_encloses}
use Rattle.flk_front.proofs.WidthLemmas.{point_is_narrow}

-- ---- the ends are in order

-- a quotient rounded down is at most a greater one rounded up
floor_ceil : (x y c d : ℕ) → 0 < c → x ≤ y → c ≤ d → x / d ≤ div_ceil y c
floor_ceil x y c d some order wider =
    let f = x / d in
    let k = div-mul-le_self x d in
    let g = ceil_within y c some in
    let h : f * c ≤ f * d = mul-le-mul_left f wider in
    let l : f * c < (div_ceil y c + 1) * c = omega arith in
    let m : f < div_ceil y c + 1 = lt_of_mul-lt-mul_right c l in
    omega arith

squares_ordered : (v : Interval) → (squares_of v).lo ≤ (squares_of v).hi
squares_ordered v =
    let size = sizes_ordered v.lo v.hi in
    floor_ceil _ _ (2 ^ 48) (2 ^ 48) (omega arith) (mul-le _ _ _ _ size size) (omega arith)

-- what is left of x and of y, where f is a part in k + 1 of x, rounded up, and g one of y, rounded down
left_ordered : (k x y f g : ℕ) → x ≤ y → x ≤ f * (k + 1) → g * (k + 1) ≤ y → f ≤ x → g ≤ y → x - f ≤ y - g
left_ordered k x y f g order ceil floor f_fits g_fits =
    let p : x * (k + 1) ≡ (x - f + f) * (k + 1) = ap (λ (n : ℕ). n * (k + 1)) (let e : x ≡ x - f + f = omega arith in e) in
    let q : y * (k + 1) ≡ (y - g + g) * (k + 1) = ap (λ (n : ℕ). n * (k + 1)) (let e : y ≡ y - g + g = omega arith in e) in
    let r = mul-le-mul_right k order in
    le_of_mul-le-mul_right {k = k + 1} (omega arith) (omega arith)

pub next_ordered : (e : ℕ) (M q : Ends) → M.lo ≤ M.hi → q.lo ≤ q.hi → (next_mean e M q).lo ≤ (next_mean e M q).hi
next_ordered e M q order squares =
    let some : 0 < 2 ^ e = pow_pos e in
    let k = 2 ^ e - 1 in
    let whole : k + 1 ≡ 2 ^ e = omega arith in
    let f = div_ceil M.lo (2 ^ e) in
    let g = M.hi / 2 ^ e in
    let f_by : f * (k + 1) ≡ f * 2 ^ e = ap (λ (n : ℕ). f * n) whole in
    let g_by : g * (k + 1) ≡ g * 2 ^ e = ap (λ (n : ℕ). g * n) whole in
    let left = left_ordered k M.lo M.hi f g order (omega (arith, ceil_within M.lo (2 ^ e) some)) (omega (arith, div-mul-le_self M.hi (2 ^ e))) (ceil_below M.lo (2 ^ e) some) (div-le_self M.hi (2 ^ e)) in
    let part = floor_ceil q.lo q.hi (2 ^ (e - 16)) (2 ^ (e - 16)) (pow_pos (e - 16)) squares (omega arith) in
    omega arith

-- ---- the mean stays small

small_at_16 : (M q : Ends) → M.hi ≤ 17 * 2 ^ 64 → 2 * q.hi ≤ 33 * 2 ^ 48 → (next_mean 16 M q).hi ≤ 17 * 2 ^ 64
small_at_16 M q mean square = omega (arith, mean, square, floor_greatest M.hi (2 ^ 16) (omega arith), ceil_least q.hi 1 (omega arith))

small_at_17 : (M q : Ends) → M.hi ≤ 17 * 2 ^ 64 → 2 * q.hi ≤ 33 * 2 ^ 48 → (next_mean 17 M q).hi ≤ 17 * 2 ^ 64
small_at_17 M q mean square = omega (arith, mean, square, floor_greatest M.hi (2 ^ 17) (omega arith), ceil_least q.hi 2 (omega arith))

pub next_small : (e : ℕ) (M q : Ends) → 16 ≤ e → e ≤ 17 → M.hi ≤ 17 * 2 ^ 64 → 2 * q.hi ≤ 33 * 2 ^ 48 → (next_mean e M q).hi ≤ 17 * 2 ^ 64
next_small e M q low high mean square =
    let P : ℕ → Type 0 = λ n. (next_mean n M q).hi ≤ 17 * 2 ^ 64 in
    ⊎_elim
    (λ less. let same : 16 ≡ e = omega (arith, less, low) in subst P same (small_at_16 M q mean square))
    (λ most. let same : 17 ≡ e = omega (arith, most, high) in subst P same (small_at_17 M q mean square))
    (cases_lt e 17)

mean_ordered : (e : ℕ) (vs : List Interval) → (mean_of e vs).lo ≤ (mean_of e vs).hi
mean_ordered e [] = omega arith
mean_ordered e (v ∷ vs) = next_ordered e (mean_of e vs) (squares_of v) (mean_ordered e vs) (squares_ordered v)

pub output_ordered : (e : ℕ) (vs : List Interval) (v : Interval) → (newest_output e vs v).lo ≤ (newest_output e vs v).hi
output_ordered e vs v =
    let q = squares_of v in
    let M = mean_of e vs in
    let by = divisor_of M in
    let order = mean_ordered e vs in
    floor_ceil (q.lo * 2 ^ 64) (q.hi * 2 ^ 64) by.lo by.hi (omega arith) (mul-le-mul_right (2 ^ 64) (squares_ordered v)) (omega arith)

-- ---- all points

pub points_enclose : (e : ℕ) (vs : List Interval) (us means ys : List Fraction) (ps : List Point) → 16 ≤ e → HoldEach vs us → IsAdapted e us means ys → ArePoints e vs ps
    → AllZip IsWithin ps ys
points_enclose e [] [] [] ys ps low held h points = absurd h
points_enclose e [] [] (m ∷ []) [] [] low held h points = tt
points_enclose e [] [] (m ∷ []) [] (p ∷ ps) low held h points = absurd points
points_enclose e [] [] (m ∷ []) (y ∷ ys) ps low held h points = absurd h
points_enclose e [] [] (m ∷ n ∷ means) ys ps low held h points = absurd h
points_enclose e [] (u ∷ us) means ys ps low held h points = absurd held
points_enclose e (v ∷ vs) [] means ys ps low held h points = absurd held
points_enclose e (v ∷ vs) (u ∷ us) [] ys ps low held h points = absurd h
points_enclose e (v ∷ vs) (u ∷ us) (m ∷ []) ys ps low held h points = absurd h
points_enclose e (v ∷ vs) (u ∷ us) (next ∷ m ∷ means) [] ps low held h points = absurd h
points_enclose e (v ∷ vs) (u ∷ us) (next ∷ m ∷ means) (y ∷ ys) [] low held h points = absurd points
points_enclose e (v ∷ vs) (u ∷ us) (next ∷ m ∷ means) (y ∷ ys) (p ∷ ps) low held h points =
    (point_encloses e vs v (u ∷ us) (next ∷ m ∷ means) ys y p low held h points.0, points_enclose e vs us (m ∷ means) ys ps low held.1 h.2 points.1)

-- what is close is so without its newest sample
close_before : (delta a r : Fraction) (v : Interval) (vs : List Interval) (u next m : Fraction) (us means : List Fraction) → AreClose delta a r (v ∷ vs) (u ∷ us) (next ∷ m ∷ means)
    → AreClose delta a r vs us (m ∷ means)
close_before delta a r v vs u next m us means h = record {
  delta_low = h.delta_low;
  delta_high = h.delta_high;
  near = h.near.1;
  sizes = λ i d k. h.sizes (suc i) d (omega arith);
  a_high = h.a_high;
  r_low = h.r_low;
  divisors = λ i d k. h.divisors (suc i) d (omega arith);
}

pub points_are_narrow : (e : ℕ) (vs : List Interval) (us means ys : List Fraction) (ps : List Point) (delta a r w : Fraction) → 16 ≤ e → e ≤ 17 → IsAdapted e us means ys
    → AreClose delta a r vs us means → CoversOutput delta a r w → ArePoints e vs ps → All (λ p. units p.radius ≤ℚ w) ps
points_are_narrow e [] us means ys [] delta a r w low high h close covers points = λ i d k. absurd (omega arith)
points_are_narrow e [] us means ys (p ∷ ps) delta a r w low high h close covers points = absurd points
points_are_narrow e (v ∷ vs) us means ys [] delta a r w low high h close covers points = absurd points
points_are_narrow e (v ∷ vs) [] means ys (p ∷ ps) delta a r w low high h close covers points = absurd close.near
points_are_narrow e (v ∷ vs) (u ∷ us) [] ys (p ∷ ps) delta a r w low high h close covers points = absurd h
points_are_narrow e (v ∷ vs) (u ∷ us) (m ∷ []) ys (p ∷ ps) delta a r w low high h close covers points = absurd h
points_are_narrow e (v ∷ vs) (u ∷ us) (next ∷ m ∷ means) [] (p ∷ ps) delta a r w low high h close covers points = absurd h
points_are_narrow e (v ∷ vs) (u ∷ us) (next ∷ m ∷ means) (y ∷ ys) (p ∷ ps) delta a r w low high h close covers points =
    All-cons (λ p. units p.radius ≤ℚ w) p ps
    (point_is_narrow e vs v (u ∷ us) (next ∷ m ∷ means) (y ∷ ys) delta a r w p low high h close covers points.0 (output_ordered e vs v))
    (points_are_narrow e vs us (m ∷ means) ys ps delta a r w low high h.2 (close_before delta a r v vs u next m us means close) covers points.1)
