-- The sums of a window, as the code keeps them: how they step, and how large they are.
use Rattle.std.proofs.Common.{◌≡◌, ℕ, ◌+◌, ◌-◌, ◌*◌, ◌<◌, ◌≤◌, List, length, get_or, drop, ℤ, pos, ◌+ℤ◌, ◌-ℤ◌, ◌≤ℤ◌, ap, refl, subst, sym, arith, length-take}
use Rattle.std.specs.List.{All, AllZip}
use Rattle.std.proofs.lemmas.Int.{ints}
use Rattle.std.proofs.lemmas.List.{get_or-map, length-map}
use Rattle.std.proofs.lemmas.List.Elements.{All-map, All-take, All-drop, All-weaker}
use Rattle.flk_exact.proofs.ListLemmas.{AllZip-slice_range, AllZip-from_get_or}
use Rattle.flk_num.specs.declared.interval.Interval.{Interval}
use Rattle.flk_num.specs.Interval.{lows, highs}
use Rattle.flk_num.specs.Values.{IsHalfPeriodRange}
use Rattle.flk_change.specs.Steady.{window_at}
use Rattle.flk_change.specs.Changes.{total}
use Rattle.flk_change.specs.Pass.{AreSums}
use Rattle.flk_change.specs.declared.level.Sums.{Sums}
use Rattle.flk_change.proofs.LevelLemmas.{total-≤, total-above, total-below, slide-grows, slide-moves}

pub lows-get_or : (halves : List Interval) (i : ℕ) (d : Interval) (e : ℤ) → i < length halves → get_or (lows halves) i e ≡ (get_or halves i d).lo
lows-get_or halves i d e there = get_or-map (λ h. h.lo) halves i d e there

pub highs-get_or : (halves : List Interval) (i : ℕ) (d : Interval) (e : ℤ) → i < length halves → get_or (highs halves) i e ≡ (get_or halves i d).hi
highs-get_or halves i d e there = get_or-map (λ h. h.hi) halves i d e there

pub lows-natural : (halves : List Interval) → All IsHalfPeriodRange halves → All (λ x. pos 0 ≤ℤ x) (lows halves)
lows-natural halves h = All-map (λ x. pos 0 ≤ℤ x) (λ h. h.lo) halves (All-weaker IsHalfPeriodRange (λ v. pos 0 ≤ℤ v.lo) (λ v r. r.low) halves h)

pub lows-small : (halves : List Interval) → All IsHalfPeriodRange halves → All (λ x. x ≤ℤ pos 10000000000) (lows halves)
lows-small halves h = All-map (λ x. x ≤ℤ pos 10000000000) (λ h. h.lo) halves (All-weaker IsHalfPeriodRange (λ v. v.lo ≤ℤ pos 10000000000) (λ v r. omega (arith, ints, r.high, v.ordered)) halves h)

pub highs-natural : (halves : List Interval) → All IsHalfPeriodRange halves → All (λ x. pos 0 ≤ℤ x) (highs halves)
highs-natural halves h = All-map (λ x. pos 0 ≤ℤ x) (λ h. h.hi) halves (All-weaker IsHalfPeriodRange (λ v. pos 0 ≤ℤ v.hi) (λ v r. omega (arith, ints, r.low, v.ordered)) halves h)

pub highs-small : (halves : List Interval) → All IsHalfPeriodRange halves → All (λ x. x ≤ℤ pos 10000000000) (highs halves)
highs-small halves h = All-map (λ x. x ≤ℤ pos 10000000000) (λ h. h.hi) halves (All-weaker IsHalfPeriodRange (λ v. v.hi ≤ℤ pos 10000000000) (λ v r. r.high) halves h)

-- the lower ends are at most the upper ones
pub ends_ordered : (halves : List Interval) → AllZip (λ x y. x ≤ℤ y) (lows halves) (highs halves)
ends_ordered halves =
    AllZip-from_get_or (λ x y. x ≤ℤ y) (lows halves) (highs halves) (omega (arith, length-map halves (λ (h : Interval). h.lo), length-map halves (λ (h : Interval). h.hi)))
    (λ i d e low.
    let there : i < length halves = omega (arith, low, length-map halves (λ (h : Interval). h.lo)) in
    let v = get_or halves i record { lo = pos 0; hi = pos 0; ordered = omega (arith, ints) } in
    omega (
      arith,
      ints,
      v.ordered,
      lows-get_or halves i record { lo = pos 0; hi = pos 0; ordered = omega (arith, ints) } d there,
      highs-get_or halves i record { lo = pos 0; hi = pos 0; ordered = omega (arith, ints) } e there,
    ))

-- a window has at most `window` numbers
short : (window j : ℕ) (xs : List ℤ) → length (window_at window xs j) ≤ window
short window j xs = omega (arith, length-take (j - (j - window)) (drop (j - window) xs))

window_natural : (window j : ℕ) (xs : List ℤ) → All (λ x. pos 0 ≤ℤ x) xs → pos 0 ≤ℤ total (window_at window xs j)
window_natural window j xs h =
    let part = window_at window xs j in
    omega (arith, ints, total-above (pos 0) part (All-take (λ x. pos 0 ≤ℤ x) (j - (j - window)) (drop (j - window) xs) (All-drop (λ x. pos 0 ≤ℤ x) (j - window) xs h)))

window_small : (window j : ℕ) (xs : List ℤ) → All (λ x. x ≤ℤ pos 10000000000) xs → total (window_at window xs j) ≤ℤ pos (10000000000 * window)
window_small window j xs h =
    let part = window_at window xs j in
    omega (arith, ints, short window j xs, total-below (pos 10000000000) part (All-take (λ x. x ≤ℤ pos 10000000000) (j - (j - window)) (drop (j - window) xs) (All-drop (λ x. x ≤ℤ pos 10000000000) (j - window) xs h)))

-- an interval that stands in the list is in range
pub range_at : (halves : List Interval) (i : ℕ) (v : Interval) → All IsHalfPeriodRange halves → i < length halves → v ≡ get_or halves i v → IsHalfPeriodRange v
range_at halves i v range there is = subst IsHalfPeriodRange (sym is) (range i v there)

-- the sums of a window of values in range
pub record AreSmallSums (window : ℕ) (s : Sums) : Type 0 where
  pub low : pos 0 ≤ℤ s.low
  pub ordered : s.low ≤ℤ s.high
  pub high : s.high ≤ℤ pos (10000000000 * window)

pub sums_small : (window j : ℕ) (halves : List Interval) (s : Sums) → All IsHalfPeriodRange halves → AreSums window halves j s → AreSmallSums window s
sums_small window j halves s range sums = record {
  low = omega (arith, ints, sums.low, window_natural window j (lows halves) (lows-natural halves range));
  ordered = omega (arith, ints, sums.low, sums.high, total-≤ (window_at window (lows halves) j) (window_at window (highs halves) j) (AllZip-slice_range (λ x y. x ≤ℤ y) (j - window) j (lows halves) (highs halves) (ends_ordered halves)));
  high = omega (arith, ints, sums.high, window_small window j (highs halves) (highs-small halves range));
}

pub window_start : (window : ℕ) (xs : List ℤ) → total (window_at window xs 0) ≡ pos 0
window_start window xs = let e : 0 - window ≡ 0 = omega arith in rw e refl

-- the sums with one half-period more, in a window that is not whole yet
pub sums_grow : (window i : ℕ) (halves : List Interval) (s t : Sums) (v : Interval) → i < length halves → i < window → AreSums window halves i s
    → v ≡ get_or halves i v → t.low ≡ s.low +ℤ v.lo → t.high ≡ s.high +ℤ v.hi → AreSums window halves (i + 1) t
sums_grow window i halves s t v there early sums is low high = record {
  low = omega (arith, ints, sums.low, low, ap (λ (w : Interval). w.lo) is, lows-get_or halves i v (pos 0) there, slide-grows window i (lows halves) (pos 0) (omega (arith, there, length-map halves (λ (h : Interval). h.lo))) early);
  high = omega (arith, ints, sums.high, high, ap (λ (w : Interval). w.hi) is, highs-get_or halves i v (pos 0) there, slide-grows window i (highs halves) (pos 0) (omega (arith, there, length-map halves (λ (h : Interval). h.hi))) early);
}

-- and without the one that leaves a whole window
pub sums_move : (window i : ℕ) (halves : List Interval) (s t : Sums) (v w : Interval) → i < length halves → 0 < window → window ≤ i → AreSums window halves i s
    → v ≡ get_or halves i v → w ≡ get_or halves (i - window) w → t.low ≡ s.low +ℤ v.lo -ℤ w.lo → t.high ≡ s.high +ℤ v.hi -ℤ w.hi → AreSums window halves (i + 1) t
sums_move window i halves s t v w there some whole sums is was low high =
    let before : i - window < length halves = omega arith in
    record {
      low = omega (arith, ints, sums.low, low, ap (λ (u : Interval). u.lo) is, ap (λ (u : Interval). u.lo) was, lows-get_or halves i v (pos 0) there, lows-get_or halves (i - window) w (pos 0) before, slide-moves window i (lows halves) (pos 0) (omega (arith, there, length-map halves (λ (h : Interval). h.lo))) some whole);
      high = omega (arith, ints, sums.high, high, ap (λ (u : Interval). u.hi) is, ap (λ (u : Interval). u.hi) was, highs-get_or halves i v (pos 0) there, highs-get_or halves (i - window) w (pos 0) before, slide-moves window i (highs halves) (pos 0) (omega (arith, there, length-map halves (λ (h : Interval). h.hi))) some whole);
    }
