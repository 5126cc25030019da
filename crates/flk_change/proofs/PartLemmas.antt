-- What the half-periods of a change give, as the code finds it.
use Rattle.std.proofs.Common.{◌≡◌, ℕ, ◌<◌, ◌≤◌, Bool, true, false, cond, List, length, get_or, ℤ, pos, ◌≤ℤ◌, refl, sym, ap, ◌∙◌, arith}
use Rattle.std.proofs.lemmas.Int.{ints}
use Rattle.std.proofs.lemmas.List.{length-map}
use Rattle.flk_exact.proofs.ListLemmas.{AllZip-get_or}
use Rattle.flk_exact.proofs.WholeLemmas.{≤ℤ_trans}
use Rattle.flk_num.specs.declared.interval.Interval.{Interval}
use Rattle.flk_num.specs.Interval.{lows, highs}
use Rattle.flk_change.specs.Changes.{IsAmong, excesses, IsGreatestOrZero}
use Rattle.flk_change.specs.Resolutions.{least_distance, greatest_distance}
use Rattle.flk_change.specs.Pass.{least_swing, greatest_swing}
use Rattle.flk_change.proofs.GreatestLemmas.{greatest_≤}
use Rattle.flk_change.proofs.SwingLemmas.{least_natural, distance_ordered, excesses_≤}
use Rattle.flk_change.proofs.SumLemmas.{lows-get_or, highs-get_or, ends_ordered}

pub low_at : (halves : List Interval) (i : ℕ) (v : Interval) → i < length halves → v ≡ get_or halves i v → get_or (lows halves) i (pos 0) ≡ v.lo
low_at halves i v there is = lows-get_or halves i v (pos 0) there ∙ sym (ap (λ (u : Interval). u.lo) is)

pub high_at : (halves : List Interval) (i : ℕ) (v : Interval) → i < length halves → v ≡ get_or halves i v → get_or (highs halves) i (pos 0) ≡ v.hi
high_at halves i v there is = highs-get_or halves i v (pos 0) there ∙ sym (ap (λ (u : Interval). u.hi) is)

pub least_swing_at : (halves : List Interval) (level : Interval) (i : ℕ) (v : Interval) → i < length halves → v ≡ get_or halves i v → least_swing halves level i ≡ least_distance v.lo v.hi level.lo level.hi
least_swing_at halves level i v there is = rw (low_at halves i v there is, high_at halves i v there is) refl

pub greatest_swing_at : (halves : List Interval) (level : Interval) (i : ℕ) (v : Interval) → i < length halves → v ≡ get_or halves i v → greatest_swing halves level i ≡ greatest_distance v.lo v.hi level.lo level.hi
greatest_swing_at halves level i v there is = rw (low_at halves i v there is, high_at halves i v there is) refl

pub swing_ordered : (halves : List Interval) (level : Interval) (i : ℕ) → i < length halves → least_swing halves level i ≤ℤ greatest_swing halves level i
swing_ordered halves level i there =
    distance_ordered (get_or (lows halves) i (pos 0)) (get_or (highs halves) i (pos 0)) level.lo level.hi
    (AllZip-get_or (λ x y. x ≤ℤ y) (lows halves) (highs halves) i (pos 0) (pos 0) (ends_ordered halves) (omega (arith, there, length-map halves (λ (h : Interval). h.lo))))
    level.ordered

pub least_swing_natural : (halves : List Interval) (level : Interval) (i : ℕ) → pos 0 ≤ℤ least_swing halves level i
least_swing_natural halves level i = least_natural (get_or (lows halves) i (pos 0)) (get_or (highs halves) i (pos 0)) level.lo level.hi

pub swing_natural : (halves : List Interval) (level : Interval) (i : ℕ) → i < length halves → pos 0 ≤ℤ greatest_swing halves level i
swing_natural halves level i there =
    let first = least_natural (get_or (lows halves) i (pos 0)) (get_or (highs halves) i (pos 0)) level.lo level.hi in
    let second = swing_ordered halves level i there in
    ≤ℤ_trans first second

pub counted_at_most : (r : ℕ) (b : Bool) → r ≡ cond b 1 0 → r ≤ 1
counted_at_most r true e = omega (arith, e)
counted_at_most r false e = omega (arith, e)

pub furthest_ordered : (halves : List Interval) (level : Interval) (a b : ℕ) (m k : ℤ) → b ≤ length halves
    → IsGreatestOrZero (IsAmong (least_swing halves level) a b) m → IsGreatestOrZero (IsAmong (greatest_swing halves level) a b) k → m ≤ℤ k
furthest_ordered halves level a b m k within low high =
    greatest_≤ (IsAmong (least_swing halves level) a b) (IsAmong (greatest_swing halves level) a b) m k
    (λ x (i, from, to, e). (greatest_swing halves level i, (i, from, to, refl), omega (arith, ints, e, swing_ordered halves level i (omega arith))))
    low high

pub over_ordered : (halves : List Interval) (level : Interval) (a b : ℕ) → b ≤ length halves → excesses (least_swing halves level) a b ≤ excesses (greatest_swing halves level) a b
over_ordered halves level a b within =
    excesses_≤ (least_swing halves level) (greatest_swing halves level) a b (λ i from to. swing_ordered halves level i (omega arith))
