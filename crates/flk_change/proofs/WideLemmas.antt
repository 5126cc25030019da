-- The wide intervals: their ends, and that they hold the quantities of every list of values within the half-periods' intervals.
use Rattle.std.proofs.Common.{◌≡◌, ◌<◌, List, [], ◌∷◌, ◌++◌, length, map, get_or, ℤ, pos, ◌-ℤ◌, ◌≤ℤ◌, sym, subst, arith}
use Rattle.std.specs.Int.{int_max}
use Rattle.std.specs.List.{All, Contains}
use Rattle.std.proofs.lemmas.Int.{ints, clamps, by_lt_z}
use Rattle.std.proofs.lemmas.List.{length-map}
use Rattle.std.proofs.lemmas.List.Elements.{All-cons, All-map, All-append, All-contains, Contains-append_left, Contains-append_right}
use Rattle.flk_exact.specs.Extreme.{IsLeast, IsGreatest}
use Rattle.flk_exact.proofs.ListLemmas.{AllZip-get_or, Contains-map}
use Rattle.flk_num.specs.declared.interval.Interval.{Interval}
use Rattle.flk_num.specs.Interval.{lows, highs}
use Rattle.flk_num.specs.Values.{IsHalfPeriodRange}
use Rattle.flk_change.specs.Changes.{distance}
use Rattle.flk_change.specs.Resolutions.{greatest_distance}
use Rattle.flk_change.proofs.SwingLemmas.{distance_below}
use Rattle.flk_change.proofs.SumLemmas.{ends_ordered, lows-natural, highs-small}

-- ---- the ends

-- what is least of the lower ends is at most each upper end, and the other way round
pub highs_above : (halves : List Interval) (l : ℤ) → All (λ z. l ≤ℤ z) (lows halves) → All (λ z. l ≤ℤ z) (highs halves)
highs_above halves l h = λ k d there.
    let less : k < length (lows halves) = omega (arith, there, length-map halves (λ (u : Interval). u.lo), length-map halves (λ (u : Interval). u.hi)) in
    omega (arith, ints, h k d less, AllZip-get_or (λ x y. x ≤ℤ y) (lows halves) (highs halves) k d d (ends_ordered halves) less)

pub lows_below : (halves : List Interval) (g : ℤ) → All (λ z. z ≤ℤ g) (highs halves) → All (λ z. z ≤ℤ g) (lows halves)
lows_below halves g h = λ k d there.
    let less : k < length (highs halves) = omega (arith, there, length-map halves (λ (u : Interval). u.lo), length-map halves (λ (u : Interval). u.hi)) in
    omega (arith, ints, h k d less, AllZip-get_or (λ x y. x ≤ℤ y) (lows halves) (highs halves) k d d (ends_ordered halves) there)

all_map : (f : ℤ → ℤ) (m l g : ℤ) (zs : List ℤ) → ((z : ℤ) → l ≤ℤ z → z ≤ℤ g → f z ≤ℤ m) → All (λ z. l ≤ℤ z) zs → All (λ z. z ≤ℤ g) zs → All (λ z. f z ≤ℤ m) zs
all_map f m l g zs bound low high = λ k d there. bound (get_or zs k d) (low k d there) (high k d there)

-- the greatest of how far the ends are apart, and of how far one is from nominal
pub furthest_of : (halves : List Interval) (l g m : ℤ) → IsLeast (lows halves) l → IsGreatest (highs halves) g → m ≡ int_max (g -ℤ l) (greatest_distance l g (pos 1000000000) (pos 1000000000))
    → IsGreatest ((g -ℤ l) ∷ map (λ z. distance z (pos 1000000000)) (lows halves ++ highs halves)) m
furthest_of halves l g m low high is =
    let n = pos 1000000000 in
    let away : ℤ → ℤ = λ z. distance z n in
    let all = lows halves ++ highs halves in
    let ordered : l ≤ℤ g = omega (arith, ints, All-contains (λ z. z ≤ℤ g) (lows halves) l (lows_below halves g high.at_least) low.among) in
    let bound : (z : ℤ) → l ≤ℤ z → z ≤ℤ g → away z ≤ℤ m = λ z a b. omega (arith, ints, clamps, is, distance_below z l g n n n a b (omega (arith, ints)) (omega (arith, ints))) in
    record {
      among = by_lt_z (greatest_distance l g n n) (g -ℤ l)
          (λ less. let e : m ≡ g -ℤ l = omega (arith, ints, clamps, is) in (0, omega arith, sym e))
          (λ most. by_lt_z (n -ℤ l) (g -ℤ n)
          (λ up. let e : away g ≡ m = omega (arith, ints, clamps, is, ordered) in
          subst (Contains ((g -ℤ l) ∷ map away all)) e (Contains-append_right ((g -ℤ l) ∷ []) (map away all) (away g) (Contains-map away all g (Contains-append_right (lows halves) (highs halves) g high.among))))
          (λ down. let e : away l ≡ m = omega (arith, ints, clamps, is, ordered) in
          subst (Contains ((g -ℤ l) ∷ map away all)) e (Contains-append_right ((g -ℤ l) ∷ []) (map away all) (away l) (Contains-map away all l (Contains-append_left (lows halves) (highs halves) l low.among)))));
      at_least = All-cons (λ z. z ≤ℤ m) (g -ℤ l) (map away all) (omega (arith, ints, clamps, is))
          (All-map (λ z. z ≤ℤ m) away all
          (All-append (λ z. away z ≤ℤ m) (lows halves) (highs halves)
          (all_map away m l g (lows halves) bound low.at_most (lows_below halves g high.at_least))
          (all_map away m l g (highs halves) bound (highs_above halves l low.at_most) high.at_least)));
    }

-- the least and the greatest end are in range
pub span_in_range : (halves : List Interval) (v : Interval) → All IsHalfPeriodRange halves → IsLeast (lows halves) v.lo → IsGreatest (highs halves) v.hi → IsHalfPeriodRange v
span_in_range halves v range low high = record {
  low = All-contains (λ x. pos 0 ≤ℤ x) (lows halves) v.lo (lows-natural halves range) low.among;
  high = All-contains (λ x. x ≤ℤ pos 10000000000) (highs halves) v.hi (highs-small halves range) high.among;
}
