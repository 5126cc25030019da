-- The least and the greatest ends of half-periods: as a walk over them finds them, and those of a window as the greatest of its newest values.
use Rattle.std.proofs.Common.{◌≡◌, inl, inr, ℕ, ◌-◌, ◌<◌, List, length, map, get_or, drop, Some, ◌≤◌, ℤ, pos, neg_ℤ, ◌-ℤ◌, ◌≤ℤ◌, sym, ap, ◌∙◌, subst, arith}
use Rattle.std.specs.Int.{int_min, int_max}
use Rattle.std.specs.List.{Contains, fold}
use Rattle.std.proofs.lemmas.Int.{ints, fold-int_max_bounds, fold-int_max_reached, fold-int_min_bounds, fold-int_min_reached}
use Rattle.std.proofs.lemmas.List.{at_drop_all, drop-map, get_or-map, length-map}
use Rattle.std.proofs.lemmas.List.Folds.{fold-map}
use Rattle.std.proofs.lemmas.List.Elements.{All-contains}
use Rattle.circular_buffer.specs.Buffer.{keep_last}
use Rattle.flk_exact.specs.Extreme.{IsLeast, IsGreatest}
use Rattle.flk_exact.proofs.ListLemmas.{Contains-map, Contains-from_map}
use Rattle.flk_num.specs.declared.interval.Interval.{Interval}
use Rattle.flk_num.specs.Interval.{lows, highs}
use Rattle.flk_change.specs.Extreme.{IsGreatestOfWindow}
use Rattle.flk_change.specs.Extremes.{AreExtremes}

-- the least of a number and the lower ends, and the greatest of a number and the upper ends
abbrev pub least_low : ℤ → List Interval → ℤ
least_low a halves = fold (λ m h. int_min m h.lo) a halves

abbrev pub greatest_high : ℤ → List Interval → ℤ
greatest_high a halves = fold (λ m h. int_max m h.hi) a halves

least_of : (xs : List ℤ) (a r : ℤ) → r ≡ fold int_min a xs → Contains xs a → IsLeast xs r
least_of xs a r e there = record {
  among = elim (fold-int_min_reached a xs r e) [ inl same ↦ subst (Contains xs) (sym same) there | inr here ↦ here ];
  at_most = (fold-int_min_bounds a xs r e).1;
}

greatest_of : (xs : List ℤ) (a r : ℤ) → r ≡ fold int_max a xs → Contains xs a → IsGreatest xs r
greatest_of xs a r e there = record {
  among = elim (fold-int_max_reached a xs r e) [ inl same ↦ subst (Contains xs) (sym same) there | inr here ↦ here ];
  at_least = (fold-int_max_bounds a xs r e).1;
}

-- a half-period of the list has its ends among the ends
pub low_there : (halves : List Interval) (v : Interval) → Contains halves v → Contains (lows halves) v.lo
low_there halves v h = Contains-map (λ (u : Interval). u.lo) halves v h

pub high_there : (halves : List Interval) (v : Interval) → Contains halves v → Contains (highs halves) v.hi
high_there halves v h = Contains-map (λ (u : Interval). u.hi) halves v h

pub least_low_is : (halves : List Interval) (v : Interval) (r : ℤ) → r ≡ least_low v.lo halves → Contains halves v → IsLeast (lows halves) r
least_low_is halves v r e there = least_of (lows halves) v.lo r (e ∙ sym (fold-map int_min (λ (h : Interval). h.lo) v.lo halves)) (low_there halves v there)

pub greatest_high_is : (halves : List Interval) (v : Interval) (r : ℤ) → r ≡ greatest_high v.hi halves → Contains halves v → IsGreatest (highs halves) r
greatest_high_is halves v r e there = greatest_of (highs halves) v.hi r (e ∙ sym (fold-map int_max (λ (h : Interval). h.hi) v.hi halves)) (high_there halves v there)

-- the ends at which they are reached, by the half-period
pub low_owner : (halves : List Interval) (z : ℤ) → Contains (lows halves) z → (v : Interval) × Contains halves v × (v.lo ≡ z)
low_owner halves z h = Contains-from_map (λ (u : Interval). u.lo) halves z (record { lo = z; hi = z; ordered = omega (arith, ints) }) h

pub high_owner : (halves : List Interval) (z : ℤ) → Contains (highs halves) z → (v : Interval) × Contains halves v × (v.hi ≡ z)
high_owner halves z h = Contains-from_map (λ (u : Interval). u.hi) halves z (record { lo = z; hi = z; ordered = omega (arith, ints) }) h

-- ---- a walk over a list that begins with its first half-period

pub span_low : (halves : List Interval) (i : ℕ) (m a : ℤ) (v : Interval) → length halves ≤ i → least_low m (drop i halves) ≡ least_low a halves → a ≡ v.lo → v ≡ get_or halves 0 v → 0 < length halves → IsLeast (lows halves) m
span_low halves i m a v done kept first is some =
    least_low_is halves v m (sym (at_drop_all (least_low m) halves i done) ∙ kept ∙ ap (λ (z : ℤ). least_low z halves) first) (0, some, sym is)

pub span_high : (halves : List Interval) (i : ℕ) (m a : ℤ) (v : Interval) → length halves ≤ i → greatest_high m (drop i halves) ≡ greatest_high a halves → a ≡ v.hi → v ≡ get_or halves 0 v → 0 < length halves → IsGreatest (highs halves) m
span_high halves i m a v done kept first is some =
    greatest_high_is halves v m (sym (at_drop_all (greatest_high m) halves i done) ∙ kept ∙ ap (λ (z : ℤ). greatest_high z halves) first) (0, some, sym is)

pub span_ordered : (halves : List Interval) (m k : ℤ) (v : Interval) → IsLeast (lows halves) m → IsGreatest (highs halves) k → Contains halves v → m ≤ℤ k
span_ordered halves m k v low high there =
    omega (arith, ints, v.ordered, All-contains (λ x. m ≤ℤ x) (lows halves) v.lo low.at_most (low_there halves v there), All-contains (λ x. x ≤ℤ k) (highs halves) v.hi high.at_least (high_there halves v there))

-- ---- the newest of a window

least_of_turned : (xs : List ℤ) (m : ℤ) → IsGreatest (map neg_ℤ xs) m → IsLeast xs (pos 0 -ℤ m)
least_of_turned xs m h =
    let owner = Contains-from_map neg_ℤ xs m (pos 0) h.among in
    let same : owner.0 ≡ pos 0 -ℤ m = omega (arith, ints, owner.2) in
    record {
      among = subst (Contains xs) same owner.1;
      at_most = λ k d low.
          let at : get_or (map neg_ℤ xs) k (pos 0) ≡ neg_ℤ (get_or xs k d) = get_or-map neg_ℤ xs k d (pos 0) low in
          let bound : get_or (map neg_ℤ xs) k (pos 0) ≤ℤ m = h.at_least k (pos 0) (omega (arith, low, length-map xs neg_ℤ)) in
          omega (arith, ints, at, bound);
    }

keep_last-map : {A B : Type 0} (f : A → B) (n : ℕ) (xs : List A) → keep_last n (map f xs) ≡ map f (keep_last n xs)
keep_last-map f n xs = rw (length-map xs f) (drop-map f (length xs - n) xs)

-- the least and the greatest of the newest ends, where the least are found with turned signs
pub newest_extremes : (window : ℕ) (halves : List Interval) (a b c d : ℤ)
    → IsGreatestOfWindow window (map neg_ℤ (lows halves)) (Some a) → IsGreatestOfWindow window (lows halves) (Some b)
    → IsGreatestOfWindow window (map neg_ℤ (highs halves)) (Some c) → IsGreatestOfWindow window (highs halves) (Some d)
    → AreExtremes (keep_last window halves) (record { least_low = pos 0 -ℤ a; greatest_low = b; least_high = pos 0 -ℤ c; greatest_high = d })
newest_extremes window halves a b c d p q r s =
    let low = keep_last-map (λ (h : Interval). h.lo) window halves in
    let high = keep_last-map (λ (h : Interval). h.hi) window halves in
    let turned_low : keep_last window (map neg_ℤ (lows halves)) ≡ map neg_ℤ (lows (keep_last window halves)) = keep_last-map neg_ℤ window (lows halves) ∙ ap (map neg_ℤ) low in
    let turned_high : keep_last window (map neg_ℤ (highs halves)) ≡ map neg_ℤ (highs (keep_last window halves)) = keep_last-map neg_ℤ window (highs halves) ∙ ap (map neg_ℤ) high in
    record {
      least_low = least_of_turned (lows (keep_last window halves)) a (subst (λ (xs : List ℤ). IsGreatest xs a) turned_low p);
      greatest_low = subst (λ (xs : List ℤ). IsGreatest xs b) low q;
      least_high = least_of_turned (highs (keep_last window halves)) c (subst (λ (xs : List ℤ). IsGreatest xs c) turned_high r);
      greatest_high = subst (λ (xs : List ℤ). IsGreatest xs d) high s;
    }
