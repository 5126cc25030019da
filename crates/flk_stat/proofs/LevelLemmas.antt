-- The ends of the levels of an interval, and the exact levels between them.
use Rattle.std.proofs.Common.{◌^◌, List, [], ◌∷◌, ◌++◌, map, ℤ, ◌≤ℤ◌, sym, subst, arith}
use Rattle.std.specs.List.{AllZip}
use Rattle.std.specs.List.Sorted.{IsPermutation}
use Rattle.std.proofs.lemmas.Grind.{not_there}
use Rattle.std.proofs.lemmas.Int.{ints, by_lt_z}
use Rattle.std.proofs.lemmas.List.{map-append}
use Rattle.std.proofs.lemmas.List.Sorted.{IsPermutation-refl, IsPermutation-map, IsPermutation-sym, IsPermutation-trans, IsPermutation-append_left}
use Rattle.flk_exact.specs.Fraction.{Fraction, ◌≤ℚ◌, units}
use Rattle.flk_exact.specs.Rounding.{IsBetween}
use Rattle.flk_exact.proofs.WholeLemmas.{scale_≤}
use Rattle.flk_num.specs.declared.interval.Interval.{Interval}
use Rattle.flk_num.specs.Interval.{HoldEach, lows, highs}
use Rattle.flk_num.proofs.IntervalLemmas.{ends_ordered}
use Rattle.flk_stat.specs.Severity.{IsSeverity, IsSeverityOfEnds}
use Rattle.flk_stat.specs.Ranked.{AreEndsOfLevels}
use Rattle.flk_stat.proofs.SeverityLemmas.{severity_≤, severity-permutation}

lows_below : (vs : List Interval) (ps : List Fraction) → HoldEach vs ps → AllZip ◌≤ℚ◌ (map units (lows vs)) ps
lows_below [] [] h = tt
lows_below [] (p ∷ ps) h = absurd h
lows_below (v ∷ vs) [] h = absurd h
lows_below (v ∷ vs) (p ∷ ps) h = (h.0.above, lows_below vs ps h.1)

highs_above : (vs : List Interval) (ps : List Fraction) → HoldEach vs ps → AllZip ◌≤ℚ◌ ps (map units (highs vs))
highs_above [] [] h = tt
highs_above [] (p ∷ ps) h = absurd h
highs_above (v ∷ vs) [] h = absurd h
highs_above (v ∷ vs) (p ∷ ps) h = (h.0.below, highs_above vs ps h.1)

pub severity_between : (vs : List Interval) (ps : List Fraction) (lo hi w : ℤ) → HoldEach vs ps → IsSeverityOfEnds (lows vs) lo → IsSeverityOfEnds (highs vs) hi → IsSeverity ps w → IsBetween lo hi w
severity_between vs ps lo hi w held a b s = record {
  above = severity_≤ (map units (lows vs)) ps lo w (lows_below vs ps held) a s;
  below = severity_≤ ps (map units (highs vs)) w hi (highs_above vs ps held) s b;
}

-- the severity of levels in another order
pub severity_unsorted : (levels sorted : List ℤ) (w : ℤ) → IsPermutation levels sorted → IsSeverityOfEnds sorted w → IsSeverityOfEnds levels w
severity_unsorted levels sorted w h s =
    severity-permutation (map units sorted) (map units levels) w (IsPermutation-map units sorted levels (IsPermutation-sym levels sorted h)) s

-- greater ends give no lesser severity
each_below : (xs ys : List ℤ) → AllZip ◌≤ℤ◌ xs ys → AllZip ◌≤ℚ◌ (map units xs) (map units ys)
each_below [] [] h = tt
each_below [] (y ∷ ys) h = absurd h
each_below (x ∷ xs) [] h = absurd h
each_below (x ∷ xs) (y ∷ ys) h = (record { cross = scale_≤ x y (2 ^ 48) h.0 }, each_below xs ys h.1)

pub severity_of_ends_≤ : (xs ys : List ℤ) (v w : ℤ) → AllZip ◌≤ℤ◌ xs ys → IsSeverityOfEnds xs v → IsSeverityOfEnds ys w → v ≤ℤ w
severity_of_ends_≤ xs ys v w h a b = severity_≤ (map units xs) (map units ys) v w (each_below xs ys h) a b

-- ---- the ends of the same levels, in any order

severities_ordered : (low_ends high_ends : List ℤ) (lo hi : ℤ) → AreEndsOfLevels low_ends high_ends → IsSeverityOfEnds low_ends lo → IsSeverityOfEnds high_ends hi → lo ≤ℤ hi
severities_ordered low_ends high_ends lo hi h a b =
    severity_of_ends_≤ (lows h.levels) (highs h.levels) lo hi (ends_ordered h.levels)
    (severity_unsorted (lows h.levels) low_ends lo h.low a) (severity_unsorted (highs h.levels) high_ends hi h.high b)

pub severities_in_order : (low_ends high_ends : List ℤ) (lo hi : ℤ) → ∥ AreEndsOfLevels low_ends high_ends ∥₁ → IsSeverityOfEnds low_ends lo → IsSeverityOfEnds high_ends hi → lo ≤ℤ hi
severities_in_order low_ends high_ends lo hi levels a b =
    by_lt_z hi lo
    (λ above. absurd (not_there levels (λ h. (let order = severities_ordered low_ends high_ends lo hi h a b in omega (arith, ints, order, above)))))
    (λ order. order)

pub no_ends : AreEndsOfLevels [] []
no_ends = record { levels = []; low = IsPermutation-refl []; high = IsPermutation-refl [] }

-- an end more of each
pub lows_more : (ls : List Interval) (v : Interval) (ends more : List ℤ) → IsPermutation (lows ls) ends → IsPermutation (ends ++ v.lo ∷ []) more → IsPermutation (lows (ls ++ v ∷ [])) more
lows_more ls v ends more h added =
    subst (λ (zs : List ℤ). IsPermutation zs more) (sym (map-append (λ (i : Interval). i.lo) ls (v ∷ [])))
    (IsPermutation-trans (lows ls ++ v.lo ∷ []) (ends ++ v.lo ∷ []) more (IsPermutation-append_left (v.lo ∷ []) (lows ls) ends h) added)

pub highs_more : (ls : List Interval) (v : Interval) (ends more : List ℤ) → IsPermutation (highs ls) ends → IsPermutation (ends ++ v.hi ∷ []) more → IsPermutation (highs (ls ++ v ∷ [])) more
highs_more ls v ends more h added =
    subst (λ (zs : List ℤ). IsPermutation zs more) (sym (map-append (λ (i : Interval). i.hi) ls (v ∷ [])))
    (IsPermutation-trans (highs ls ++ v.hi ∷ []) (ends ++ v.hi ∷ []) more (IsPermutation-append_left (v.hi ∷ []) (highs ls) ends h) added)

pub ends_more : (low_ends high_ends more_low more_high : List ℤ) (v : Interval) → IsPermutation (low_ends ++ v.lo ∷ []) more_low → IsPermutation (high_ends ++ v.hi ∷ []) more_high
    → AreEndsOfLevels low_ends high_ends → AreEndsOfLevels more_low more_high
ends_more low_ends high_ends more_low more_high v low high h = record {
  levels = h.levels ++ v ∷ [];
  low = lows_more h.levels v low_ends more_low h.low low;
  high = highs_more h.levels v high_ends more_high h.high high;
}
