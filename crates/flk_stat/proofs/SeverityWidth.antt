-- The severity of the upper ends is near that of the lower ones.
use Rattle.std.proofs.Common.{◌≡◌, ℕ, zero, suc, ◌+◌, ◌*◌, ◌^◌, ◌<◌, ◌≤◌, max, List, [], ◌∷◌, length, map, ℤ, pos, ◌+ℤ◌, ◌-ℤ◌, ◌*ℤ◌, ◌≤ℤ◌, refl, ap, subst, ◌∙◌, arith, ⊎_elim, mul-le-mul_left, mul-pos}
use Rattle.std.specs.Prelude.{int_lt}
use Rattle.std.specs.List.{All, AllZip}
use Rattle.std.specs.Int.RustNames.{unsigned_abs}
use Rattle.std.proofs.Math.Nat.{le_of_mul-le-mul_left}
use Rattle.std.proofs.lemmas.Bool.{cases_lt}
use Rattle.std.proofs.lemmas.Nat.{mul-le}
use Rattle.std.proofs.lemmas.Int.{ints}
use Rattle.std.proofs.lemmas.List.{length-map}
use Rattle.std.proofs.lemmas.List.Elements.{All-nil, All-cons, All-head, All-tail, All-contains}
use Rattle.flk_exact.specs.Fraction.{Fraction, ◌≤ℚ◌, whole, units}
use Rattle.flk_exact.proofs.WholeLemmas.{natural_is, scale_≤}
use Rattle.flk_exact.proofs.ProductLemmas.{lin, distrib, left_comm, sub_scaled}
use Rattle.flk_exact.proofs.NumeratorLemmas.{IsOver, over_own, over_whole, over_times, over_sum, at_most_over}
use Rattle.flk_exact.proofs.ListLemmas.{AllZip-length}
use Rattle.flk_num.specs.declared.interval.Interval.{Interval}
use Rattle.flk_num.specs.Interval.{lows, highs}
use Rattle.flk_stat.specs.declared.severity.Share.{Share}
use Rattle.flk_stat.specs.Width.{IsSpread, severity_width}
use Rattle.flk_stat.specs.Rank.{HasRank, is_less, rank_of}
use Rattle.flk_stat.specs.Severity.{shares, ArePercentiles, weighted, IsCappedLeast, cap, IsSeverityOfEnds}
use Rattle.flk_stat.specs.Ranked.{ReachesSum}
use Rattle.flk_stat.proofs.PercentileLemmas.{rank_law, rank_from_units}
use Rattle.flk_stat.proofs.SeverityLemmas.{least_from_units}
use Rattle.flk_stat.proofs.WidthLemmas.{natural_width, width_is}

-- ---- the step to a root, on numbers alone

-- the step to a root: the choice of a to b as f/d to w
pub root_step : (c w f d X Y E : ℕ) → 0 < w → 0 < f
    → f * (d * w) * X ≤ f * (f + d * w) * Y + (d * w) * (f + d * w) * E
    → Y ≤ c * (w * w) → d * d * E ≤ c * (f * f)
    → d * d * X ≤ c * ((d * w + f) * (d * w + f))
root_step c w f d X Y E pw pf form hY hE =
    let s0 : d * (f * (d * w) * X) ≤ d * (f * (f + d * w) * Y + (d * w) * (f + d * w) * E) = mul-le-mul_left d form in
    let s1 : (f * d * (f + d * w)) * Y ≤ (f * d * (f + d * w)) * (c * (w * w)) = mul-le-mul_left (f * d * (f + d * w)) hY in
    let s2 : (w * (f + d * w)) * (d * d * E) ≤ (w * (f + d * w)) * (c * (f * f)) = mul-le-mul_left (w * (f + d * w)) hE in
    let g : (f * w) * (d * d * X) ≤ (f * w) * (c * ((d * w + f) * (d * w + f))) = omega arith in
    le_of_mul-le-mul_left g (mul-pos pf pw)

pub severity_use : (P Q : ℕ) → Q * Q * (6103515625 * (15288 * (1242800 * (P * P * 281474976710656))))
    ≤ (51539607552 * (Q * Q)) * ((796000000000 * P) * (796000000000 * P))
severity_use P Q = omega arith

-- the width of the short-term severity
pub width_number : (P Q S T w hi : ℕ) → 0 < w → 0 < P → 0 < Q
    → ((a b : ℕ) → 0 < a → 0 < b → a * b * (Q * Q * T) ≤ a * (a + b) * (Q * Q * S) + b * (a + b) * (15288 * (1242800 * (P * P * 281474976710656))))
    → 6103515625 * S ≤ 51539607552 * (w * w)
    → ((v : ℕ) → 6103515625 * T ≤ 51539607552 * (v * v) → hi ≤ v)
    → Q * hi ≤ Q * w + 796000000000 * P + Q
width_number P Q S T w zero pw pp pq form low least = omega arith
width_number P Q S T w (suc v) pw pp pq form low least =
    ⊎_elim
    (λ l.
    let f = 796000000000 * P in
    let pf : 0 < f = omega arith in
    let c = 51539607552 * (Q * Q) in
    let f0 = form f (Q * w) pf (mul-pos pq pw) in
    let f1 : 6103515625 * (f * (Q * w) * (Q * Q * T)) ≤ 6103515625 * (f * (f + Q * w) * (Q * Q * S) + Q * w * (f + Q * w) * (15288 * (1242800 * (P * P * 281474976710656)))) = mul-le-mul_left 6103515625 f0 in
    let y : 6103515625 * (Q * Q * S) ≤ c * (w * w) = (let k = mul-le-mul_left (Q * Q) low in omega arith) in
    let r = root_step c w f Q (6103515625 * (Q * Q * T)) (6103515625 * (Q * Q * S)) (6103515625 * (15288 * (1242800 * (P * P * 281474976710656))))
    pw pf (omega arith) y (severity_use P Q) in
    let big : Q * w + f ≤ Q * v = omega arith in
    let sq : (Q * w + f) * (Q * w + f) ≤ (Q * v) * (Q * v) = mul-le (Q * w + f) (Q * w + f) (Q * v) (Q * v) big big in
    let sc : c * ((Q * w + f) * (Q * w + f)) ≤ c * ((Q * v) * (Q * v)) = mul-le-mul_left c sq in
    let g : (Q * Q * (Q * Q)) * (6103515625 * T) ≤ (Q * Q * (Q * Q)) * (51539607552 * (v * v)) = omega arith in
    let h : 6103515625 * T ≤ 51539607552 * (v * v) = le_of_mul-le-mul_left g (mul-pos (mul-pos pq pq) (mul-pos pq pq)) in
    let z = least v h in absurd (omega arith))
    (λ l. l)
    (cases_lt (Q * w + 796000000000 * P + Q) (Q * suc v))

-- ---- the severity of whole levels, in whole numbers

abbrev HaveRanks : List Share → List ℤ → List ℤ → Type 0
HaveRanks ss xs vs = AllZip (λ s v. HasRank int_lt (rank_of s.tenths (length xs)) xs v) ss vs

abbrev weighted_ends : List Share → List ℤ → ℤ
weighted_ends [] vs = pos 0
weighted_ends (s ∷ ss) [] = pos 0
weighted_ends (s ∷ ss) (v ∷ vs) = pos s.weight *ℤ v +ℤ weighted_ends ss vs

-- percentiles of whole levels are whole
record Ranked (ss : List Share) (xs : List ℤ) (ps : List Fraction) : Type 0 where
  values : List ℤ
  same : map units values ≡ ps
  ranks : HaveRanks ss xs values

ranked_values : (ss : List Share) (xs : List ℤ) (ps : List Fraction) → ArePercentiles ss (map units xs) ps → Ranked ss xs ps
ranked_values [] xs [] h = record { values = []; same = refl; ranks = tt }
ranked_values [] xs (p ∷ ps) h = absurd h
ranked_values (s ∷ ss) xs [] h = absurd h
ranked_values (s ∷ ss) xs (p ∷ ps) h =
    let rest = ranked_values ss xs ps h.1 in
    let first = rank_from_units _ xs p (subst (λ (n : ℕ). HasRank is_less (rank_of s.tenths n) (map units xs) p) (length-map xs units) h.0) in
    record { values = first.0 ∷ rest.values; same = ap (λ (q : Fraction). q ∷ map units rest.values) first.1 ∙ ap (λ (qs : List Fraction). p ∷ qs) rest.same; ranks = (first.2, rest.ranks) }

ends_over : (ss : List Share) (vs : List ℤ) → IsOver (2 ^ 48) (weighted ss (map units vs)) (weighted_ends ss vs)
ends_over [] vs = record { is = refl }
ends_over (s ∷ ss) [] = record { is = refl }
ends_over (s ∷ ss) (v ∷ vs) = over_sum (2 ^ 48) _ _ (pos s.weight *ℤ v) (weighted_ends ss vs) (over_times (2 ^ 48) (pos s.weight) (units v) v (over_own (units v))) (ends_over ss vs)

-- a severity in whole numbers
record Numbers (xs : List ℤ) (w : ℤ) : Type 0 where
  values : List ℤ
  ranks : HaveRanks shares xs values
  is_least : IsCappedLeast (ReachesSum (weighted_ends shares values)) cap w

numbers_of : (xs : List ℤ) (w : ℤ) → IsSeverityOfEnds xs w → Numbers xs w
numbers_of xs w s =
    let r = ranked_values shares xs s.percentiles s.are_percentiles in
    let over : IsOver (2 ^ 48) (weighted shares s.percentiles) (weighted_ends shares r.values) =
    subst (λ (ps : List Fraction). IsOver (2 ^ 48) (weighted shares ps) (weighted_ends shares r.values)) r.same (ends_over shares r.values) in
    record { values = r.values; ranks = r.ranks; is_least = least_from_units (weighted shares s.percentiles) (weighted_ends shares r.values) w over s.is_least }

-- ---- the law of ranks, summed up

pub mul_keeps : (n : ℕ) (x y : ℤ) → x ≤ℤ y → (pos n *ℤ x) ≤ℤ (pos n *ℤ y)
mul_keeps n x y h = let s = scale_≤ x y n h in omega (arith, ints, s)

abbrev total_weight : List Share → ℕ
total_weight [] = 0
total_weight (s ∷ ss) = s.weight + total_weight ss

-- an inequality of each percentile is one of the weighted sums
sum_law : (A B E : ℕ) (ss : List Share) (xs ys vs us : List ℤ)
    → ((k : ℕ) (v u : ℤ) → HasRank int_lt k xs v → HasRank int_lt k ys u → (pos A *ℤ v) ≤ℤ (pos B *ℤ u +ℤ pos E))
    → length xs ≡ length ys
    → HaveRanks ss xs vs → HaveRanks ss ys us
    → (pos A *ℤ weighted_ends ss vs) ≤ℤ (pos B *ℤ weighted_ends ss us +ℤ pos (total_weight ss * E))
sum_law A B E [] xs ys vs us law same hv hu = omega (arith, ints)
sum_law A B E (s ∷ ss) xs ys [] us law same hv hu = absurd hv
sum_law A B E (s ∷ ss) xs ys (v ∷ vs) [] law same hv hu = absurd hu
sum_law A B E (s ∷ ss) xs ys (v ∷ vs) (u ∷ us) law same hv hu =
    let rest = sum_law A B E ss xs ys vs us law same hv.1 hu.1 in
    let here = mul_keeps s.weight (pos A *ℤ v) (pos B *ℤ u +ℤ pos E) (law (rank_of s.tenths (length xs)) v u hv.0 (rw same hu.0)) in
    let a = distrib (pos A) (pos s.weight *ℤ v) (weighted_ends ss vs) in
    let b = distrib (pos B) (pos s.weight *ℤ u) (weighted_ends ss us) in
    let c = left_comm (pos A) (pos s.weight) v in
    let d = left_comm (pos B) (pos s.weight) u in
    let f = distrib (pos s.weight) (pos B *ℤ u) (pos E) in
    let g : pos s.weight *ℤ pos E ≡ pos (s.weight * E) = omega (arith, ints) in
    let h : pos ((s.weight + total_weight ss) * E) ≡ pos (s.weight * E) +ℤ pos (total_weight ss * E) = omega (arith, ints) in
    omega (arith, lin)

abbrev IsNatural : ℤ → Type 0
IsNatural z = pos 0 ≤ℤ z

natural_highs : (ls : List Interval) → All IsNatural (lows ls) → All IsNatural (highs ls)
natural_highs [] h = All-nil IsNatural
natural_highs (l ∷ ls) h =
    let low = All-head IsNatural l.lo (lows ls) h in
    All-cons IsNatural l.hi (highs ls) (omega (arith, ints, low, l.ordered)) (natural_highs ls (All-tail IsNatural l.lo (lows ls) h))

natural_sum : (ss : List Share) (xs vs : List ℤ) → All IsNatural xs → HaveRanks ss xs vs → pos 0 ≤ℤ weighted_ends ss vs
natural_sum [] xs vs natural h = omega (arith, ints)
natural_sum (s ∷ ss) xs [] natural h = absurd h
natural_sum (s ∷ ss) xs (v ∷ vs) natural h =
    let rest = natural_sum ss xs vs natural h.1 in
    let n : v ≡ pos (unsigned_abs v) = natural_is v (All-contains IsNatural xs v natural h.0.member) in
    let here : pos 0 ≤ℤ (pos s.weight *ℤ v) = rw n (omega (arith, ints)) in
    omega (arith, ints, rest, here)

spread_ends : (A B E : ℕ) (x y : ℤ) (lo hi : ℕ) → x ≡ pos lo → y ≡ pos hi → A * hi ≤ B * lo + E → (pos A *ℤ y) ≤ℤ (pos B *ℤ x +ℤ pos E)
spread_ends A B E x y lo hi low high h = rw (low, high) (omega (arith, ints, h))

-- the form of each level, in whole numbers
spread_number : (most : Fraction) (P : ℕ) (l : Interval) (lo hi : ℕ) → most.num ≡ pos P → l.lo ≡ pos lo → l.hi ≡ pos hi → IsSpread most l → (a b : ℕ) → 0 < a → 0 < b
    → a * b * (most.den * most.den) * hi ≤ a * (a + b) * (most.den * most.den) * lo + b * (a + b) * (1242800 * (P * P * 281474976710656))
spread_number most P l lo hi e low high h a b pa pb =
    let c = rw (e, low, high) at (h.spread a b pa pb).cross in
    omega (arith, ints, c)

all_spread : (most : Fraction) (P : ℕ) → most.num ≡ pos P → (a b : ℕ) → 0 < a → 0 < b → (ls : List Interval) → All IsNatural (lows ls) → All (IsSpread most) ls
    → AllZip (λ x y. (pos (a * b * (most.den * most.den)) *ℤ x) ≤ℤ (pos (a * (a + b) * (most.den * most.den)) *ℤ y +ℤ pos (b * (a + b) * (1242800 * (P * P * 281474976710656))))) (highs ls) (lows ls)
all_spread most P e a b pa pb [] natural h = tt
all_spread most P e a b pa pb (l ∷ ls) natural h =
    let low = All-head IsNatural l.lo (lows ls) natural in
    let lo : l.lo ≡ pos (unsigned_abs l.lo) = natural_is l.lo low in
    let hi : l.hi ≡ pos (unsigned_abs l.hi) = natural_is l.hi (omega (arith, ints, low, l.ordered)) in
    let n = spread_number most P l (unsigned_abs l.lo) (unsigned_abs l.hi) e lo hi (All-head (IsSpread most) l ls h) a b pa pb in (
      spread_ends (a * b * (most.den * most.den)) (a * (a + b) * (most.den * most.den)) (b * (a + b) * (1242800 * (P * P * 281474976710656))) l.lo l.hi _ _ lo hi n,
      all_spread most P e a b pa pb ls (All-tail IsNatural l.lo (lows ls) natural) (All-tail (IsSpread most) l ls h),
    )

percentile_form : (most : Fraction) (P : ℕ) → most.num ≡ pos P → (ls : List Interval) → All IsNatural (lows ls) → All (IsSpread most) ls → (a b : ℕ) → 0 < a → 0 < b → (k : ℕ) (v u : ℤ)
    → HasRank int_lt k (highs ls) v → HasRank int_lt k (lows ls) u
    → (pos (a * b * (most.den * most.den)) *ℤ v) ≤ℤ (pos (a * (a + b) * (most.den * most.den)) *ℤ u +ℤ pos (b * (a + b) * (1242800 * (P * P * 281474976710656))))
percentile_form most P e ls natural h a b pa pb k v u hv hu =
    let A = a * b * (most.den * most.den) in
    let B = a * (a + b) * (most.den * most.den) in
    let E = b * (a + b) * (1242800 * (P * P * 281474976710656)) in
    rank_law (λ x. pos A *ℤ x) (λ y. pos B *ℤ y +ℤ pos E) (λ x y le. mul_keeps A x y le) (λ x y le. (let m = mul_keeps B x y le in omega (arith, ints, m)))
    k _ _ v u (all_spread most P e a b pa pb ls natural h) hv hu

sums_form : (most : Fraction) (P S T : ℕ) → most.num ≡ pos P → (ls : List Interval) → All IsNatural (lows ls) → All (IsSpread most) ls → (us vs : List ℤ)
    → HaveRanks shares (lows ls) us → HaveRanks shares (highs ls) vs → weighted_ends shares us ≡ pos S → weighted_ends shares vs ≡ pos T
    → (a b : ℕ) → 0 < a → 0 < b → a * b * (most.den * most.den * T) ≤ a * (a + b) * (most.den * most.den * S) + b * (a + b) * (15288 * (1242800 * (P * P * 281474976710656)))
sums_form most P S T e ls natural h us vs hu hv is it a b pa pb =
    let same = AllZip-length _ _ _ (all_spread most P e a b pa pb ls natural h) in
    let s = sum_law (a * b * (most.den * most.den)) (a * (a + b) * (most.den * most.den)) (b * (a + b) * (1242800 * (P * P * 281474976710656))) shares
    (highs ls) (lows ls) vs us (percentile_form most P e ls natural h a b pa pb) same hv hu in
    let t = rw (is, it) at s in
    omega (arith, ints, t)

-- how near the severities of two sums are, whose forms are near
near_numbers : (P Q S T m n : ℕ) → 0 < P → 0 < Q
    → ((a b : ℕ) → 0 < a → 0 < b → a * b * (Q * Q * T) ≤ a * (a + b) * (Q * Q * S) + b * (a + b) * (15288 * (1242800 * (P * P * 281474976710656))))
    → IsCappedLeast (ReachesSum (pos S)) cap (pos m) → IsCappedLeast (ReachesSum (pos T)) cap (pos n) → Q * n ≤ Q * m + 796000000000 * P + 1000 * Q
near_numbers P Q S T m n pp pq form low high =
    ⊎_elim
    (λ top.
    let t : n ≤ m = omega (arith, ints, top, high.capped) in
    let q : Q * n ≤ Q * m = mul-le-mul_left Q t in
    omega (arith, q))
    (λ reached.
    let w = max 1 m in
    let more : w ≤ m + 1 = omega arith in
    let square : m * m ≤ w * w = mul-le m m w w (omega arith) (omega arith) in
    let r : 6103515625 * S ≤ 51539607552 * (m * m) = omega (arith, ints, reached) in
    let below : 6103515625 * S ≤ 51539607552 * (w * w) = omega (arith, r, square) in
    let least : (v : ℕ) → 6103515625 * T ≤ 51539607552 * (v * v) → n ≤ v = λ v reach. (let z = high.least (pos v) (omega (arith, ints)) (omega (arith, ints, reach)) in omega (arith, ints, z)) in
    let width = width_number P Q S T w n (omega arith) pp pq form below least in
    let up : Q * w ≤ Q * (m + 1) = mul-le-mul_left Q more in
    omega (arith, width, up))
    low.reaches

least_at : (X Y w z : ℤ) → X ≡ Y → w ≡ z → IsCappedLeast (ReachesSum X) cap w → IsCappedLeast (ReachesSum Y) cap z
least_at X Y w z e f h = subst (λ (u : ℤ). IsCappedLeast (ReachesSum Y) cap u) f (subst (λ (u : ℤ). IsCappedLeast (ReachesSum u) cap w) e h)

difference_is : (Q P m n : ℕ) (lo hi num : ℤ) → lo ≡ pos m → hi ≡ pos n → num ≡ pos P → Q * n ≤ Q * m + 796000000000 * P + 1000 * Q
    → (pos Q *ℤ (hi -ℤ lo)) ≤ℤ (pos (796 * 10 ^ 9) *ℤ num +ℤ pos Q *ℤ pos 1000)
difference_is Q P m n lo hi num em en e near =
    let s = sub_scaled (pos Q) (pos n) (pos m) in
    rw (e, em, en) (omega (arith, ints, near, s))

pub severity_narrow : (ls : List Interval) (most : Fraction) (lo hi : ℤ) → units (pos (2 ^ 24)) ≤ℚ most → All (λ z. pos 0 ≤ℤ z) (lows ls) → All (IsSpread most) ls
    → IsSeverityOfEnds (lows ls) lo → IsSeverityOfEnds (highs ls) hi → whole (hi -ℤ lo) ≤ℚ severity_width most
severity_narrow ls most lo hi low natural h severity_low severity_high =
    let sl = numbers_of (lows ls) lo severity_low in
    let sh = numbers_of (highs ls) hi severity_high in
    let P = unsigned_abs most.num in
    let e : most.num ≡ pos P = natural_is most.num (natural_width most low) in
    let Q = most.den in
    let wide = width_is most P e low in
    let pq : 0 < Q = most.positive in
    let pp : 0 < P = omega (arith, wide, pq) in
    let S = unsigned_abs (weighted_ends shares sl.values) in
    let T = unsigned_abs (weighted_ends shares sh.values) in
    let is : weighted_ends shares sl.values ≡ pos S = natural_is _ (natural_sum shares (lows ls) sl.values natural sl.ranks) in
    let it : weighted_ends shares sh.values ≡ pos T = natural_is _ (natural_sum shares (highs ls) sh.values (natural_highs ls natural) sh.ranks) in
    let m = unsigned_abs lo in
    let n = unsigned_abs hi in
    let em : lo ≡ pos m = natural_is lo sl.is_least.natural in
    let en : hi ≡ pos n = natural_is hi sh.is_least.natural in
    let near : Q * n ≤ Q * m + 796000000000 * P + 1000 * Q =
    near_numbers P Q S T m n pp pq (sums_form most P S T e ls natural h sl.values sh.values sl.ranks sh.ranks is it) (least_at _ _ lo (pos m) is em sl.is_least) (least_at _ _ hi (pos n) it en sh.is_least) in
    let number : (pos Q *ℤ (hi -ℤ lo)) ≤ℤ (pos (796 * 10 ^ 9) *ℤ most.num +ℤ pos Q *ℤ pos 1000) = difference_is Q P m n lo hi most.num em en e near in
    at_most_over Q _ _ _ _ pq number (over_whole Q (hi -ℤ lo)) (over_sum Q _ _ _ _ (over_times Q (pos (796 * 10 ^ 9)) most most.num (over_own most)) (over_whole Q (pos 1000)))
