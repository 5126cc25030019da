-- Ranks of whole numbers and of fractions: that they are one, that they keep the order, where they stand in a list in rising order, and
-- that whole numbers of units have the same ranks as fractions.
use Rattle.std.proofs.Common.{◌≡◌, ℕ, ◌+◌, ◌*◌, ◌-◌, ◌<◌, ◌≤◌, Bool, true, false, not, cond, List, length, map, get_or, take, drop, sym, ap, ◌∙◌, arith, mul-pos, mul-le-mul_right, length-drop, length-take, get_or-drop, get_or-take}
use Rattle.std.specs.Prelude.{ℤ, pos, ◌*ℤ◌, ◌≤ℤ◌, ◌<ℤ◌, ◌^◌, int_lt}
use Rattle.std.specs.List.{All, AllZip}
use Rattle.std.specs.List.Sorted.{IsSorted}
use Rattle.std.specs.Ordering.{int_cmp, is_lt}
use Rattle.std.specs.Cmp.{IsStrictWeakOrder}
use Rattle.std.proofs.lemmas.Bool.{true≢false}
use Rattle.std.proofs.lemmas.Bool.Decides.{nat_tests}
use Rattle.std.proofs.lemmas.Cmp.{int_cmp_total}
use Rattle.std.proofs.lemmas.Int.{ints, by_lt_z}
use Rattle.std.proofs.lemmas.List.{get_or_default}
use Rattle.std.proofs.lemmas.List.Elements.{All-get_or, Contains-get_or}
use Rattle.std.proofs.lemmas.List.Sorted.{sorted_far, ranks_by}
use Rattle.std.proofs.lemmas.List.Sums.{sum_by-take-drop, count_by-le-length}
use Rattle.flk_exact.specs.Fraction.{Fraction, ◌≤ℚ◌, ◌≈ℚ◌, units}
use Rattle.flk_exact.proofs.FractionLemmas.{≤ℚ-refl, ≤ℚ-trans, ≤ℚ-both}
use Rattle.flk_exact.proofs.ListLemmas.{AllZip-weaker}
use Rattle.flk_front.proofs.SquareSteps.{ceil_within, ceil_least}
use Rattle.flk_stat.specs.Rank.{HasRank, is_less, rank_of}
use Rattle.flk_stat.specs.Ranked.{ranked_at}
use Rattle.flk_stat.specs.Severity.{IsLevelEnd}
use Rattle.flk_stat.proofs.CountLemmas.{count_none, count_all}
use Rattle.flk_stat.proofs.RankLemmas.{IsOrder, by_truth, rank_clash, AllZip-itself, rank_made, rank_from_made}

-- ---- the order of whole numbers

less-true : (x y : ℤ) → x <ℤ y → int_lt x y ≡ true
less-true x y h = grind (arith, ints, h)

pub less-false : (x y : ℤ) → y ≤ℤ x → int_lt x y ≡ false
less-false x y h = grind (arith, ints, h)

false-at_most : (x y : ℤ) → int_lt x y ≡ false → y ≤ℤ x
false-at_most x y h = grind (arith, ints, h)

true-less : (x y : ℤ) → int_lt x y ≡ true → x <ℤ y
true-less x y h = grind (arith, ints, h)

pub int_order : IsOrder int_lt
int_order = record {
  irreflexive = λ x. less-false x x (omega (arith, ints));
  transitive = λ x y z h k. less-true x z (omega (arith, ints, true-less x y h, true-less y z k));
  through = λ x y z h k. less-true x z (omega (arith, ints, true-less x y h, false-at_most z y k));
}

-- the law of ranks, under two maps that keep the order
pub rank_law : (F G : ℤ → ℤ) → ((x y : ℤ) → x ≤ℤ y → F x ≤ℤ F y) → ((x y : ℤ) → x ≤ℤ y → G x ≤ℤ G y)
    → (k : ℕ) (xs ys : List ℤ) (v w : ℤ) → AllZip (λ x y. F x ≤ℤ G y) xs ys → HasRank int_lt k xs v → HasRank int_lt k ys w → F v ≤ℤ G w
rank_law F G mf mg k xs ys v w pairs a b =
    by_lt_z (G w) (F v)
    (λ above.
    let step : (x y : ℤ) → F x ≤ℤ G y → int_lt x v ≡ false → int_lt w y ≡ true = λ x y order at.
    (let fx = mf v x (false-at_most x v at) in
    by_lt_z w y (λ l. less-true w y l) (λ l. let gy = mg y w l in absurd (omega (arith, ints)))) in
    rank_clash int_lt int_lt k xs ys v w (AllZip-weaker (λ x y. F x ≤ℤ G y) (λ x y. int_lt x v ≡ false → int_lt w y ≡ true) step xs ys pairs) a b)
    (λ within. within)

pub rank_unique : (k : ℕ) (xs : List ℤ) (v w : ℤ) → HasRank int_lt k xs v → HasRank int_lt k xs w → v ≡ w
rank_unique k xs v w a b =
    let pairs = AllZip-itself ◌≤ℤ◌ (λ x. (let r : x ≤ℤ x = omega (arith, ints) in r)) xs in
    let h : v ≤ℤ w = rank_law (λ x. x) (λ x. x) (λ x y l. l) (λ x y l. l) k xs xs v w pairs a b in
    let g : w ≤ℤ v = rank_law (λ x. x) (λ x. x) (λ x y l. l) (λ x y l. l) k xs xs w v pairs b a in
    omega (arith, ints, h, g)

-- ---- the order of fractions

pub less_false-at_most : (p q : Fraction) → is_less q p ≡ false → p ≤ℚ q
less_false-at_most p q h = record { cross = false-at_most _ _ h }

pub at_most-less_false : (p q : Fraction) → p ≤ℚ q → is_less q p ≡ false
at_most-less_false p q h = less-false _ _ h.cross

-- z is not less than x, which is above y
less_on : (x y z : Fraction) → is_less y x ≡ true → x ≤ℚ z → is_less y z ≡ true
less_on x y z h k = by_truth (is_less y z) (λ yes. yes) (λ no. absurd (true≢false (sym h ∙ at_most-less_false x y (≤ℚ-trans x z y k (less_false-at_most z y no)))))

less_from : (x y z : Fraction) → z ≤ℚ y → is_less y x ≡ true → is_less z x ≡ true
less_from x y z k h = by_truth (is_less z x) (λ yes. yes) (λ no. absurd (true≢false (sym h ∙ at_most-less_false x y (≤ℚ-trans x z y (less_false-at_most x z no) k))))

less_at_most : (x y : Fraction) → is_less x y ≡ true → x ≤ℚ y
less_at_most x y h = let l = true-less (x.num *ℤ pos y.den) (y.num *ℤ pos x.den) h in record { cross = omega (arith, ints, l) }

pub fraction_order : IsOrder is_less
fraction_order = record {
  irreflexive = λ x. at_most-less_false x x (≤ℚ-refl x);
  transitive = λ x y z h k. less_from z y x (less_at_most x y h) k;
  through = λ x y z h k. less_on y x z h (less_false-at_most y z k);
}

pub rank_order : (k : ℕ) (xs ys : List Fraction) (v w : Fraction) → AllZip ◌≤ℚ◌ xs ys → HasRank is_less k xs v → HasRank is_less k ys w → v ≤ℚ w
rank_order k xs ys v w pairs a b =
    by_truth (is_less w v)
    (λ above.
    let step : (x y : Fraction) → x ≤ℚ y → is_less x v ≡ false → is_less w y ≡ true = λ x y order at.
    less_on v w y above (≤ℚ-trans v x y (less_false-at_most v x at) order) in
    rank_clash is_less is_less k xs ys v w (AllZip-weaker ◌≤ℚ◌ (λ x y. is_less x v ≡ false → is_less w y ≡ true) step xs ys pairs) a b)
    (λ within. less_false-at_most v w within)

pub rank_fraction_unique : (k : ℕ) (xs : List Fraction) (v w : Fraction) → HasRank is_less k xs v → HasRank is_less k xs w → v ≈ℚ w
rank_fraction_unique k xs v w a b =
    let pairs = AllZip-itself ◌≤ℚ◌ ≤ℚ-refl xs in
    (≤ℚ-both v w).0 (rank_order k xs xs v w pairs a b, rank_order k xs xs w v pairs b a)

-- ---- whole numbers of units

units_less : (x y : ℤ) → is_less (units x) (units y) ≡ int_lt x y
units_less x y =
    by_truth (int_lt x y)
    (λ yes. (let l = true-less x y yes in less-true (x *ℤ pos (2 ^ 48)) (y *ℤ pos (2 ^ 48)) (omega (arith, ints, l))) ∙ sym yes)
    (λ no. (let l = false-at_most x y no in less-false (x *ℤ pos (2 ^ 48)) (y *ℤ pos (2 ^ 48)) (omega (arith, ints, l))) ∙ sym no)

pub rank_in_units : (k : ℕ) (xs : List ℤ) (v : ℤ) → HasRank int_lt k xs v → HasRank is_less k (map units xs) (units v)
rank_in_units k xs v r = rank_made int_lt is_less units units_less k xs v r

-- and back
pub rank_from_units : (k : ℕ) (xs : List ℤ) (p : Fraction) → HasRank is_less k (map units xs) p → (v : ℤ) × (units v ≡ p) × HasRank int_lt k xs v
rank_from_units k xs p r = rank_from_made int_lt is_less units units_less k xs p (pos 0) r

-- ---- a list in rising order

rising : (xs : List ℤ) → IsSorted int_cmp xs → (i j : ℕ) (e : ℤ) → i ≤ j → j < length xs → get_or xs i e ≤ℤ get_or xs j e
rising xs up i j e order here =
    let o : IsStrictWeakOrder (λ x y. is_lt (int_cmp x y)) = ranks_by int_cmp_total (λ (x : ℤ). x) in
    let h = sorted_far (λ x y. is_lt (int_cmp x y)) o xs up i j e order here in
    by_lt_z (get_or xs j e) (get_or xs i e) (λ l. absurd (grind (arith, ints, nat_tests, h))) (λ l. l)

-- the number at `length - k` has rank k
pub rank_at : (xs : List ℤ) (k : ℕ) (d : ℤ) → IsSorted int_cmp xs → 0 < k → k ≤ length xs → HasRank int_lt k xs (get_or xs (length xs - k) d)
rank_at xs k d up lo hi =
    let m = length xs - k in
    let v = get_or xs m d in
    let greater : ℤ → Bool = λ x. int_lt v x in
    let least : ℤ → Bool = λ x. not (int_lt x v) in
    let here : m < length xs = omega arith in
    let front : All (λ x. greater x ≡ false) (take (m + 1) xs) = λ j e h.
    (let at : j < m + 1 = omega (arith, h, length-take (m + 1) xs) in
    let order = rising xs up j m e (omega arith) here in
    let same = get_or_default xs m d e here in
    let q : get_or (take (m + 1) xs) j e ≡ get_or xs j e = get_or-take (m + 1) xs j e at in
    rw (q, same) (less-false _ _ order)) in
    let back : All (λ x. least x ≡ true) (drop m xs) = λ j e h.
    (let at : m + j < length xs = omega (arith, h, length-drop m xs) in
    let order = rising xs up m (m + j) e (omega arith) at in
    let same = get_or_default xs m d e here in
    let q : get_or (drop m xs) j e ≡ get_or xs (m + j) e = get_or-drop m xs j e in
    rw (q, same) (ap not (less-false _ _ order))) in
    let c1 = sum_by-take-drop (λ z. cond (greater z) 1 0) xs (m + 1) in
    let c2 = sum_by-take-drop (λ z. cond (least z) 1 0) xs m in
    let z = count_none greater (take (m + 1) xs) front in
    let o = count_all least (drop m xs) back in
    let r = count_by-le-length greater (drop (m + 1) xs) in
    let l1 = length-drop (m + 1) xs in
    let l2 = length-drop m xs in
    record { member = Contains-get_or xs m d here; few_above = omega (arith, c1, z, r, l1); enough_at = omega (arith, c2, o, l2) }

-- the rank of a percentile is from 1 to the number of levels
pub rank_in : (k n : ℕ) → 0 < k → k ≤ 1000 → 0 < n → (0 < rank_of k n) × (rank_of k n ≤ n)
rank_in k n some small levels =
    let product = mul-pos some levels in
    let most : k * n ≤ 1000 * n = mul-le-mul_right n small in
    let low = ceil_within (k * n) 1000 (omega arith) in
    let high = ceil_least (k * n) 1000 (omega arith) in
    (omega arith, omega arith)

-- so a percentile of ends is an end
pub ranked_end : (xs : List ℤ) (n k : ℕ) → All IsLevelEnd xs → 0 < n → 0 < k → k ≤ 1000 → rank_of k n ≤ length xs → IsLevelEnd (ranked_at xs n k)
ranked_end xs n k ends some low high fits =
    let within = rank_in k n low high some in
    All-get_or IsLevelEnd xs (length xs - rank_of k n) (pos 0) (omega (arith, within.0, fits)) ends
