-- The short-term severity: greater levels give no lesser one, there is one, and how it is computed from whole levels.
use Rattle.std.proofs.Common.{◌≡◌, inl, inr, ℕ, zero, suc, ◌+◌, ◌*◌, ◌^◌, ◌<◌, ◌≤◌, List, [], ◌∷◌, length, map, get_or, take, ℤ, pos, ◌+ℤ◌, ◌-ℤ◌, ◌*ℤ◌, ◌≤ℤ◌, ◌<ℤ◌, refl, sym, subst, ◌∙◌, ⊎_elim, arith}
use Rattle.std.specs.Prelude.{negsuc}
use Rattle.std.specs.Int.{int_min, w128}
use Rattle.std.specs.Int.RustNames.{FitsSigned, unsigned_abs}
use Rattle.std.specs.List.{All, AllZip, fold}
use Rattle.std.specs.List.Sorted.{IsPermutation, IsSorted}
use Rattle.std.specs.Ordering.{int_cmp}
use Rattle.std.proofs.lemmas.Int.{ints, clamps, by_lt_z}
use Rattle.std.proofs.lemmas.Nat.{mul-le}
use Rattle.std.proofs.lemmas.List.{length-map, take_more}
use Rattle.std.proofs.lemmas.List.Elements.{All-nil, All-cons, All-head, All-tail}
use Rattle.std.proofs.lemmas.List.Sorted.{length_permutation}
use Rattle.std.proofs.lemmas.List.Sums.{fold_push}
use Rattle.flk_exact.specs.Rounding.{IsCeil, ceil_of, IsRootCeil}
use Rattle.flk_exact.specs.Fraction.{Fraction, ◌≤ℚ◌, ◌+ℚ◌, ◌*ℚ◌, whole, units}
use Rattle.flk_exact.proofs.WholeLemmas.{atom, nat, times_is, at_most, from_at_most, scale_≤}
use Rattle.flk_exact.proofs.RoundingLemmas.{IsCeil-ceil_of, ceil_at_most}
use Rattle.flk_exact.proofs.RootLemmas.{least_reaching}
use Rattle.flk_exact.proofs.FractionLemmas.{≤ℚ-refl, ≤ℚ-trans}
use Rattle.flk_exact.proofs.NumeratorLemmas.{IsOver, over_own, over_sum, over_times, over_whole, over_at_most, at_most_over, numerators, number}
use Rattle.flk_exact.proofs.ListLemmas.{AllZip-weaker, AllZip-joined, AllZip-length}
use Rattle.flk_stat.specs.declared.severity.Share.{Share}
use Rattle.flk_stat.specs.Rank.{HasRank, is_less, rank_of}
use Rattle.flk_stat.specs.Severity.{share, shares, IsPercentile, ArePercentiles, weighted, Reaches, IsCappedLeast, cap, IsSeverity, IsSeverityOfEnds, IsLevelEnd}
use Rattle.flk_stat.specs.Ranked.{IsShare, AreWithin, ranked_at, weighted_total, IsWeightedSum, IsSumOfPercentiles, ReachesSum}
use Rattle.flk_stat.proofs.RankLemmas.{rank-permutation, rank_exists, AllZip-itself}
use Rattle.flk_stat.proofs.PercentileLemmas.{fraction_order, rank_order, rank_in_units, rank_at, rank_in}

-- ---- greater levels give no lesser severity

sum_≤ : (k : ℕ) (p q s t : Fraction) → p ≤ℚ q → s ≤ℚ t → (whole (pos k) *ℚ p +ℚ s) ≤ℚ (whole (pos k) *ℚ q +ℚ t)
sum_≤ k p q s t h g =
    let fs : List Fraction = p ∷ q ∷ s ∷ t ∷ [] in
    let n = numerators fs in
    let delta = n.base * 2 ^ 48 in
    let base = n.some in
    let hd : 0 < delta = omega arith in
    let op = number fs n 0 (omega arith) in
    let oq = number fs n 1 (omega arith) in
    let os = number fs n 2 (omega arith) in
    let ot = number fs n 3 (omega arith) in
    let zp = get_or n.numbers 0 (pos 0) in
    let zq = get_or n.numbers 1 (pos 0) in
    let zs = get_or n.numbers 2 (pos 0) in
    let zt = get_or n.numbers 3 (pos 0) in
    let a = over_at_most delta p q zp zq hd h op oq in
    let b = over_at_most delta s t zs zt hd g os ot in
    let c = scale_≤ zp zq k a in
    let d : (pos k *ℤ zp +ℤ zs) ≤ℤ (pos k *ℤ zq +ℤ zt) = omega (arith, ints, b, c) in
    at_most_over delta _ _ _ _ hd d (over_sum delta _ s (pos k *ℤ zp) zs (over_times delta (pos k) p zp op) os) (over_sum delta _ t (pos k *ℤ zq) zt (over_times delta (pos k) q zq oq) ot)

weighted_≤ : (ss : List Share) (vs ws : List Fraction) → AllZip ◌≤ℚ◌ vs ws → weighted ss vs ≤ℚ weighted ss ws
weighted_≤ [] vs ws h = record { cross = omega (arith, ints) }
weighted_≤ (s ∷ ss) [] [] h = record { cross = omega (arith, ints) }
weighted_≤ (s ∷ ss) [] (w ∷ ws) h = absurd h
weighted_≤ (s ∷ ss) (v ∷ vs) [] h = absurd h
weighted_≤ (s ∷ ss) (v ∷ vs) (w ∷ ws) h = sum_≤ s.weight v w (weighted ss vs) (weighted ss ws) h.0 (weighted_≤ ss vs ws h.1)

percentiles_≤ : (ss : List Share) (xs ys vs ws : List Fraction) → AllZip ◌≤ℚ◌ xs ys → ArePercentiles ss xs vs → ArePercentiles ss ys ws → AllZip ◌≤ℚ◌ vs ws
percentiles_≤ ss xs ys vs ws pairs a b =
    let same : length xs ≡ length ys = AllZip-length ◌≤ℚ◌ xs ys pairs in
    AllZip-joined (λ s v. IsPercentile xs s.tenths v) (λ s w. IsPercentile ys s.tenths w) ◌≤ℚ◌
    (λ s v w p q. rank_order (rank_of s.tenths (length xs)) xs ys v w pairs p (subst (λ (n : ℕ). HasRank is_less (rank_of s.tenths n) ys w) (sym same) q))
    ss vs ws a b

scaled_≤ : (S T : Fraction) → S ≤ℚ T → (whole (pos 1000000000000000000) *ℚ S) ≤ℚ (whole (pos 1000000000000000000) *ℚ T)
scaled_≤ S T h = record {
  cross = at_most (times_is (times_is (nat 1000000000000000000) (atom S.num)) (nat (1 * T.den))) (times_is (times_is (nat 1000000000000000000) (atom T.num)) (nat (1 * S.den)))
      (omega (arith, from_at_most (times_is (atom S.num) (nat T.den)) (times_is (atom T.num) (nat S.den)) h.cross));
}

reaches_≤ : (S T : Fraction) (z : ℤ) → S ≤ℚ T → Reaches T z → Reaches S z
reaches_≤ S T z h r = ≤ℚ-trans _ _ _ (scaled_≤ S T h) r

root_≤ : (S T : Fraction) (v w : ℤ) → S ≤ℚ T → IsCappedLeast (Reaches S) cap v → IsCappedLeast (Reaches T) cap w → v ≤ℤ w
root_≤ S T v w h a b =
    ⊎_elim
    (λ top. omega (arith, ints, top, a.capped))
    (λ r. a.least w b.natural (reaches_≤ S T w h r))
    b.reaches

pub severity_≤ : (xs ys : List Fraction) (v w : ℤ) → AllZip ◌≤ℚ◌ xs ys → IsSeverity xs v → IsSeverity ys w → v ≤ℤ w
severity_≤ xs ys v w pairs a b =
    root_≤ _ _ v w (weighted_≤ shares a.percentiles b.percentiles (percentiles_≤ shares xs ys a.percentiles b.percentiles pairs a.are_percentiles b.are_percentiles)) a.is_least b.is_least

pub severity_unique : (levels : List Fraction) (v w : ℤ) → IsSeverity levels v → IsSeverity levels w → v ≡ w
severity_unique levels v w a b =
    let pairs = AllZip-itself ◌≤ℚ◌ ≤ℚ-refl levels in
    omega (arith, ints, severity_≤ levels levels v w pairs a b, severity_≤ levels levels w v pairs b a)

-- the severity does not see the order of the levels
pub severity-permutation : (xs ys : List Fraction) (w : ℤ) → IsPermutation xs ys → IsSeverity xs w → IsSeverity ys w
severity-permutation xs ys w h s =
    let same : length ys ≡ length xs = length_permutation xs ys h in
    record {
      percentiles = s.percentiles;
      are_percentiles =
          AllZip-weaker (λ s v. IsPercentile xs s.tenths v) (λ s v. IsPercentile ys s.tenths v)
          (λ s v p. subst (λ (n : ℕ). HasRank is_less (rank_of s.tenths n) ys v) (sym same) (rank-permutation is_less _ xs ys v h p)) shares s.percentiles s.are_percentiles;
      is_least = s.is_least;
    }

-- ---- there is one

-- the tenths of a percent of each share are from 1 to 1000
abbrev AreTenths : List Share → Type 0
AreTenths [] = Unit {0}
AreTenths (s ∷ ss) = (0 < s.tenths) × (s.tenths ≤ 1000) × AreTenths ss

tenths : AreTenths shares
tenths = (omega arith, omega arith, (omega arith, omega arith, (omega arith, omega arith, (omega arith, omega arith, (omega arith, omega arith, (omega arith, omega arith, (omega arith, omega arith, (omega arith, omega arith, (omega arith, omega arith, (omega arith, omega arith, (omega arith, omega arith, (omega arith, omega arith, (omega arith, omega arith, (omega arith, omega arith, (omega arith, omega arith, tt)))))))))))))))

percentiles_exist : (levels : List Fraction) (ss : List Share) → 0 < length levels → AreTenths ss → (vs : List Fraction) × ArePercentiles ss levels vs
percentiles_exist levels [] some h = ([], tt)
percentiles_exist levels (s ∷ ss) some h =
    let within = rank_in s.tenths (length levels) h.0 h.1 some in
    let first = rank_exists is_less fraction_order (rank_of s.tenths (length levels)) levels within.0 within.1 in
    let rest = percentiles_exist levels ss some h.2 in
    (first.0 ∷ rest.0, (first.1, rest.1))

reaches_natural : (S : Fraction) (n k : ℕ) → S.num ≡ pos n → 1000000000000000000 * n ≤ 30000 * (k * k) * S.den → Reaches S (pos k)
reaches_natural S n k e h = record { cross = rw e (omega (arith, ints, h)) }

natural_reaches : (S : Fraction) (n k : ℕ) → S.num ≡ pos n → Reaches S (pos k) → 1000000000000000000 * n ≤ 30000 * (k * k) * S.den
natural_reaches S n k e h = let c = rw e at h.cross in omega (arith, ints, c)

least_natural : (S : Fraction) (n r : ℕ) (z : ℤ) → S.num ≡ pos n → ((k : ℕ) → 1000000000000000000 * n ≤ 30000 * (k * k) * S.den → r ≤ k) → pos 0 ≤ℤ z → Reaches S z → pos r ≤ℤ z
least_natural S n r (pos k) e least low h = omega (arith, ints, least k (natural_reaches S n k e h))
least_natural S n r (negsuc k) e least low h = absurd (omega (arith, ints, low))

far_enough : (n d : ℕ) → 0 < d → n ≤ 30000 * ((0 + n) * (0 + n)) * d
far_enough zero d some = omega arith
far_enough (suc n) d some = omega (arith, mul-le (1 * suc n) 1 (suc n * suc n) d (mul-le 1 (suc n) (suc n) (suc n) (omega arith) (omega arith)) some)

-- the lesser of the cap and the least one
capped : (Reach : ℤ → Type 0) (r : ℤ) → pos 0 ≤ℤ r → Reach r → ((z : ℤ) → pos 0 ≤ℤ z → Reach z → r ≤ℤ z) → (w : ℤ) × IsCappedLeast Reach cap w
capped Reach r natural reach least =
    by_lt_z cap r
    (λ above. (cap, record { natural = omega (arith, ints); capped = omega (arith, ints); reaches = inl refl; least = λ z low h. (let o = least z low h in omega (arith, ints, o, above)) }))
    (λ within. (r, record { natural = natural; capped = within; reaches = inr reach; least = least }))

root_exists : (S : Fraction) (num : ℤ) → S.num ≡ num → (w : ℤ) × IsCappedLeast (Reaches S) cap w
root_exists S (pos n) e =
    let l = least_reaching (λ k. 30000 * (k * k) * S.den) (1000000000000000000 * n) 0 (1000000000000000000 * n) (λ z h. omega arith) (far_enough (1000000000000000000 * n) S.den S.positive) in
    capped (Reaches S) (pos l.0) (omega (arith, ints)) (reaches_natural S n l.0 e l.1) (λ z low h. least_natural S n l.0 z e l.2 low h)
root_exists S (negsuc n) e = capped (Reaches S) (pos 0) (omega (arith, ints)) record { cross = rw e (omega (arith, ints)) } (λ z low h. low)

pub severity_exists : (levels : List Fraction) → 0 < length levels → (w : ℤ) × IsSeverity levels w
severity_exists levels some =
    let vs = percentiles_exist levels shares some tenths in
    let w = root_exists (weighted shares vs.0) (weighted shares vs.0).num refl in
    (w.0, record { percentiles = vs.0; are_percentiles = vs.1; is_least = w.1 })

-- ---- the severity of whole levels

-- X is the sum in units
reaches_units : (S : Fraction) (X z : ℤ) → IsOver (2 ^ 48) S X → Reaches S z → (X *ℤ pos 6103515625) ≤ℤ ((z *ℤ z) *ℤ pos 51539607552)
reaches_units S X z over h =
    let q = z *ℤ z in
    let e = over_at_most (2 ^ 48) _ _ (pos 1000000000000000000 *ℤ X) (pos (2 ^ 48) *ℤ (pos 30000 *ℤ q)) (omega arith) h (over_times (2 ^ 48) (pos 1000000000000000000) S X over) (over_whole (2 ^ 48) (pos 30000 *ℤ q)) in
    let f = from_at_most (times_is (nat 1000000000000000000) (atom X)) (times_is (nat (2 ^ 48)) (times_is (nat 30000) (atom q))) e in
    at_most (times_is (atom X) (nat 6103515625)) (times_is (atom q) (nat 51539607552)) (omega (arith, f))

units_reaches : (S : Fraction) (X z : ℤ) → IsOver (2 ^ 48) S X → (X *ℤ pos 6103515625) ≤ℤ ((z *ℤ z) *ℤ pos 51539607552) → Reaches S z
units_reaches S X z over h =
    let q = z *ℤ z in
    let f = from_at_most (times_is (atom X) (nat 6103515625)) (times_is (atom q) (nat 51539607552)) h in
    let e : (pos 1000000000000000000 *ℤ X) ≤ℤ (pos (2 ^ 48) *ℤ (pos 30000 *ℤ q)) =
    at_most (times_is (nat 1000000000000000000) (atom X)) (times_is (nat (2 ^ 48)) (times_is (nat 30000) (atom q))) (omega (arith, f)) in
    at_most_over (2 ^ 48) _ _ _ _ (omega arith) e (over_times (2 ^ 48) (pos 1000000000000000000) S X over) (over_whole (2 ^ 48) (pos 30000 *ℤ q))

-- x is a quotient rounded up: it is at most a whole number exactly where the quotient is
pub ceil_reached : (a b x q : ℤ) → IsCeil a b x → pos 0 <ℤ b → x ≤ℤ q → a ≤ℤ (q *ℤ b)
ceil_reached a (pos b) x q c some h = omega (arith, ints, c.within, scale_≤ x q b h)
ceil_reached a (negsuc b) x q c some h = absurd (omega (arith, ints))

pub capped_root_is : (X x r w : ℤ) → IsCeil (X *ℤ pos 6103515625) (pos 51539607552) x → IsRootCeil x r → w ≡ int_min r cap → IsCappedLeast (ReachesSum X) cap w
capped_root_is X x r w ceil root is =
    let natural = root.natural in
    let reached : ReachesSum X r = ceil_reached (X *ℤ pos 6103515625) (pos 51539607552) x (r *ℤ r) ceil (omega (arith, ints)) root.within in
    record {
      natural = omega (arith, ints, clamps, is, natural);
      capped = omega (arith, ints, clamps, is);
      reaches =
          by_lt_z r cap
          (λ less. let e : w ≡ r = omega (arith, ints, clamps, is) in inr (subst (λ (z : ℤ). ReachesSum X z) (sym e) reached))
          (λ above. inl (omega (arith, ints, clamps, is)));
      least = λ z low h.
          let order = root.least z low (ceil_at_most (X *ℤ pos 6103515625) 51539607552 x (z *ℤ z) ceil h) in
          omega (arith, ints, clamps, is, order);
    }

-- as a fraction, X units reach as far
least_in_units : (S : Fraction) (X w : ℤ) → IsOver (2 ^ 48) S X → IsCappedLeast (ReachesSum X) cap w → IsCappedLeast (Reaches S) cap w
least_in_units S X w over h = record {
  natural = h.natural;
  capped = h.capped;
  reaches = ⊎_elim (λ top. inl top) (λ r. inr (units_reaches S X w over r)) h.reaches;
  least = λ z low r. h.least z low (reaches_units S X z over r);
}

pub least_from_units : (S : Fraction) (X w : ℤ) → IsOver (2 ^ 48) S X → IsCappedLeast (Reaches S) cap w → IsCappedLeast (ReachesSum X) cap w
least_from_units S X w over h = record {
  natural = h.natural;
  capped = h.capped;
  reaches = ⊎_elim (λ top. inl top) (λ r. inr (reaches_units S X w over r)) h.reaches;
  least = λ z low r. h.least z low (units_reaches S X z over r);
}

-- a percentile, times its weight
pub record IsPart (n : ℕ) (z : ℤ) : Type 0 where
  pub low : pos 0 ≤ℤ (pos n *ℤ z)
  pub high : (pos n *ℤ z) ≤ℤ pos (2 ^ 104)

pub part_of : (n : ℕ) (z : ℤ) → n ≤ 2 ^ 11 → IsLevelEnd z → IsPart n z
part_of n (pos m) light h = record { low = omega (arith, ints); high = omega (arith, ints, mul-le n m (2 ^ 11) (2 ^ 93) light (omega (arith, ints, h.high))) }
part_of n (negsuc m) light h = absurd (omega (arith, ints, h.low))

-- ---- the sum of the percentiles

pub sum_moved : (a b s : ℤ) → a +ℤ b +ℤ s ≡ a +ℤ (b +ℤ s)
sum_moved a b s = omega (arith, ints)

abbrev total : List ℤ → (n : ℕ) → List Share → ℤ
total xs n [] = pos 0
total xs n (s ∷ ss) = pos s.weight *ℤ ranked_at xs n s.tenths +ℤ total xs n ss

total_folded : (xs : List ℤ) (n : ℕ) (a : ℤ) (ss : List Share) → fold (λ sum s. sum +ℤ pos s.weight *ℤ ranked_at xs n s.tenths) a ss ≡ a +ℤ total xs n ss
total_folded xs n a [] = omega (arith, ints)
total_folded xs n a (s ∷ ss) = total_folded xs n (a +ℤ pos s.weight *ℤ ranked_at xs n s.tenths) ss ∙ sum_moved a (pos s.weight *ℤ ranked_at xs n s.tenths) (total xs n ss)

total_is : (xs : List ℤ) (n : ℕ) (ss : List Share) → weighted_total xs n ss ≡ total xs n ss
total_is xs n ss = let e = total_folded xs n (pos 0) ss in omega (arith, ints, e)

without : (a b : ℤ) → b ≡ (a +ℤ b) -ℤ a
without a b = omega (arith, ints)

ranked_total : (xs : List ℤ) (n : ℕ) (ss : List Share) → 0 < n → IsSorted int_cmp xs → All IsShare ss → AreWithin n (length xs) ss → IsWeightedSum n ss xs (total xs n ss)
ranked_total xs n [] some rises h fits = refl
ranked_total xs n (s ∷ ss) some rises h fits =
    let first = All-head IsShare s ss h in
    let fit = All-head (λ t. rank_of t.tenths n ≤ length xs) s ss fits in
    let b = rank_in s.tenths n first.low first.high some in
    let part = pos s.weight *ℤ ranked_at xs n s.tenths in (
      ranked_at xs n s.tenths,
      rank_at xs (rank_of s.tenths n) (pos 0) rises b.0 fit,
      subst (λ (z : ℤ). IsWeightedSum n ss xs z) (without part (total xs n ss))
          (ranked_total xs n ss some rises (All-tail IsShare s ss h) (All-tail (λ t. rank_of t.tenths n ≤ length xs) s ss fits)),
    )

-- a share more
pub total_more : (xs : List ℤ) (n i : ℕ) (ss : List Share) (d : Share) → i < length ss
    → weighted_total xs n (take (i + 1) ss) ≡ weighted_total xs n (take i ss) +ℤ pos (get_or ss i d).weight *ℤ ranked_at xs n (get_or ss i d).tenths
total_more xs n i ss d here = rw (take_more ss i d here) (fold_push (λ sum s. sum +ℤ pos s.weight *ℤ ranked_at xs n s.tenths) (pos 0) (take i ss) (get_or ss i d))

-- some parts and one more fit 128 bits
pub sum_fits : (sum part : ℤ) (i : ℕ) → i < 15 → pos 0 ≤ℤ sum → sum ≤ℤ pos (i * 2 ^ 104) → pos 0 ≤ℤ part → part ≤ℤ pos (2 ^ 104) → FitsSigned w128 (sum +ℤ part)
sum_fits sum part i few low high part_low part_high = omega (arith, ints, few, low, high, part_low, part_high)

-- in rising order
pub rising_total : (xs : List ℤ) (n : ℕ) (ss : List Share) (sum : ℤ) → 0 < n → IsSorted int_cmp xs → All IsShare ss → AreWithin n (length xs) ss → sum ≡ weighted_total xs n ss
    → IsWeightedSum n ss xs sum
rising_total xs n ss sum some rises h fits is =
    subst (λ (z : ℤ). IsWeightedSum n ss xs z) (sym (is ∙ total_is xs n ss)) (ranked_total xs n ss some rises h fits)

-- the percentiles of such a sum
record HavePercentiles (n : ℕ) (ss : List Share) (levels : List ℤ) (sum : ℤ) : Type 0 where
  percentiles : List Fraction
  ranked : AllZip (λ s v. HasRank is_less (rank_of s.tenths n) (map units levels) v) ss percentiles
  over : IsOver (2 ^ 48) (weighted ss percentiles) sum

over_rest : (n : ℕ) (v z : ℤ) → pos n *ℤ v +ℤ (z -ℤ pos n *ℤ v) ≡ z
over_rest n v z = omega (arith, ints)

have_percentiles : (n : ℕ) (ss : List Share) (levels : List ℤ) (sum : ℤ) → IsWeightedSum n ss levels sum → HavePercentiles n ss levels sum
have_percentiles n [] levels sum h = record { percentiles = []; ranked = tt; over = subst (λ (z : ℤ). IsOver (2 ^ 48) (weighted [] []) z) (sym h) (record { is = refl }) }
have_percentiles n (s ∷ ss) levels sum h =
    let v = h.0 in
    let rest = have_percentiles n ss levels (sum -ℤ pos s.weight *ℤ v) h.2 in
    record {
      percentiles = units v ∷ rest.percentiles;
      ranked = (rank_in_units (rank_of s.tenths n) levels v h.1, rest.ranked);
      over =
          subst (λ (z : ℤ). IsOver (2 ^ 48) (weighted (s ∷ ss) (units v ∷ rest.percentiles)) z) (over_rest s.weight v sum)
          (over_sum (2 ^ 48) _ _ (pos s.weight *ℤ v) (sum -ℤ pos s.weight *ℤ v) (over_times (2 ^ 48) (pos s.weight) (units v) v (over_own (units v))) rest.over);
    }

pub severity_is : (levels : List ℤ) (sum w : ℤ) → IsSumOfPercentiles levels sum → IsCappedLeast (ReachesSum sum) cap w → IsSeverityOfEnds levels w
severity_is levels sum w is least =
    let h = have_percentiles (length levels) shares levels sum is.is in
    record {
      percentiles = h.percentiles;
      are_percentiles =
          subst (λ (n : ℕ). AllZip (λ s v. HasRank is_less (rank_of s.tenths n) (map units levels) v) shares h.percentiles) (sym (length-map levels units)) h.ranked;
      is_least = least_in_units (weighted shares h.percentiles) sum w h.over least;
    }

-- ---- the shares

share_in : (k n : ℕ) → 0 < k → k ≤ 1000 → n ≤ 2 ^ 11 → IsShare (share k n)
share_in k n low high light = record { low = low; high = high; light = light }

abbrev AreShares : List Share → Type 0
AreShares [] = Unit {0}
AreShares (s ∷ ss) = IsShare s × AreShares ss

each_share : (ss : List Share) → AreShares ss → All IsShare ss
each_share [] h = All-nil IsShare
each_share (s ∷ ss) h = All-cons IsShare s ss h.0 (each_share ss h.1)

standard_shares : AreShares shares
standard_shares = (share_in 1 942 (omega arith) (omega arith) (omega arith), (share_in 7 525 (omega arith) (omega arith) (omega arith), (share_in 10 525 (omega arith) (omega arith) (omega arith), (share_in 15 525 (omega arith) (omega arith) (omega arith), (share_in 22 657 (omega arith) (omega arith) (omega arith), (share_in 30 657 (omega arith) (omega arith) (omega arith), (share_in 40 657 (omega arith) (omega arith) (omega arith), (share_in 60 1680 (omega arith) (omega arith) (omega arith), (share_in 80 1680 (omega arith) (omega arith) (omega arith), (share_in 100 1680 (omega arith) (omega arith) (omega arith), (share_in 130 1680 (omega arith) (omega arith) (omega arith), (share_in 170 1680 (omega arith) (omega arith) (omega arith), (share_in 300 800 (omega arith) (omega arith) (omega arith), (share_in 500 800 (omega arith) (omega arith) (omega arith), (share_in 800 800 (omega arith) (omega arith) (omega arith), tt)))))))))))))))

pub all_shares : All IsShare shares
all_shares = each_share shares standard_shares

pub within_itself : (n : ℕ) (ss : List Share) → 0 < n → All IsShare ss → AreWithin n n ss
within_itself n ss some h = λ i d less. (let s = h i d less in (rank_in _ n s.low s.high some).1)

bounded : (q X : ℤ) → pos 0 ≤ℤ X → X ≤ℤ pos (2 ^ 108) → (X *ℤ pos 6103515625) ≤ℤ (q *ℤ pos 51539607552) → (q *ℤ pos 51539607552 -ℤ pos 51539607552) <ℤ (X *ℤ pos 6103515625)
    → unsigned_abs q < 2 ^ 126
bounded q X low high a b = omega (arith, ints, low, high, a, b)

-- the quotient under the root is small
pub quotient_small : (X : ℤ) → pos 0 ≤ℤ X → X ≤ℤ pos (2 ^ 108) → unsigned_abs (ceil_of (X *ℤ pos 6103515625) (pos 51539607552)) < 2 ^ 126
quotient_small X low high =
    let q = ceil_of (X *ℤ pos 6103515625) (pos 51539607552) in
    let is : IsCeil (X *ℤ pos 6103515625) (pos 51539607552) q = IsCeil-ceil_of (X *ℤ pos 6103515625) 51539607552 (omega arith) in
    let a = is.within in
    let b = is.least in
    bounded q X low high a b
