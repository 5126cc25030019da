-- The percentiles of levels of which the greater ones are selected one after the other.
use Rattle.std.proofs.Common.{◌≡◌, ℕ, zero, suc, ◌+◌, ◌*◌, ◌-◌, ◌<◌, ◌≤◌, Bool, false, not, cond, nat_lt, List, [], ◌∷◌, ◌++◌, length, map, get_or, set, ℤ, pos, ◌+ℤ◌, ◌-ℤ◌, ◌*ℤ◌, ◌≤ℤ◌, refl, sym, ap, subst, ⊎_elim, ◌∙◌, arith, length-append, mul-le-mul_right}
use Rattle.std.specs.Prelude.{int_lt}
use Rattle.std.specs.List.{All, AllZip}
use Rattle.std.specs.List.Sorted.{IsPermutation, IsSplitAround}
use Rattle.std.specs.Ordering.{nat_cmp}
use Rattle.std.proofs.lemmas.Bool.{cases_lt}
use Rattle.std.proofs.lemmas.Bool.Decides.{nat_tests}
use Rattle.std.proofs.lemmas.Int.{ints}
use Rattle.std.proofs.lemmas.List.{length-map, map-append, append-nil, get_or_append_left, get_or_at, get_or_default, get_or-set_same, get_or-set_other}
use Rattle.std.proofs.lemmas.List.Elements.{All-map, All-contains, Contains-append_right}
use Rattle.std.proofs.lemmas.List.Sorted.{IsPermutation-sym, IsPermutation-map, length_permutation}
use Rattle.std.proofs.lemmas.List.Sums.{sum_by-append, count_by-le-length}
use Rattle.flk_exact.proofs.ListLemmas.{AllZip-get_or, AllZip-from_get_or, AllZip-length}
use Rattle.flk_front.proofs.SquareSteps.{ceil_within, ceil_least}
use Rattle.flk_stat.specs.declared.severity.Share.{Share}
use Rattle.flk_stat.specs.declared.severity.RankedShare.{RankedShare}
use Rattle.flk_stat.specs.Rank.{HasRank, rank_of}
use Rattle.flk_stat.specs.Ranked.{IsShare, IsRankedSum, ranked_share, IsWeightedSum, IsSumOfPercentiles, IsRankIn, DoRise, IsSelected, together}
use Rattle.flk_stat.specs.Buckets.{kept_of, IsKeptRank, IsKeptShare}
use Rattle.flk_stat.specs.Severity.{share, shares}
use Rattle.flk_stat.proofs.BucketLemmas.{DoesRise, kept_rank_is, kept_rank_in, kept_ranks_rise}
use Rattle.flk_stat.proofs.CountLemmas.{count_none, count_all, count_yes, count_no, count_more}
use Rattle.flk_stat.proofs.PercentileLemmas.{less-false}
use Rattle.flk_stat.proofs.RankLemmas.{rank-permutation, rank_made, rank_from_made}
use Rattle.flk_stat.proofs.EndLemmas.{nat_not_less, natural_≤}
use Rattle.flk_stat.proofs.SeverityLemmas.{all_shares}

-- what stands before and behind the number that was selected
record IsSplit (front : List ℤ) (x : ℤ) (back : List ℤ) : Type 0 where
  least : All (λ y. y ≤ℤ x) front
  greatest : All (λ y. x ≤ℤ y) back

split_is : (front back : List ℕ) (x : ℕ) → IsSplitAround nat_cmp front x back → IsSplit (map pos front) (pos x) (map pos back)
split_is front back x split = record {
  least = All-map (λ y. y ≤ℤ pos x) pos front (λ k d less. natural_≤ (get_or front k d) x (nat_not_less x (get_or front k d) (split.0 k d less)));
  greatest = All-map (λ y. pos x ≤ℤ y) pos back (λ k d less. natural_≤ x (get_or back k d) (nat_not_less (get_or back k d) x (split.1 k d less)));
}

-- it has the rank that its place says
rank_here : (front back : List ℤ) (x : ℤ) → IsSplit front x back → HasRank int_lt (length back + 1) (front ++ x ∷ back) x
rank_here front back x s =
    let none = count_none (λ y. int_lt x y) front (λ k d less. less-false x _ (s.least k d less)) in
    let all = count_all (λ y. not (int_lt y x)) back (λ k d less. ap not (less-false _ x (s.greatest k d less))) in
    let a = sum_by-append (λ z. cond (int_lt x z) 1 0) front (x ∷ back) in
    let b = sum_by-append (λ z. cond (not (int_lt z x)) 1 0) front (x ∷ back) in
    let same : int_lt x x ≡ false = less-false x x (omega (arith, ints)) in
    let no = count_no (λ y. int_lt x y) x back same in
    let yes = count_yes (λ y. not (int_lt y x)) x back (ap not same) in
    let few = count_by-le-length (λ y. int_lt x y) back in
    record {
      member = Contains-append_right front (x ∷ back) x (0, omega arith, refl);
      few_above = omega (arith, none, a, no, few);
      enough_at = omega (arith, all, b, yes);
    }

-- one of those behind it has the rank that it has among them
rank_behind : (k : ℕ) (front back : List ℤ) (x v : ℤ) → IsSplit front x back → HasRank int_lt k back v → HasRank int_lt k (front ++ x ∷ back) v
rank_behind k front back x v s r =
    let above : x ≤ℤ v = All-contains (λ y. x ≤ℤ y) back v s.greatest r.member in
    let none = count_none (λ y. int_lt v y) front (λ i d less. (let low = s.least i d less in less-false v _ (omega (arith, ints, low, above)))) in
    let a = sum_by-append (λ z. cond (int_lt v z) 1 0) front (x ∷ back) in
    let b = sum_by-append (λ z. cond (not (int_lt z v)) 1 0) front (x ∷ back) in
    let no = count_no (λ y. int_lt v y) x back (less-false v x above) in
    let more = count_more (λ y. not (int_lt y v)) x back in
    record {
      member = Contains-append_right front (x ∷ back) v (suc r.member.0, omega (arith, r.member.1), r.member.2);
      few_above = omega (arith, none, a, no, r.few_above);
      enough_at = omega (arith, b, more, r.enough_at);
    }

-- ---- sums

pub sum-permutation : (qs : List RankedShare) (xs ys : List ℤ) (sum : ℤ) → IsPermutation xs ys → IsRankedSum qs xs sum → IsRankedSum qs ys sum
sum-permutation [] xs ys sum moved h = h
sum-permutation (q ∷ qs) xs ys sum moved h = (h.0, rank-permutation int_lt q.rank xs ys h.0 moved h.1, sum-permutation qs xs ys (sum -ℤ pos q.share.weight *ℤ h.0) moved h.2)

moved_back : (q : RankedShare) (levels above : List ℕ) (part : ℤ) (h : IsSelected q levels part above) → IsPermutation (map pos h.front ++ pos h.x ∷ map pos above) (map pos levels)
moved_back q levels above part h =
    IsPermutation-sym (map pos levels) (map pos h.front ++ pos h.x ∷ map pos above)
    (subst (λ (zs : List ℤ). IsPermutation (map pos levels) zs) (map-append pos h.front (h.x ∷ above)) (IsPermutation-map pos levels (h.front ++ h.x ∷ above) h.moved))

selected_rank : (q : RankedShare) (levels above : List ℕ) (part : ℤ) (h : IsSelected q levels part above) → HasRank int_lt q.rank (map pos levels) (pos h.x)
selected_rank q levels above part h =
    let zs : List ℤ = map pos h.front ++ pos h.x ∷ map pos above in
    let place : length (map pos above) + 1 ≡ q.rank = omega (arith, h.place, length-map above pos) in
    rank-permutation int_lt q.rank zs (map pos levels) (pos h.x) (moved_back q levels above part h)
    (subst (λ (k : ℕ). HasRank int_lt k zs (pos h.x)) place (rank_here (map pos h.front) (map pos above) (pos h.x) (split_is h.front above h.x h.split)))

rank_kept : (k : ℕ) (q : RankedShare) (levels above : List ℕ) (part v : ℤ) → IsSelected q levels part above → HasRank int_lt k (map pos above) v → HasRank int_lt k (map pos levels) v
rank_kept k q levels above part v h r =
    rank-permutation int_lt k (map pos h.front ++ pos h.x ∷ map pos above) (map pos levels) v (moved_back q levels above part h)
    (rank_behind k (map pos h.front) (map pos above) (pos h.x) v (split_is h.front above h.x h.split) r)

last_part : (rest part product : ℤ) → rest ≡ pos 0 → part ≡ product → rest +ℤ part -ℤ product ≡ pos 0
last_part rest part product a b = omega (arith, ints, a, b)

later_part : (rest part product : ℤ) → rest -ℤ product +ℤ part ≡ rest +ℤ part -ℤ product
later_part rest part product = omega (arith, ints)

-- the level that was selected comes to those of the levels above it
pub sum_more : (qs : List RankedShare) (q : RankedShare) (levels above : List ℕ) (part rest : ℤ) → IsSelected q levels part above → IsRankedSum qs (map pos above) rest
    → IsRankedSum (qs ++ q ∷ []) (map pos levels) (rest +ℤ part)
sum_more [] q levels above part rest h is = (pos h.x, selected_rank q levels above part h, last_part rest part (pos q.share.weight *ℤ pos h.x) is h.weighed)
sum_more (t ∷ qs) q levels above part rest h is = (
  is.0,
  rank_kept t.rank q levels above part is.0 h is.1,
  subst (λ (z : ℤ). IsRankedSum (qs ++ q ∷ []) (map pos levels) z) (later_part rest part (pos t.share.weight *ℤ is.0))
      (sum_more qs q levels above part (rest -ℤ pos t.share.weight *ℤ is.0) h is.2),
)

-- in another order
pub sum_unsorted : (levels sorted : List ℤ) (sum : ℤ) → IsPermutation levels sorted → IsSumOfPercentiles sorted sum → IsSumOfPercentiles levels sum
sum_unsorted levels sorted sum moved h = record {
  is =
      sum-permutation (map (ranked_share (length levels)) shares) sorted levels sum (IsPermutation-sym levels sorted moved)
      (subst (λ (n : ℕ). IsWeightedSum n shares sorted sum) (length_permutation levels sorted moved) h.is);
}

-- where no end is wide
pub narrow_sum : (narrow : List ℕ) (wide : List ℤ) (sum : ℤ) → length wide ≡ 0 → IsWeightedSum (length narrow) shares (map pos narrow) sum → IsSumOfPercentiles (together narrow wide) sum
narrow_sum narrow (z ∷ wide) sum none h = absurd (omega arith)
narrow_sum narrow [] sum none h =
    let counted = subst (λ (n : ℕ). IsWeightedSum n shares (map pos narrow) sum) (sym (length-map narrow pos)) h in
    record { is = subst (λ (zs : List ℤ). IsWeightedSum (length zs) shares zs sum) (sym (append-nil (map pos narrow))) counted }

-- ---- where the selected level stands

pub place_is : (levels front above : List ℕ) (x rank : ℕ) → IsPermutation levels (front ++ x ∷ above) → length front ≡ length levels - rank → 0 < rank → rank ≤ length levels
    → length above + 1 ≡ rank
place_is levels front above x rank moved at some fits = omega (arith, length-append front (x ∷ above), length_permutation levels (front ++ x ∷ above) moved, at, some, fits)

-- ---- the ranks before the last are less

pub others_rise : (qs : List RankedShare) (q : RankedShare) → DoRise (qs ++ q ∷ []) → DoRise qs
others_rise qs q h = record {
  rise = λ i j d less inside.
      (let a = get_or_append_left qs (q ∷ []) d i (omega (arith, less, inside)) in
      let b = get_or_append_left qs (q ∷ []) d j inside in
      rw (a, b) at (h.rise i j d less (omega (arith, inside, length-append qs (q ∷ [])))));
}

-- so all of them stand behind it
pub others_in : (qs : List RankedShare) (q : RankedShare) (levels above : List ℕ) → DoRise (qs ++ q ∷ []) → All (IsRankIn levels) qs → length above + 1 ≡ q.rank → All (IsRankIn above) qs
others_in qs q levels above h ranks place = λ i d inside.
    let a = get_or_append_left qs (q ∷ []) d i inside in
    let b = get_or_at qs q [] d (length qs) refl in
    let less : (get_or qs i d).rank < q.rank = rw (a, b) at (h.rise i (length qs) d inside (omega (arith, length-append qs (q ∷ [])))) in
    record { low = (ranks i d inside).low; high = omega (arith, less, place) }

-- ---- the shares' ranks rise

rank_below : (j k n : ℕ) → 1000 ≤ n → j < k → rank_of j n < rank_of k n
rank_below j k n many order =
    let product : (j + 1) * n ≤ k * n = mul-le-mul_right n (let next : j + 1 ≤ k = omega (arith, order) in next) in
    let low = ceil_least (j * n) 1000 (omega arith) in
    let high = ceil_within (k * n) 1000 (omega arith) in
    omega (arith, product, low, high, many)

-- the tenths rise from above a number
abbrev RiseFrom : ℕ → List Share → Type 0
RiseFrom low [] = Unit {0}
RiseFrom low (s ∷ ss) = (low < s.tenths) × RiseFrom s.tenths ss

standard_rise : RiseFrom 0 shares
standard_rise = (omega arith, (omega arith, (omega arith, (omega arith, (omega arith, (omega arith, (omega arith, (omega arith, (omega arith, (omega arith, (omega arith, (omega arith, (omega arith, (omega arith, (omega arith, tt)))))))))))))))

above_low : (low : ℕ) (ss : List Share) → RiseFrom low ss → (j : ℕ) (d : Share) → j < length ss → low < (get_or ss j d).tenths
above_low low [] h j d inside = absurd (omega arith)
above_low low (s ∷ ss) h zero d inside = h.0
above_low low (s ∷ ss) h (suc j) d inside = omega (arith, h.0, above_low s.tenths ss h.1 j d (omega arith))

tenths_rise : (low : ℕ) (ss : List Share) → RiseFrom low ss → (i j : ℕ) (d : Share) → i < j → j < length ss → (get_or ss i d).tenths < (get_or ss j d).tenths
tenths_rise low [] h i j d order inside = absurd (omega arith)
tenths_rise low (s ∷ ss) h i zero d order inside = absurd (omega arith)
tenths_rise low (s ∷ ss) h zero (suc j) d order inside = above_low s.tenths ss h.1 j d (omega arith)
tenths_rise low (s ∷ ss) h (suc i) (suc j) d order inside = tenths_rise s.tenths ss h.1 i j d (omega arith) (omega arith)

pub share_ranks_rise : (n i j : ℕ) (d : Share) → 1000 ≤ n → i < j → j < 15 → rank_of (get_or shares i d).tenths n < rank_of (get_or shares j d).tenths n
share_ranks_rise n i j d many order inside = rank_below (get_or shares i d).tenths (get_or shares j d).tenths n many (tenths_rise 0 shares standard_rise i j d order inside)

-- ---- the percentiles among the levels of marked buckets

nat_less : (x y : ℕ) → int_lt (pos x) (pos y) ≡ nat_lt x y
nat_less x y = grind (arith, ints, nat_tests)

kept_level : (bucket : ℕ → ℕ) → DoesRise bucket → (levels : List ℕ) (marks : List Bool) (low rank kept : ℕ) (v : ℤ) → IsKeptRank bucket levels marks low rank kept
    → HasRank int_lt kept (map pos (kept_of bucket marks levels)) v → HasRank int_lt rank (map pos levels) v
kept_level bucket up levels marks low rank kept v h r =
    let x = rank_from_made nat_lt int_lt pos nat_less kept (kept_of bucket marks levels) v 0 r in
    let full = rank_made nat_lt int_lt pos nat_less rank levels x.0 (kept_rank_is bucket up levels marks low rank kept x.0 h x.2) in
    subst (λ (z : ℤ). HasRank int_lt rank (map pos levels) z) x.1 full

-- their sum is that of all levels
pub kept_sum : (bucket : ℕ → ℕ) → DoesRise bucket → (levels : List ℕ) (marks : List Bool) (qs : List RankedShare) (ss : List Share) (sum : ℤ)
    → AllZip (IsKeptShare bucket levels marks 0) qs ss → IsRankedSum qs (map pos (kept_of bucket marks levels)) sum → IsWeightedSum (length levels) ss (map pos levels) sum
kept_sum bucket up levels marks [] [] sum kept h = h
kept_sum bucket up levels marks [] (s ∷ ss) sum kept h = absurd kept
kept_sum bucket up levels marks (q ∷ qs) [] sum kept h = absurd kept
kept_sum bucket up levels marks (q ∷ qs) (s ∷ ss) sum kept h = (
  h.0,
  kept_level bucket up levels marks 0 (rank_of s.tenths (length levels)) q.rank h.0 kept.0.rank h.1,
  subst (λ (t : Share). IsWeightedSum (length levels) ss (map pos levels) (sum -ℤ pos t.weight *ℤ h.0)) kept.0.share
      (kept_sum bucket up levels marks qs ss (sum -ℤ pos q.share.weight *ℤ h.0) kept.1 h.2),
)

-- from the place of a walk down to the first bucket
pub kept_shares_are : (bucket : ℕ → ℕ) (levels : List ℕ) (marks : List Bool) (low : ℕ) (qs : List RankedShare) → length qs ≡ 15
    → ((k : ℕ) (d : RankedShare) (s : Share) → k < 15 → IsKeptShare bucket levels marks low (get_or qs k d) (get_or shares k s)) → AllZip (IsKeptShare bucket levels marks 0) qs shares
kept_shares_are bucket levels marks low qs long each =
    AllZip-from_get_or (IsKeptShare bucket levels marks 0) qs shares long
    (λ k d s inside.
    let here = each k d s (omega (arith, inside, long)) in
    let r = here.rank in
    record {
      share = here.share;
      rank = record { place = r.place; from = omega arith; marked = r.marked; above = r.above; within = r.within; lessened = r.lessened };
    })

-- a share more, whose bucket was marked
pub kept_shares_more : (bucket : ℕ → ℕ) (levels : List ℕ) (marks more : List Bool) (low next i : ℕ) (qs : List RankedShare) (q : RankedShare) (e : Share) → length qs ≡ 15 → i < 15
    → ((k : ℕ) (d : RankedShare) (s : Share) → k < i → IsKeptShare bucket levels marks low (get_or qs k d) (get_or shares k s))
    → ((r k : ℕ) → IsKeptRank bucket levels marks low r k → IsKeptRank bucket levels more next r k)
    → q.share ≡ get_or shares i e → IsKeptRank bucket levels more next (rank_of q.share.tenths (length levels)) q.rank
    → (k : ℕ) (d : RankedShare) (s : Share) → k < i + 1 → IsKeptShare bucket levels more next (get_or (set qs i q) k d) (get_or shares k s)
kept_shares_more bucket levels marks more low next i qs q e long inside each on share rank k d s less =
    ⊎_elim
    (λ before.
    let old = each k d s before in
    let new : IsKeptShare bucket levels more next (get_or qs k d) (get_or shares k s) = record { share = old.share; rank = on _ _ old.rank } in
    subst (λ (t : RankedShare). IsKeptShare bucket levels more next t (get_or shares k s)) (sym (get_or-set_other qs i k q d (λ e. omega (arith, e, before)))) new)
    (λ least.
    let here : k ≡ i = omega (arith, less, least) in
    let at = share ∙ get_or_default shares i e s inside in
    let new : IsKeptShare bucket levels more next q (get_or shares i s) = record { share = at; rank = subst (λ (t : Share). IsKeptRank bucket levels more next (rank_of t.tenths (length levels)) q.rank) at rank } in
    let whole = subst (λ (t : RankedShare). IsKeptShare bucket levels more next t (get_or shares i s)) (sym (get_or-set_same qs i q d (omega (arith, inside, long)))) new in
    subst (λ (j : ℕ). IsKeptShare bucket levels more next (get_or (set qs i q) j d) (get_or shares j s)) (sym here) whole)
    (cases_lt k i)

pub kept_shares : (bucket : ℕ → ℕ) (levels : List ℕ) (marks : List Bool) (qs : List RankedShare) → AllZip (IsKeptShare bucket levels marks 0) qs shares → All (λ q. IsShare q.share) qs
kept_shares bucket levels marks qs kept = λ k d inside.
    let here = AllZip-get_or (IsKeptShare bucket levels marks 0) qs shares k d (share 0 0) kept inside in
    subst IsShare (sym here.share) (all_shares k (share 0 0) (omega (arith, inside, AllZip-length (IsKeptShare bucket levels marks 0) qs shares kept)))

pub kept_ranks : (bucket : ℕ → ℕ) (levels : List ℕ) (marks : List Bool) (qs : List RankedShare) → AllZip (IsKeptShare bucket levels marks 0) qs shares
    → All (IsRankIn (kept_of bucket marks levels)) qs
kept_ranks bucket levels marks qs kept = λ k d inside.
    let here = AllZip-get_or (IsKeptShare bucket levels marks 0) qs shares k d (share 0 0) kept inside in
    let within = kept_rank_in bucket levels marks 0 _ _ here.rank in
    record { low = within.0; high = within.1 }

pub kept_rise : (bucket : ℕ → ℕ) (levels : List ℕ) (marks : List Bool) (qs : List RankedShare) → 1000 ≤ length levels → AllZip (IsKeptShare bucket levels marks 0) qs shares → DoRise qs
kept_rise bucket levels marks qs many kept = record {
  rise = λ i j d order inside.
      (let long = AllZip-length (IsKeptShare bucket levels marks 0) qs shares kept in
      let a = AllZip-get_or (IsKeptShare bucket levels marks 0) qs shares i d (share 0 0) kept (omega (arith, order, inside)) in
      let b = AllZip-get_or (IsKeptShare bucket levels marks 0) qs shares j d (share 0 0) kept inside in
      kept_ranks_rise bucket levels marks 0 0 _ _ _ _ a.rank b.rank (share_ranks_rise (length levels) i j (share 0 0) many order (omega (arith, inside, long))));
}
