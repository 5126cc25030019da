-- Levels in buckets: how many are in each, in which one the level of a rank is, and its rank among the levels of marked buckets.
use Rattle.std.proofs.Common.{◌≡◌, ℕ, ◌+◌, ◌/◌, ◌^◌, ◌<◌, ◌≤◌, ◌==◌, nat_lt, nat_le, Bool, true, false, not, ◌&&◌, cond, List, length, set, get_or, take, replicate, sym, ap, subst, ◌∙◌, ⊎_elim, arith}
use Rattle.std.specs.List.{count_by}
use Rattle.std.proofs.lemmas.Bool.{both_ways, cases_lt, cases_Bool, cases_eq, eqb-true, eq-eqb, ne_eqb, le-leb, ltb-true, and_left, and_right, false_from_ne_true}
use Rattle.std.proofs.lemmas.Bool.Decides.{nat_tests}
use Rattle.std.proofs.lemmas.List.{length-set, length-take, take-set, set-get_or, drop-set-lt, length-replicate, get_or-replicate, get_or_past, get_or-set_same, get_or-set_other}
use Rattle.std.proofs.lemmas.List.Elements.{All-weaker, filter_passes}
use Rattle.std.proofs.lemmas.List.Filters.{FiltersInPlace, FiltersInPlace-more_set, FiltersInPlace-more_no}
use Rattle.std.proofs.lemmas.List.Sums.{count_by-le-length, count_by_more_yes, count_by_more_no, length-filter}
use Rattle.std.proofs.lemmas.Nat.{div-add-mod', le-div, pow_pos}
use Rattle.flk_stat.specs.Rank.{HasRank}
use Rattle.flk_stat.specs.Buckets.{bucket_of, count_in, count_above, is_marked, kept_of, IsKeptRank}
use Rattle.flk_stat.proofs.CountLemmas.{count_none, count_all, count_implies, count_same, count_split, count_filtered}
use Rattle.flk_stat.proofs.RankLemmas.{IsOrder, rank_dropped}

pub nat_order : IsOrder nat_lt
nat_order = record {
  irreflexive = λ x. grind (arith, nat_tests);
  transitive = λ x y z h k. grind (arith, nat_tests, h, k);
  through = λ x y z h k. grind (arith, nat_tests, h, k);
}

-- ---- buckets

-- a greater bucket has greater levels
pub record DoesRise (bucket : ℕ → ℕ) : Type 0 where
  pub rises : (x y : ℕ) → x ≤ y → bucket x ≤ bucket y

quotient_rises : (k x y : ℕ) → 0 < k → x ≤ y → x / k ≤ y / k
quotient_rises k x y some order = le-div (x / k) y k some (let e = div-add-mod' x k in omega (arith, e, order))

pub bucket_rises : (shift : ℕ) → DoesRise (bucket_of shift)
bucket_rises shift = record { rises = λ x y order. (let q = quotient_rises (2 ^ shift) x y (pow_pos shift) order in omega (arith, q)) }

-- ---- how many levels are in a bucket and above it

-- those from a bucket on
from_bucket : (bucket : ℕ → ℕ) (levels : List ℕ) (j : ℕ) → count_by (λ x. nat_le j (bucket x)) levels ≡ count_above bucket levels j + count_in bucket levels j
from_bucket bucket levels j = count_split (λ x. nat_le j (bucket x)) (λ x. nat_lt j (bucket x)) (λ x. bucket x == j) (λ x. grind (arith, nat_tests)) levels

pub counted_within : (bucket : ℕ → ℕ) (levels : List ℕ) (j : ℕ) → count_above bucket levels j + count_in bucket levels j ≤ length levels
counted_within bucket levels j = omega (arith, from_bucket bucket levels j, count_by-le-length (λ x. nat_le j (bucket x)) levels)

-- a lesser bucket has all of those above it
counted_above : (bucket : ℕ → ℕ) (levels : List ℕ) (i j : ℕ) → i < j → count_above bucket levels j + count_in bucket levels j ≤ count_above bucket levels i
counted_above bucket levels i j order =
    let n = count_implies (λ x. nat_le j (bucket x)) (λ x. nat_lt i (bucket x)) (λ x h. grind (arith, nat_tests, order, h)) levels in
    omega (arith, from_bucket bucket levels j, n)

-- the next lesser bucket
pub counted_below : (bucket : ℕ → ℕ) (levels : List ℕ) (j : ℕ) → count_above bucket levels j ≡ count_above bucket levels (j + 1) + count_in bucket levels (j + 1)
counted_below bucket levels j =
    count_split (λ x. nat_lt j (bucket x)) (λ x. nat_lt (j + 1) (bucket x)) (λ x. bucket x == j + 1) (λ x. grind (arith, nat_tests)) levels

-- the first bucket has all others above it
pub counted_all : (bucket : ℕ → ℕ) (levels : List ℕ) → length levels ≤ count_above bucket levels 0 + count_in bucket levels 0
counted_all bucket levels =
    let all = count_all (λ x. nat_le 0 (bucket x)) levels (λ k d less. le-leb 0 (bucket (get_or levels k d)) (omega arith)) in
    omega (arith, from_bucket bucket levels 0, all)

-- the last bucket has none above it
pub none_above : (shift : ℕ) (levels : List ℕ) → count_above (bucket_of shift) levels 4095 ≡ 0
none_above shift levels = count_none (λ x. nat_lt 4095 (bucket_of shift x)) levels (λ k d less. grind (arith, nat_tests))

-- ---- the levels of marked buckets

abbrev dropped_above : (bucket : ℕ → ℕ) → List ℕ → List Bool → ℕ → ℕ
dropped_above bucket levels marks j = count_by (λ x. not (is_marked marks (bucket x)) && nat_lt j (bucket x)) levels

above_both : (bucket : ℕ → ℕ) (levels : List ℕ) (marks : List Bool) (j : ℕ)
    → count_above bucket levels j ≡ count_above bucket (kept_of bucket marks levels) j + dropped_above bucket levels marks j
above_both bucket levels marks j = count_filtered (λ x. is_marked marks (bucket x)) (λ x. nat_lt j (bucket x)) levels

pub kept_above_few : (bucket : ℕ → ℕ) (levels : List ℕ) (marks : List Bool) (j : ℕ) → count_above bucket (kept_of bucket marks levels) j ≤ count_above bucket levels j
kept_above_few bucket levels marks j = omega (arith, above_both bucket levels marks j)

-- all of a marked bucket
pub all_kept : (bucket : ℕ → ℕ) (levels : List ℕ) (marks : List Bool) (j : ℕ) → is_marked marks j ≡ true → count_in bucket (kept_of bucket marks levels) j ≡ count_in bucket levels j
all_kept bucket levels marks j marked =
    let both = count_filtered (λ x. is_marked marks (bucket x)) (λ x. bucket x == j) levels in
    let none = count_none (λ x. not (is_marked marks (bucket x)) && (bucket x == j)) levels
    (λ k d less.
    let b = bucket (get_or levels k d) in
    ⊎_elim
    (λ yes. and_left (not (is_marked marks b)) (b == j) (ap not (ap (is_marked marks) (eqb-true b j yes) ∙ marked)))
    (λ no. and_right (not (is_marked marks b)) (b == j) no)
    (cases_Bool (b == j))) in
    omega (arith, both, none)

-- none of another
pub none_kept : (bucket : ℕ → ℕ) (levels : List ℕ) (marks : List Bool) (j : ℕ) → is_marked marks j ≡ false → count_in bucket (kept_of bucket marks levels) j ≡ 0
none_kept bucket levels marks j free =
    count_none (λ x. bucket x == j) (kept_of bucket marks levels)
    (All-weaker (λ x. is_marked marks (bucket x) ≡ true) (λ x. (bucket x == j) ≡ false)
    (λ x kept. false_from_ne_true (bucket x == j) (λ same. both_ways (is_marked marks j) free (sym (ap (is_marked marks) (eqb-true (bucket x) j same)) ∙ kept)))
    (kept_of bucket marks levels) (filter_passes (λ x. is_marked marks (bucket x)) levels))

-- a mark at or below a bucket changes nothing above it
pub marked_below : (bucket : ℕ → ℕ) (levels : List ℕ) (marks : List Bool) (i j : ℕ) → i ≤ j
    → count_above bucket (kept_of bucket (set marks i true) levels) j ≡ count_above bucket (kept_of bucket marks levels) j
marked_below bucket levels marks i j order =
    let same = count_same (λ x. not (is_marked (set marks i true) (bucket x)) && nat_lt j (bucket x)) (λ x. not (is_marked marks (bucket x)) && nat_lt j (bucket x))
    (λ x.
    let b = bucket x in
    ⊎_elim
    (λ above.
    let other : b ≡ i → ⊥ = λ e. (let less = ltb-true j b above in omega (arith, e, less, order)) in
    ap (λ (m : Bool). not m && nat_lt j b) (get_or-set_other marks i b true false other))
    (λ no. and_right (not (is_marked (set marks i true) b)) (nat_lt j b) no ∙ sym (and_right (not (is_marked marks b)) (nat_lt j b) no))
    (cases_Bool (nat_lt j b)))
    levels in
    omega (arith, same, above_both bucket levels marks j, above_both bucket levels (set marks i true) j)

-- ---- the level of a rank

-- its bucket, by the levels in it and above it
bucket_of_rank : (bucket : ℕ → ℕ) → DoesRise bucket → (levels : List ℕ) (j k x : ℕ) → count_above bucket levels j < k → k ≤ count_above bucket levels j + count_in bucket levels j
    → HasRank nat_lt k levels x → bucket x ≡ j
bucket_of_rank bucket up levels j k x above within r =
    ⊎_elim
    (λ below.
    let n = count_implies (λ y. nat_le j (bucket y)) (λ y. nat_lt x y)
    (λ y h. ⊎_elim (λ less. grind (arith, nat_tests, less)) (λ most. (let order = up.rises y x most in absurd (grind (arith, nat_tests, order, below, h)))) (cases_lt x y)) levels in
    absurd (omega (arith, n, from_bucket bucket levels j, within, r.few_above)))
    (λ least.
    ⊎_elim
    (λ over.
    let n = count_implies (λ y. not (nat_lt y x)) (λ y. nat_lt j (bucket y))
    (λ y h. ⊎_elim (λ less. absurd (grind (arith, nat_tests, less, h))) (λ most. (let order = up.rises x y most in grind (arith, nat_tests, order, over))) (cases_lt y x)) levels in
    absurd (omega (arith, n, above, r.enough_at)))
    (λ most. omega (arith, least, most))
    (cases_lt j (bucket x)))
    (cases_lt (bucket x) j)

-- of two levels in other buckets the greater is the one in the greater bucket
order_by_bucket : (bucket : ℕ → ℕ) → DoesRise bucket → (x y : ℕ) → (bucket y ≡ bucket x → ⊥) → nat_lt x y ≡ nat_lt (bucket x) (bucket y)
order_by_bucket bucket up x y other =
    ⊎_elim
    (λ less. (let order = up.rises x y (omega (arith, less)) in grind (arith, nat_tests, order, less, other)))
    (λ most. (let order = up.rises y x most in grind (arith, nat_tests, order, most, other)))
    (cases_lt x y)

-- the levels of no marked bucket that are above a level of a marked one are those in greater buckets
dropped_over : (bucket : ℕ → ℕ) → DoesRise bucket → (levels : List ℕ) (marks : List Bool) (x : ℕ) → is_marked marks (bucket x) ≡ true
    → count_by (λ y. not (is_marked marks (bucket y)) && nat_lt x y) levels ≡ dropped_above bucket levels marks (bucket x)
dropped_over bucket up levels marks x marked =
    count_same (λ y. not (is_marked marks (bucket y)) && nat_lt x y) (λ y. not (is_marked marks (bucket y)) && nat_lt (bucket x) (bucket y))
    (λ y.
    let m = is_marked marks (bucket y) in
    ⊎_elim
    (λ yes. and_left (not m) (nat_lt x y) (ap not yes) ∙ sym (and_left (not m) (nat_lt (bucket x) (bucket y)) (ap not yes)))
    (λ no. ap (λ (t : Bool). not m && t) (order_by_bucket bucket up x y (λ e. both_ways m no (ap (is_marked marks) e ∙ marked))))
    (cases_Bool m))
    levels

-- So the level of the lessened rank among those of marked buckets is the one of the rank among all.
pub kept_rank_is : (bucket : ℕ → ℕ) → DoesRise bucket → (levels : List ℕ) (marks : List Bool) (low rank kept x : ℕ) → IsKeptRank bucket levels marks low rank kept
    → HasRank nat_lt kept (kept_of bucket marks levels) x → HasRank nat_lt rank levels x
kept_rank_is bucket up levels marks low rank kept x h r =
    let few = kept_of bucket marks levels in
    let all = all_kept bucket levels marks h.place h.marked in
    let here = bucket_of_rank bucket up few h.place kept x (omega (arith, h.above, h.lessened)) (omega (arith, h.within, h.lessened, all)) r in
    let both = above_both bucket levels marks h.place in
    let over = dropped_over bucket up levels marks x (ap (is_marked marks) here ∙ h.marked) ∙ ap (dropped_above bucket levels marks) here in
    let full = rank_dropped nat_lt nat_order (λ y. is_marked marks (bucket y)) kept levels x r in
    subst (λ (k : ℕ). HasRank nat_lt k levels x) (omega (arith, over, both, h.lessened)) full

-- ---- ranks among the levels of marked buckets

-- one of them has the rank
pub kept_rank_in : (bucket : ℕ → ℕ) (levels : List ℕ) (marks : List Bool) (low rank kept : ℕ) → IsKeptRank bucket levels marks low rank kept
    → (0 < kept) × (kept ≤ length (kept_of bucket marks levels))
kept_rank_in bucket levels marks low rank kept h =
    let all = all_kept bucket levels marks h.place h.marked in
    let most = counted_within bucket (kept_of bucket marks levels) h.place in
    (omega (arith, h.above, h.lessened), omega (arith, h.within, h.lessened, all, most))

-- the bucket of a greater rank is no greater one
place_falls : (bucket : ℕ → ℕ) (levels : List ℕ) (marks : List Bool) (low next r s k l : ℕ) (a : IsKeptRank bucket levels marks low r k) (b : IsKeptRank bucket levels marks next s l)
    → r < s → b.place ≤ a.place
place_falls bucket levels marks low next r s k l a b order =
    ⊎_elim
    (λ higher. (let n = counted_above bucket levels a.place b.place higher in absurd (omega (arith, n, order, a.above, b.within))))
    (λ most. most)
    (cases_lt a.place b.place)

pub kept_ranks_rise : (bucket : ℕ → ℕ) (levels : List ℕ) (marks : List Bool) (low next r s k l : ℕ) → IsKeptRank bucket levels marks low r k → IsKeptRank bucket levels marks next s l
    → r < s → k < l
kept_ranks_rise bucket levels marks low next r s k l a b order =
    let few = kept_of bucket marks levels in
    ⊎_elim
    (λ lower.
    let n = counted_above bucket few b.place a.place lower in
    let all = all_kept bucket levels marks a.place a.marked in
    omega (arith, n, all, a.within, a.lessened, b.above, b.lessened))
    (λ least.
    let most = place_falls bucket levels marks low next r s k l a b order in
    let same : a.place ≡ b.place = omega (arith, least, most) in
    let above = ap (count_above bucket levels) same in
    let kept = ap (count_above bucket few) same in
    omega (arith, above, kept, order, a.lessened, b.lessened))
    (cases_lt b.place a.place)

-- one mark more, at or below
pub kept_rank_on : (bucket : ℕ → ℕ) (levels : List ℕ) (marks : List Bool) (low next rank kept : ℕ) → next ≤ low → next < length marks → IsKeptRank bucket levels marks low rank kept
    → IsKeptRank bucket levels (set marks next true) next rank kept
kept_rank_on bucket levels marks low next rank kept below inside h =
    let order : next ≤ h.place = omega (arith, below, h.from) in
    record {
      place = h.place;
      from = order;
      marked =
          ⊎_elim
          (λ same. ap (λ (i : ℕ). is_marked (set marks next true) i) same ∙ get_or-set_same marks next true false inside)
          (λ other. get_or-set_other marks next h.place true false other ∙ h.marked)
          (cases_eq h.place next);
      above = h.above;
      within = h.within;
      lessened = omega (arith, h.lessened, marked_below bucket levels marks next h.place order);
    }

-- the rank whose bucket was just marked
pub kept_rank_new : (bucket : ℕ → ℕ) (levels : List ℕ) (marks : List Bool) (place rank kept : ℕ) → place < length marks → count_above bucket levels place < rank
    → rank ≤ count_above bucket levels place + count_in bucket levels place → kept + count_above bucket levels place ≡ rank + count_above bucket (kept_of bucket marks levels) place
    → IsKeptRank bucket levels (set marks place true) place rank kept
kept_rank_new bucket levels marks place rank kept inside above within lessened = record {
  place = place;
  from = omega arith;
  marked = get_or-set_same marks place true false inside;
  above = above;
  within = within;
  lessened = omega (arith, lessened, marked_below bucket levels marks place place (omega arith));
}

-- ---- passes over the levels

-- a level more is counted
pub counted_more : (bucket : ℕ → ℕ) (levels counts : List ℕ) (i : ℕ) → i < length levels → bucket (get_or levels i 0) < length counts
    → ((j : ℕ) → get_or counts j 0 ≡ count_in bucket (take i levels) j)
    → (j : ℕ) → get_or (set counts (bucket (get_or levels i 0)) (get_or counts (bucket (get_or levels i 0)) 0 + 1)) j 0 ≡ count_in bucket (take (i + 1) levels) j
counted_more bucket levels counts i inside fits counted j =
    let b = bucket (get_or levels i 0) in
    ⊎_elim
    (λ here.
    let yes = count_by_more_yes (λ x. bucket x == j) levels i 0 inside (eq-eqb b j (sym here)) in
    let new = ap (λ (k : ℕ). get_or (set counts b (get_or counts b 0 + 1)) k 0) here ∙ get_or-set_same counts b (get_or counts b 0 + 1) 0 fits in
    let old = ap (λ (k : ℕ). get_or counts k 0) here in
    omega (arith, yes, new, old, counted j))
    (λ other.
    let no = count_by_more_no (λ x. bucket x == j) levels i 0 inside (ne_eqb b j (λ e. other (sym e))) in
    omega (arith, no, get_or-set_other counts b j (get_or counts b 0 + 1) 0 other, counted j))
    (cases_eq j b)

-- no level is counted yet
pub none_counted : (n j none : ℕ) → get_or (replicate n none) j none ≡ none
none_counted n j none =
    ⊎_elim (λ here. get_or-replicate n j none none here) (λ past. get_or_past (replicate n none) j none (omega (arith, past, length-replicate n none))) (cases_lt j n)

-- at most all levels so far
pub counted_few : (bucket : ℕ → ℕ) (levels : List ℕ) (i j : ℕ) → count_in bucket (take i levels) j ≤ i
counted_few bucket levels i j = omega (arith, count_by-le-length (λ x. bucket x == j) (take i levels), length-take i levels)

-- a write in front of what is read, and one place more where it passes
pub filtered_more : (p : ℕ → Bool) (xs ys : List ℕ) (k i x n : ℕ) → FiltersInPlace p xs ys k i → i < length ys → x ≡ get_or ys i x → n ≡ k + cond (p x) 1 0
    → FiltersInPlace p xs (set ys k x) n (i + 1)
filtered_more p xs ys k i x n h inside read is =
    ⊎_elim
    (λ yes.
    let next : n ≡ k + 1 = is ∙ ap (λ (b : Bool). k + cond b 1 0) yes in
    subst (λ (m : ℕ). FiltersInPlace p xs (set ys k x) m (i + 1)) (sym next) (FiltersInPlace-more_set h inside yes read))
    (λ no.
    let next : n ≡ k = omega (arith, is ∙ ap (λ (b : Bool). k + cond b 1 0) no) in
    subst (λ (m : ℕ). FiltersInPlace p xs (set ys k x) m (i + 1)) (sym next)
    (⊎_elim
    (λ front.
    let still : FiltersInPlace p xs (set ys k x) k i = record {
      front = take-set ys k x ∙ h.front;
      rest = drop-set-lt i ys k x front ∙ h.rest;
      behind = h.behind;
      within = h.within;
      long = length-set ys k x ∙ h.long;
    } in
    FiltersInPlace-more_no still (omega (arith, inside, length-set ys k x)) no (read ∙ sym (get_or-set_other ys k i x x (λ e. (let l : k < i = front in omega (arith, e, l))))))
    (λ most.
    let here : k ≡ i = omega (arith, most, h.behind) in
    let same : set ys k x ≡ ys = ap (λ (y : ℕ). set ys k y) (read ∙ ap (λ (j : ℕ). get_or ys j x) (sym here)) ∙ set-get_or ys k x in
    subst (λ (zs : List ℕ). FiltersInPlace p xs zs k (i + 1)) (sym same) (FiltersInPlace-more_no h inside no read))
    (cases_lt k i)))
    (cases_Bool (p x))

-- few are kept
pub kept_few : (bucket : ℕ → ℕ) (levels : List ℕ) (marks : List Bool) → length (kept_of bucket marks levels) ≤ length levels
kept_few bucket levels marks =
    omega (arith, length-filter (λ x. is_marked marks (bucket x)) levels, count_by-le-length (λ x. is_marked marks (bucket x)) levels)
