-- Ranks by any order: two lists whose ranks clash, ranks of a list in another order, and that a list has a number of each rank.
use Rattle.std.proofs.Common.{◌≡◌, ℕ, zero, suc, ◌+◌, ◌<◌, ◌≤◌, Bool, true, false, not, ◌&&◌, cond, List, [], ◌∷◌, length, map, refl, sym, ap, subst, ◌∙◌, ⊎_elim, arith}
use Rattle.std.specs.List.{AllZip, Contains, count_by, filter}
use Rattle.std.specs.List.Sorted.{IsPermutation}
use Rattle.std.proofs.lemmas.Bool.{true≢false, cases_lt, and_parts, and_from}
use Rattle.std.proofs.lemmas.List.Elements.{All-filter, All-contains, All-contains_itself}
use Rattle.std.proofs.lemmas.List.Sums.{count_by-le-length}
use Rattle.std.proofs.lemmas.List.Sorted.{sum_by-IsPermutation, Contains-permutation}
use Rattle.flk_exact.proofs.ListLemmas.{AllZip-weaker, Contains-map, Contains-from_map}
use Rattle.flk_stat.specs.Rank.{HasRank}
use Rattle.flk_stat.proofs.CountLemmas.{count_zip, count_made, count_implies, count_filtered, count_yes, count_no, count_more}

pub by_truth : {P : Type 0} (b : Bool) → (b ≡ true → P) → (b ≡ false → P) → P
by_truth true t f = t refl
by_truth false t f = f refl

pub not-true : (b : Bool) → not b ≡ true → b ≡ false
not-true b h = by_truth b (λ yes. absurd (true≢false (sym h ∙ ap not yes))) (λ no. no)

-- Were each fellow of a member that is not less than v above w, at least k members would be the one and fewer than k the other.
pub rank_clash : {A B P : Type 0} (less : A → A → Bool) (under : B → B → Bool) (k : ℕ) (xs : List A) (ys : List B) (v : A) (w : B)
    → AllZip (λ x y. less x v ≡ false → under w y ≡ true) xs ys → HasRank less k xs v → HasRank under k ys w → P
rank_clash less under k xs ys v w pairs a b =
    let n = count_zip (λ x. not (less x v)) (λ y. under w y) xs ys
    (AllZip-weaker (λ x y. less x v ≡ false → under w y ≡ true) (λ x y. not (less x v) ≡ true → under w y ≡ true) (λ x y h at. h (not-true (less x v) at)) xs ys pairs) in
    absurd (omega (arith, a.enough_at, b.few_above, n))

pub AllZip-itself : {A : Type 0} (R : A → A → Type 0) → ((x : A) → R x x) → (xs : List A) → AllZip R xs xs
AllZip-itself R h [] = tt
AllZip-itself R h (x ∷ xs) = (h x, AllZip-itself R h xs)

-- ranks do not see the order of a list
pub rank-permutation : {A : Type 0} (less : A → A → Bool) (k : ℕ) (xs ys : List A) (v : A) → IsPermutation xs ys → HasRank less k xs v → HasRank less k ys v
rank-permutation less k xs ys v h r = record {
  member = Contains-permutation xs ys v h r.member;
  few_above = (let e = sum_by-IsPermutation (λ x. cond (less v x) 1 0) xs ys h in omega (arith, e, r.few_above));
  enough_at = (let e = sum_by-IsPermutation (λ x. cond (not (less x v)) 1 0) xs ys h in omega (arith, e, r.enough_at));
}

-- ranks of what is made of the items, where that keeps the order
pub rank_made : {A B : Type 0} (less : A → A → Bool) (under : B → B → Bool) (f : A → B) → ((x y : A) → under (f x) (f y) ≡ less x y)
    → (k : ℕ) (xs : List A) (v : A) → HasRank less k xs v → HasRank under k (map f xs) (f v)
rank_made less under f same k xs v r = record {
  member = Contains-map f xs v r.member;
  few_above = (let n = count_made (λ y. under (f v) y) (λ x. less v x) f (λ x. same v x) xs in omega (arith, n, r.few_above));
  enough_at = (let n = count_made (λ y. not (under y (f v))) (λ x. not (less x v)) f (λ x. ap not (same x v)) xs in omega (arith, n, r.enough_at));
}

-- and back
pub rank_from_made : {A B : Type 0} (less : A → A → Bool) (under : B → B → Bool) (f : A → B) → ((x y : A) → under (f x) (f y) ≡ less x y)
    → (k : ℕ) (xs : List A) (w : B) (d : A) → HasRank under k (map f xs) w → (v : A) × (f v ≡ w) × HasRank less k xs v
rank_from_made less under f same k xs w d r =
    let m = Contains-from_map f xs w d r.member in
    let v = m.0 in
    let here : HasRank under k (map f xs) (f v) = subst (λ y. HasRank under k (map f xs) y) (sym m.2) r in (
      v,
      m.2,
      record {
        member = m.1;
        few_above = (let n = count_made (λ y. under (f v) y) (λ x. less v x) f (λ x. same v x) xs in omega (arith, n, here.few_above));
        enough_at = (let n = count_made (λ y. not (under y (f v))) (λ x. not (less x v)) f (λ x. ap not (same x v)) xs in omega (arith, n, here.enough_at));
      },
    )

-- ---- a number of each rank, by adding the items one after the other

-- an order that is total: of two, neither of which is less, each stands where the other does
pub record IsOrder {A : Type 0} (less : A → A → Bool) : Type 0 where
  pub irreflexive : (x : A) → less x x ≡ false
  pub transitive : (x y z : A) → less x y ≡ true → less y z ≡ true → less x z ≡ true
  pub through : (x y z : A) → less x y ≡ true → less z y ≡ false → less x z ≡ true

there : {A : Type 0} (x : A) (xs : List A) (v : A) → Contains xs v → Contains (x ∷ xs) v
there x xs v h = (suc h.0, omega (arith, h.1), h.2)

-- the item x is above the one of rank k of the others: this one falls by one
rank_pushed : {A : Type 0} (less : A → A → Bool) → IsOrder less → (k : ℕ) (x : A) (xs : List A) (a : A) → less a x ≡ true → HasRank less k xs a → HasRank less (suc k) (x ∷ xs) a
rank_pushed less o k x xs a above r =
    let back : less x a ≡ false = by_truth (less x a) (λ yes. absurd (true≢false (sym (o.transitive x a x yes above) ∙ o.irreflexive x))) (λ no. no) in
    record {
      member = there x xs a r.member;
      few_above = omega (arith, count_yes (λ y. less a y) x xs above, r.few_above);
      enough_at = omega (arith, count_yes (λ y. not (less y a)) x xs (ap not back), r.enough_at);
    }

-- x is not above it: it keeps its rank
rank_kept : {A : Type 0} (less : A → A → Bool) (k : ℕ) (x : A) (xs : List A) (b : A) → less b x ≡ false → HasRank less k xs b → HasRank less k (x ∷ xs) b
rank_kept less k x xs b within r = record {
  member = there x xs b r.member;
  few_above = omega (arith, count_no (λ y. less b y) x xs within, r.few_above);
  enough_at = omega (arith, count_more (λ y. not (less y b)) x xs, r.enough_at);
}

-- fewer than k are above x, and at least one less than k are x or greater: x has rank k
rank_taken : {A : Type 0} (less : A → A → Bool) → IsOrder less → (k : ℕ) (x : A) (xs : List A) → count_by (λ y. less x y) xs < suc k → k ≤ count_by (λ y. not (less y x)) xs
    → HasRank less (suc k) (x ∷ xs) x
rank_taken less o k x xs few enough = record {
  member = (0, omega arith, refl);
  few_above = omega (arith, count_no (λ y. less x y) x xs (o.irreflexive x), few);
  enough_at = omega (arith, count_yes (λ y. not (less y x)) x xs (ap not (o.irreflexive x)), enough);
}

-- b has rank k and is below x: fewer than k are above x
few_above_it : {A : Type 0} (less : A → A → Bool) → IsOrder less → (k : ℕ) (x : A) (xs : List A) (b : A) → less b x ≡ true → HasRank less k xs b → count_by (λ y. less x y) xs < k
few_above_it less o k x xs b above r = omega (arith, count_implies (λ y. less x y) (λ y. less b y) (λ y h. o.transitive b x y above h) xs, r.few_above)

-- a has rank k and is not below x: at least k are x or greater
enough_at_it : {A : Type 0} (less : A → A → Bool) → IsOrder less → (k : ℕ) (x : A) (xs : List A) (a : A) → less a x ≡ false → HasRank less k xs a → k ≤ count_by (λ y. not (less y x)) xs
enough_at_it less o k x xs a within r =
    let n = count_implies (λ y. not (less y a)) (λ y. not (less y x))
    (λ y h. by_truth (less y x) (λ yes. absurd (true≢false (sym h ∙ ap not (o.through y x a yes within)))) (λ no. ap not no)) xs in
    omega (arith, n, r.enough_at)

-- the number of rank k of a list with one item more, where there is one of rank k - 1, if any, and one of rank k, if any
rank_more : {A : Type 0} (less : A → A → Bool) → IsOrder less → (k : ℕ) (x : A) (xs : List A) → k ≤ length xs → ((j : ℕ) → 0 < j → j ≤ length xs → (v : A) × HasRank less j xs v)
    → k ≤ count_by (λ y. not (less y x)) xs → (v : A) × HasRank less (suc k) (x ∷ xs) v
rank_more less o k x xs fits ranks enough =
    ⊎_elim
    (λ less_than.
    let b = ranks (suc k) (omega arith) (omega (arith, less_than)) in
    by_truth (less b.0 x)
    (λ yes. (x, rank_taken less o k x xs (few_above_it less o (suc k) x xs b.0 yes b.1) enough))
    (λ no. (b.0, rank_kept less (suc k) x xs b.0 no b.1)))
    (λ last. (x, rank_taken less o k x xs (omega (arith, last, fits, count_by-le-length (λ y. less x y) xs)) enough))
    (cases_lt k (length xs))

pub rank_exists : {A : Type 0} (less : A → A → Bool) → IsOrder less → (k : ℕ) (xs : List A) → 0 < k → k ≤ length xs → (v : A) × HasRank less k xs v
rank_exists less o zero xs some fits = absurd (omega arith)
rank_exists less o (suc k) [] some fits = absurd (omega arith)
rank_exists less o (suc zero) (x ∷ xs) some fits = rank_more less o 0 x xs (omega arith) (λ j p q. rank_exists less o j xs p q) (omega arith)
rank_exists less o (suc (suc k)) (x ∷ xs) some fits =
    let a = rank_exists less o (suc k) xs (omega arith) (omega arith) in
    by_truth (less a.0 x)
    (λ yes. (a.0, rank_pushed less o (suc k) x xs a.0 yes a.1))
    (λ no. rank_more less o (suc k) x xs (omega arith) (λ j p q. rank_exists less o j xs p q) (enough_at_it less o (suc k) x xs a.0 no a.1))

-- ---- ranks among the items that a filter keeps

-- the items above it that were dropped come to its rank
pub rank_dropped : {A : Type 0} (less : A → A → Bool) → IsOrder less → (q : A → Bool) (k : ℕ) (xs : List A) (v : A) → HasRank less k (filter q xs) v
    → HasRank less (k + count_by (λ x. not (q x) && less v x) xs) xs v
rank_dropped {A = A} less o q k xs v r =
    let above = count_filtered q (λ x. less v x) xs in
    let at = count_filtered q (λ x. not (less x v)) xs in
    let back : (x : A) → less v x ≡ true → less x v ≡ false = λ x yes.
    by_truth (less x v) (λ turned. absurd (true≢false (sym (o.transitive v x v yes turned) ∙ o.irreflexive v))) (λ no. no) in
    let step : (x : A) → (not (q x) && less v x) ≡ true → (not (q x) && not (less x v)) ≡ true = λ x h.
    (let parts = and_parts (not (q x)) (less v x) h in and_from (not (q x)) (not (less x v)) parts.0 (ap not (back x parts.1))) in
    let n = count_implies (λ x. not (q x) && less v x) (λ x. not (q x) && not (less x v)) step xs in
    record {
      member = All-contains (Contains xs) (filter q xs) v (All-filter q (Contains xs) xs (All-contains_itself xs)) r.member;
      few_above = omega (arith, above, r.few_above);
      enough_at = omega (arith, at, n, r.enough_at);
    }
