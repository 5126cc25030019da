-- The cuts of a recording: there is one list of them, what one more sample does to it, and what the half-periods keep.
use Rattle.std.proofs.Common.{◌≡◌, ◌≢◌, ◌⊎◌, inl, inr, ℕ, ◌+◌, ◌-◌, ◌*◌, ◌<◌, ◌≤◌, Bool, true, false, List, [], ◌∷◌, ◌++◌, length, get_or, refl, sym, ap, subst, ⊎_elim, arith, length-append, append_assoc, append-nil, drop, length-take, length-drop}
use Rattle.std.specs.Prelude.{slice_range}
use Rattle.std.specs.List.{All, AllZip}
use Rattle.std.proofs.lemmas.Bool.{cases_lt, cases_eq, true≢false, false≢true}
use Rattle.std.proofs.lemmas.List.{get_or_append_left, take_all}
use Rattle.std.proofs.lemmas.List.Elements.{All-nil, All-cons, All-head, All-tail, All-take, All-drop}
use Rattle.flk_exact.specs.Cut.{Ends, IsNextCut, AreCutsFrom, AreCuts, parts_from, half_periods, last_cut_from, last_cut}
use Rattle.flk_exact.proofs.WholeLemmas.{neither_less}
use Rattle.flk_exact.proofs.ListLemmas.{AllZip-slice_range, slice_range-append}

-- ---- the parts

pub AllZip-parts_from : {A B : Type 0} (R : A → B → Type 0) (s : ℕ) (cuts : List ℕ) (xs : List A) (ys : List B) → AllZip R xs ys → AllZip (AllZip R) (parts_from s cuts xs) (parts_from s cuts ys)
AllZip-parts_from R s [] xs ys h = tt
AllZip-parts_from R s (p ∷ ps) xs ys h = (AllZip-slice_range R s p xs ys h, AllZip-parts_from R p ps xs ys h)

pub AllZip-half_periods : {A B : Type 0} (R : A → B → Type 0) (cuts : List ℕ) (xs : List A) (ys : List B) → AllZip R xs ys → AllZip (AllZip R) (half_periods cuts xs) (half_periods cuts ys)
AllZip-half_periods R cuts xs ys h = AllZip-parts_from R 0 cuts xs ys h

-- what holds of each item of a list holds of each item of its parts
pub All-parts_from : {A : Type 0} (P : A → Type 0) (s : ℕ) (cuts : List ℕ) (xs : List A) → All P xs → All (All P) (parts_from s cuts xs)
All-parts_from P s [] xs h = All-nil (All P)
All-parts_from P s (p ∷ ps) xs h = All-cons (All P) (slice_range xs s p) (parts_from p ps xs) (All-take P (p - s) (drop s xs) (All-drop P s xs h)) (All-parts_from P p ps xs h)

pub All-half_periods : {A : Type 0} (P : A → Type 0) (cuts : List ℕ) (xs : List A) → All P xs → All (All P) (half_periods cuts xs)
All-half_periods P cuts xs h = All-parts_from P 0 cuts xs h

pub length-parts_from : {A : Type 0} (s : ℕ) (cuts : List ℕ) (xs : List A) → length (parts_from s cuts xs) ≡ length cuts
length-parts_from s [] xs = refl
length-parts_from s (p ∷ ps) xs = omega (arith, length-parts_from p ps xs)

pub length-half_periods : {A : Type 0} (cuts : List ℕ) (xs : List A) → length (half_periods cuts xs) ≡ length cuts
length-half_periods cuts xs = length-parts_from 0 cuts xs

-- the parts stay as they are where the list goes on
pub parts_from-append : {A : Type 0} (s : ℕ) (cuts : List ℕ) (xs ys : List A) → All (λ p. p ≤ length xs) cuts → parts_from s cuts (xs ++ ys) ≡ parts_from s cuts xs
parts_from-append s [] xs ys h = refl
parts_from-append s (p ∷ ps) xs ys h =
    let first = slice_range-append s p xs ys (All-head (λ p. p ≤ length xs) p ps h) in
    let rest = parts_from-append p ps xs ys (All-tail (λ p. p ≤ length xs) p ps h) in
    cc

pub half_periods-append : {A : Type 0} (cuts : List ℕ) (xs ys : List A) → All (λ p. p < length xs) cuts → half_periods cuts (xs ++ ys) ≡ half_periods cuts xs
half_periods-append cuts xs ys h = parts_from-append 0 cuts xs ys (λ k d low. omega (arith, h k d low))

-- one more cut is one more part
pub parts_from-push : {A : Type 0} (s : ℕ) (cuts : List ℕ) (p : ℕ) (xs : List A) → parts_from s (cuts ++ p ∷ []) xs ≡ parts_from s cuts xs ++ slice_range xs (last_cut_from s cuts) p ∷ []
parts_from-push s [] p xs = refl
parts_from-push s (c ∷ cs) p xs = ap (λ rest. slice_range xs s c ∷ rest) (parts_from-push c cs p xs)

pub half_periods-push : {A : Type 0} (cuts : List ℕ) (p : ℕ) (xs : List A) → half_periods (cuts ++ p ∷ []) xs ≡ half_periods cuts xs ++ slice_range xs (last_cut cuts) p ∷ []
half_periods-push cuts p xs = parts_from-push 0 cuts p xs

pub last_cut_from-push : (s : ℕ) (cuts : List ℕ) (p : ℕ) → last_cut_from s (cuts ++ p ∷ []) ≡ p
last_cut_from-push s [] p = refl
last_cut_from-push s (c ∷ cs) p = last_cut_from-push c cs p

pub last_cut-push : (cuts : List ℕ) (p : ℕ) → last_cut (cuts ++ p ∷ []) ≡ p
last_cut-push cuts p = last_cut_from-push 0 cuts p

-- ---- where the cuts stand

pub AreCutsFrom-below : (half : ℕ) (negative : List Bool) (s : ℕ) (cuts : List ℕ) → AreCutsFrom half negative s cuts → All (λ p. p < length negative) cuts
AreCutsFrom-below half negative s [] h = All-nil (λ p. p < length negative)
AreCutsFrom-below half negative s (p ∷ ps) h = All-cons (λ p. p < length negative) p ps h.0.there (AreCutsFrom-below half negative p ps h.1)

pub AreCuts-below : (half : ℕ) (negative : List Bool) (cuts : List ℕ) → AreCuts half negative cuts → All (λ p. p < length negative) cuts
AreCuts-below half negative cuts h = AreCutsFrom-below half negative 0 cuts h

last_cut_from-below : (half : ℕ) (negative : List Bool) (s : ℕ) (cuts : List ℕ) → AreCutsFrom half negative s cuts → s ≤ length negative → last_cut_from s cuts ≤ length negative
last_cut_from-below half negative s [] h low = low
last_cut_from-below half negative s (p ∷ ps) h low = last_cut_from-below half negative p ps h.1 (omega (arith, h.0.there))

pub last_cut-below : (half : ℕ) (negative : List Bool) (cuts : List ℕ) → AreCuts half negative cuts → last_cut cuts ≤ length negative
last_cut-below half negative cuts h = last_cut_from-below half negative 0 cuts h (omega arith)

-- a half-period has at most twice as many samples as half a nominal period
pub few_samples : (half : ℕ) (negative : List Bool) (s p : ℕ) → 0 < half → IsNextCut half negative s p → p - s ≤ 2 * half
few_samples half negative s p some cut =
    ⊎_elim (λ more. absurd (cut.least (s + 2 * half) (omega arith) (omega arith) (inl refl))) (λ few. few) (cases_lt (2 * half) (p - s))

few_in_parts : {A : Type 0} (half : ℕ) (negative : List Bool) (s : ℕ) (cuts : List ℕ) (xs : List A) → 0 < half → AreCutsFrom half negative s cuts → All (λ part. length part ≤ 2 * half) (parts_from s cuts xs)
few_in_parts half negative s [] xs some h = All-nil (λ part. length part ≤ 2 * half)
few_in_parts half negative s (p ∷ ps) xs some h =
    All-cons (λ part. length part ≤ 2 * half) (slice_range xs s p) (parts_from p ps xs)
    (omega (arith, few_samples half negative s p some h.0, length-take (p - s) (drop s xs)))
    (few_in_parts half negative p ps xs some h.1)

pub few_in_half_periods : {A : Type 0} (half : ℕ) (negative : List Bool) (cuts : List ℕ) (xs : List A) → 0 < half → AreCuts half negative cuts → All (λ part. length part ≤ 2 * half) (half_periods cuts xs)
few_in_half_periods half negative cuts xs some h = few_in_parts half negative 0 cuts xs some h

-- ---- one more sample

pub Ends-append : (half : ℕ) (negative more : List Bool) (s p : ℕ) → p < length negative → Ends half negative s p → Ends half (negative ++ more) s p
Ends-append half negative more s p low (inl e) = inl e
Ends-append half negative more s p low (inr h) = inr (h.0, rw (get_or_append_left negative more false p low, get_or_append_left negative more false (p - 1) (omega arith)) h.1)

pub Ends-front : (half : ℕ) (negative more : List Bool) (s p : ℕ) → p < length negative → Ends half (negative ++ more) s p → Ends half negative s p
Ends-front half negative more s p low (inl e) = inl e
Ends-front half negative more s p low (inr h) = inr (h.0, rw (get_or_append_left negative more false p low, get_or_append_left negative more false (p - 1) (omega arith)) at h.1)

pub IsNextCut-append : (half : ℕ) (negative more : List Bool) (s p : ℕ) → IsNextCut half negative s p → IsNextCut half (negative ++ more) s p
IsNextCut-append half negative more s p h = record {
  later = h.later;
  there = omega (arith, h.there, length-append negative more);
  ends = Ends-append half negative more s p h.there h.ends;
  least = λ q after before ends. h.least q after before (Ends-front half negative more s q (omega (arith, h.there)) ends);
}

-- where no half-period ends at the new sample, the cuts stay
pub AreCutsFrom-more : (half : ℕ) (negative : List Bool) (b : Bool) (s : ℕ) (cuts : List ℕ) → AreCutsFrom half negative s cuts → (last_cut_from s cuts < length negative → ¬ Ends half (negative ++ b ∷ []) (last_cut_from s cuts) (length negative)) → AreCutsFrom half (negative ++ b ∷ []) s cuts
AreCutsFrom-more half negative b s [] h none = λ q after within ends.
    ⊎_elim
    (λ before. h q after before (Ends-front half negative (b ∷ []) s q before ends))
    (λ most.
    let same : q ≡ length negative = omega (arith, length-append negative (b ∷ [])) in
    none (omega arith) (rw same at ends))
    (cases_lt q (length negative))
AreCutsFrom-more half negative b s (p ∷ ps) h none = (IsNextCut-append half negative (b ∷ []) s p h.0, AreCutsFrom-more half negative b p ps h.1 none)

-- where one ends there, that is the next cut
pub AreCutsFrom-push : (half : ℕ) (negative : List Bool) (b : Bool) (s : ℕ) (cuts : List ℕ) → AreCutsFrom half negative s cuts → last_cut_from s cuts < length negative → Ends half (negative ++ b ∷ []) (last_cut_from s cuts) (length negative) → AreCutsFrom half (negative ++ b ∷ []) s (cuts ++ length negative ∷ [])
AreCutsFrom-push half negative b s [] h later ends = (
  record {
    later = later;
    there = omega (arith, length-append negative (b ∷ []));
    ends = ends;
    least = λ q after before here. h q after before (Ends-front half negative (b ∷ []) s q before here);
  },
  λ q after within here. absurd (omega (arith, length-append negative (b ∷ []))),
)
AreCutsFrom-push half negative b s (p ∷ ps) h later ends = (IsNextCut-append half negative (b ∷ []) s p h.0, AreCutsFrom-push half negative b p ps h.1 later ends)

pub AreCuts-more : (half : ℕ) (negative : List Bool) (b : Bool) (cuts : List ℕ) → AreCuts half negative cuts → (last_cut cuts < length negative → ¬ Ends half (negative ++ b ∷ []) (last_cut cuts) (length negative)) → AreCuts half (negative ++ b ∷ []) cuts
AreCuts-more half negative b cuts h none = AreCutsFrom-more half negative b 0 cuts h none

pub AreCuts-push : (half : ℕ) (negative : List Bool) (b : Bool) (cuts : List ℕ) → AreCuts half negative cuts → last_cut cuts < length negative → Ends half (negative ++ b ∷ []) (last_cut cuts) (length negative) → AreCuts half (negative ++ b ∷ []) (cuts ++ length negative ∷ [])
AreCuts-push half negative b cuts h later ends = AreCutsFrom-push half negative b 0 cuts h later ends

pub AreCuts-none : (half : ℕ) → AreCuts half [] []
AreCuts-none half = λ q after within ends. absurd (omega arith)

-- the half-periods of a list with one item more, where none ends before it
pub half_periods-more : {A : Type 0} (half : ℕ) (negative : List Bool) (xs : List A) (cuts : List ℕ) (x : A) → AreCuts half negative cuts → length xs ≡ length negative → half_periods cuts (xs ++ x ∷ []) ≡ half_periods cuts xs
half_periods-more half negative xs cuts x are same =
    half_periods-append cuts xs (x ∷ []) (subst (λ (n : ℕ). All (λ p. p < n) cuts) (sym same) (AreCuts-below half negative cuts are))

-- and where one ends: it has the items since the last cut
pub half_periods-ended : {A : Type 0} (half : ℕ) (negative : List Bool) (xs : List A) (cuts : List ℕ) (x : A) → AreCuts half negative cuts → length xs ≡ length negative
    → half_periods (cuts ++ length negative ∷ []) (xs ++ x ∷ []) ≡ half_periods cuts xs ++ drop (last_cut cuts) xs ∷ []
half_periods-ended half negative xs cuts x are same =
    let p = length negative in
    let s = last_cut cuts in
    let pushed = half_periods-push cuts p (xs ++ x ∷ []) in
    let before = half_periods-more half negative xs cuts x are same in
    let part = slice_range-append s p xs (x ∷ []) (omega (arith, same)) in
    let whole : slice_range xs s p ≡ drop s xs = take_all (p - s) (drop s xs) (omega (arith, same, length-drop s xs)) in
    cc

-- ---- there is one list of cuts

cases_differ : (x y : Bool) → (x ≡ y) ⊎ (x ≢ y)
cases_differ true true = inl refl
cases_differ true false = inr true≢false
cases_differ false true = inr false≢true
cases_differ false false = inl refl

pub cases_ends : (half : ℕ) (negative : List Bool) (s p : ℕ) → Ends half negative s p ⊎ ¬ Ends half negative s p
cases_ends half negative s p =
    ⊎_elim
    (λ long. inl (inl long))
    (λ short.
    ⊎_elim
    (λ few. inr (λ ends. ⊎_elim (λ long. short long) (λ change. absurd (omega (arith, change.0))) ends))
    (λ enough.
    ⊎_elim
    (λ same. inr (λ ends. ⊎_elim (λ long. short long) (λ change. change.1 same) ends))
    (λ differ. inl (inr (enough, differ)))
    (cases_differ (get_or negative p false) (get_or negative (p - 1) false)))
    (cases_lt (2 * (p - s)) half))
    (cases_eq p (s + 2 * half))

cuts_more : (half : ℕ) (negative : List Bool) (b : Bool) → ((cuts : List ℕ) × AreCuts half negative cuts) → (cuts : List ℕ) × AreCuts half (negative ++ b ∷ []) cuts
cuts_more half negative b c =
    ⊎_elim
    (λ later.
    ⊎_elim
    (λ ends. (c.0 ++ length negative ∷ [], AreCuts-push half negative b c.0 c.1 later ends))
    (λ none. (c.0, AreCuts-more half negative b c.0 c.1 (λ before. none)))
    (cases_ends half (negative ++ b ∷ []) (last_cut c.0) (length negative)))
    (λ most. (c.0, AreCuts-more half negative b c.0 c.1 (λ before. absurd (omega arith))))
    (cases_lt (last_cut c.0) (length negative))

cuts_onto : (half : ℕ) (front back : List Bool) → ((cuts : List ℕ) × AreCuts half front cuts) → (cuts : List ℕ) × AreCuts half (front ++ back) cuts
cuts_onto half front [] c = subst (λ (bs : List Bool). (cuts : List ℕ) × AreCuts half bs cuts) (sym (append-nil front)) c
cuts_onto half front (b ∷ back) c =
    subst (λ (bs : List Bool). (cuts : List ℕ) × AreCuts half bs cuts) (append_assoc front (b ∷ []) back) (cuts_onto half (front ++ b ∷ []) back (cuts_more half front b c))

pub cuts_exist : (half : ℕ) (negative : List Bool) → (cuts : List ℕ) × AreCuts half negative cuts
cuts_exist half negative = cuts_onto half [] negative ([], AreCuts-none half)

pub next_cut_unique : (half : ℕ) (negative : List Bool) (s p q : ℕ) → IsNextCut half negative s p → IsNextCut half negative s q → p ≡ q
next_cut_unique half negative s p q h k = neither_less p q (λ less. k.least p h.later less h.ends) (λ less. h.least q k.later less k.ends)

pub cuts_unique_from : (half : ℕ) (negative : List Bool) (s : ℕ) (ps qs : List ℕ) → AreCutsFrom half negative s ps → AreCutsFrom half negative s qs → ps ≡ qs
cuts_unique_from half negative s [] [] h k = refl
cuts_unique_from half negative s [] (q ∷ qs) h k = absurd (h q k.0.later k.0.there k.0.ends)
cuts_unique_from half negative s (p ∷ ps) [] h k = absurd (k p h.0.later h.0.there h.0.ends)
cuts_unique_from half negative s (p ∷ ps) (q ∷ qs) h k =
    let same = next_cut_unique half negative s p q h.0 k.0 in
    let rest = cuts_unique_from half negative q ps qs (subst (λ (x : ℕ). AreCutsFrom half negative x ps) same h.1) k.1 in
    cc

pub cuts_unique : (half : ℕ) (negative : List Bool) (ps qs : List ℕ) → AreCuts half negative ps → AreCuts half negative qs → ps ≡ qs
cuts_unique half negative ps qs h k = cuts_unique_from half negative 0 ps qs h k
