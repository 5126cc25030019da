-- Distances, and what the half-periods of a change give: the greatest number of some places, and how many are above the limit.
use Rattle.std.proofs.Common.{◌≡◌, ◌⊎◌, inl, inr, ℕ, zero, suc, ◌+◌, ◌-◌, ◌<◌, ◌≤◌, Bool, true, false, cond, ℤ, pos, ◌+ℤ◌, ◌-ℤ◌, ◌≤ℤ◌, refl, ap, ◌∙◌, subst, arith}
use Rattle.std.specs.Prelude.{int_lt, int_le, ◌&&◌}
use Rattle.std.specs.Int.{int_max}
use Rattle.std.specs.List.{count_by, range_with_len}
use Rattle.std.proofs.lemmas.Int.{ints, clamps}
use Rattle.std.proofs.lemmas.Bool.{cases_lt}
use Rattle.std.proofs.lemmas.List.Sums.{sum_by-cons, count_by-le-length}
use Rattle.std.proofs.lemmas.List.FromFn.{length-range_with_len, sum_by-map-range_with_len_more}
use Rattle.std.proofs.lemmas.List.{map-id}
use Rattle.flk_change.specs.Changes.{distance, IsAmong, excesses, IsGreatestOrZero}
use Rattle.flk_change.specs.Resolutions.{least_distance, greatest_distance}
use Rattle.flk_change.proofs.GreatestLemmas.{greatest_join, greatest_none, greatest_same}

-- ---- distances

pub distance_natural : (p q : ℤ) → pos 0 ≤ℤ distance p q
distance_natural p q = omega (arith, ints, clamps)

pub least_natural : (p ph q qh : ℤ) → pos 0 ≤ℤ least_distance p ph q qh
least_natural p ph q qh = omega (arith, ints, clamps)

pub greatest_natural : (p ph q qh : ℤ) → p ≤ℤ ph → q ≤ℤ qh → pos 0 ≤ℤ greatest_distance p ph q qh
greatest_natural p ph q qh a b = omega (arith, ints, clamps)

pub distance_ordered : (p ph q qh : ℤ) → p ≤ℤ ph → q ≤ℤ qh → least_distance p ph q qh ≤ℤ greatest_distance p ph q qh
distance_ordered p ph q qh a b = omega (arith, ints, clamps)

pub distance_above : (p pl ph q ql qh : ℤ) → pl ≤ℤ p → p ≤ℤ ph → ql ≤ℤ q → q ≤ℤ qh → least_distance pl ph ql qh ≤ℤ distance p q
distance_above p pl ph q ql qh a b c d = omega (arith, ints, clamps)

pub distance_below : (p pl ph q ql qh : ℤ) → pl ≤ℤ p → p ≤ℤ ph → ql ≤ℤ q → q ≤ℤ qh → distance p q ≤ℤ greatest_distance pl ph ql qh
distance_below p pl ph q ql qh a b c d = omega (arith, ints, clamps)

pub distance_width : (p ph q qh h : ℤ) → ph ≤ℤ (p +ℤ h) → qh ≤ℤ (q +ℤ h) → greatest_distance p ph q qh ≤ℤ (least_distance p ph q qh +ℤ (h +ℤ h))
distance_width p ph q qh h a b = omega (arith, ints, clamps)

-- two numbers between two others
pub distance_within : (p q l g : ℤ) → l ≤ℤ p → p ≤ℤ g → l ≤ℤ q → q ≤ℤ g → distance p q ≤ℤ (g -ℤ l)
distance_within p q l g a b c d = omega (arith, ints, clamps)

-- ---- the greatest of some places

pub among_none : (f : ℕ → ℤ) (a b : ℕ) → b ≤ a → IsGreatestOrZero (IsAmong f a b) (pos 0)
among_none f a b none = greatest_none (IsAmong f a b) (λ x (i, low, high, e). omega arith)

pub among_more : (f : ℕ → ℤ) (a b : ℕ) (m : ℤ) → a ≤ b → pos 0 ≤ℤ f b → IsGreatestOrZero (IsAmong f a b) m → IsGreatestOrZero (IsAmong f a (b + 1)) (int_max m (f b))
among_more f a b m less natural g =
    greatest_join (IsAmong f a b) (λ x. x ≡ f b) (IsAmong f a (b + 1)) m (f b)
    (λ x (i, low, high, e). (i, low, omega arith, e))
    (λ x e. (b, less, omega arith, e))
    (λ x (i, low, high, e). elim (cases_lt i b) [ inl before ↦ inl (i, low, before, e) | inr most ↦ (let same : i ≡ b = omega arith in inr (e ∙ ap f same)) ])
    g (record { natural = natural; bounds = λ x e. omega (arith, ints, e); reached = inr refl })

-- a walk from a that stopped at i: at the end, or where there is nothing to walk
pub among_end : (f : ℕ → ℤ) (a b i : ℕ) (m : ℤ) → b ≤ i → (i ≤ b) ⊎ (i ≡ a) → IsGreatestOrZero (IsAmong f a i) m → IsGreatestOrZero (IsAmong f a b) m
among_end f a b i m done within g = elim within [
  | inl less ↦ (let e : i ≡ b = omega arith in subst (λ (k : ℕ). IsGreatestOrZero (IsAmong f a k) m) e g)
  | inr none ↦ greatest_same (IsAmong f a i) (IsAmong f a b) m (λ x (k, low, high, e). absurd (omega arith)) (λ x (k, low, high, e). absurd (omega arith)) g
]

-- ---- how many are above the limit

-- the places from a on, with one more
range_more : (p : ℕ → Bool) (a n j : ℕ) → a + n ≡ j → count_by p (range_with_len a (n + 1)) ≡ count_by p (range_with_len a n) + cond (p j) 1 0
range_more p a n j e =
    let more = sum_by-map-range_with_len_more (λ i. cond (p i) 1 0) (λ (i : ℕ). i) a n j e in
    simp map-id at more

pub excesses_none : (f : ℕ → ℤ) (a b : ℕ) → b ≤ a → excesses f a b ≡ 0
excesses_none f a b none = let e : b - a ≡ 0 = omega arith in rw e refl

pub excesses_more : (f : ℕ → ℤ) (a b : ℕ) → a ≤ b → excesses f a (b + 1) ≡ excesses f a b + cond (int_lt (pos 33000000) (f b)) 1 0
excesses_more f a b less =
    let len : b + 1 - a ≡ (b - a) + 1 = omega arith in
    rw len (range_more (λ i. int_lt (pos 33000000) (f i)) a (b - a) b (omega arith))

pub excesses_end : (f : ℕ → ℤ) (a b i : ℕ) → b ≤ i → (i ≤ b) ⊎ (i ≡ a) → excesses f a i ≡ excesses f a b
excesses_end f a b i done within = elim within [
  | inl less ↦ (let e : i ≡ b = omega arith in ap (excesses f a) e)
  | inr none ↦ omega (arith, excesses_none f a i (omega arith), excesses_none f a b (omega arith))
]

pub excesses_few : (f : ℕ → ℤ) (a b : ℕ) → excesses f a b ≤ b - a
excesses_few f a b =
    omega (arith, count_by-le-length (λ i. int_lt (pos 33000000) (f i)) (range_with_len a (b - a)), length-range_with_len a (b - a))

above_more : (c a b : ℤ) → a ≤ℤ b → int_lt c a ≡ true → int_lt c b ≡ true
above_more c a b l t = grind (arith, ints)

-- one test that another implies, at the places of a range
count_≤ : (p q : ℕ → Bool) (a n : ℕ) → ((i : ℕ) → a ≤ i → i < a + n → p i ≡ true → q i ≡ true) → count_by p (range_with_len a n) ≤ count_by q (range_with_len a n)
count_≤ p q a zero h = omega arith
count_≤ p q a (suc n) h =
    let rest = count_≤ p q (a + 1) n (λ i low high. h i (omega arith) (omega arith)) in
    let first = h a (omega arith) (omega arith) in
    let here : cond (p a) 1 0 ≤ cond (q a) 1 0 = grind (arith, first) in
    omega (arith, sum_by-cons (λ i. cond (p i) 1 0) a (range_with_len (a + 1) n), sum_by-cons (λ i. cond (q i) 1 0) a (range_with_len (a + 1) n), rest, here)

pub excesses_≤ : (f g : ℕ → ℤ) (a b : ℕ) → ((i : ℕ) → a ≤ i → i < b → f i ≤ℤ g i) → excesses f a b ≤ excesses g a b
excesses_≤ f g a b h =
    count_≤ (λ i. int_lt (pos 33000000) (f i)) (λ i. int_lt (pos 33000000) (g i)) a (b - a)
    (λ i low high. above_more (pos 33000000) (f i) (g i) (h i low (omega arith)))

-- one test that two others make up
count_cover : (p q r : ℕ → Bool) (a n : ℕ) → ((i : ℕ) → p i ≡ true → q i ≡ false → r i ≡ true) → count_by p (range_with_len a n) ≤ count_by q (range_with_len a n) + count_by r (range_with_len a n)
count_cover p q r a zero h = omega arith
count_cover p q r a (suc n) h =
    let rest = count_cover p q r (a + 1) n h in
    let first = h a in
    let here : cond (p a) 1 0 ≤ cond (q a) 1 0 + cond (r a) 1 0 = grind (arith, first) in
    omega (arith, sum_by-cons (λ i. cond (p i) 1 0) a (range_with_len (a + 1) n), sum_by-cons (λ i. cond (q i) 1 0) a (range_with_len (a + 1) n), sum_by-cons (λ i. cond (r i) 1 0) a (range_with_len (a + 1) n), rest, here)

pub excesses_cover : (f g : ℕ → ℤ) (a b : ℕ)
    → excesses g a b ≤ excesses f a b + count_by (λ i. int_le (f i) (pos 33000000) && int_lt (pos 33000000) (g i)) (range_with_len a (b - a))
excesses_cover f g a b =
    count_cover (λ i. int_lt (pos 33000000) (g i)) (λ i. int_lt (pos 33000000) (f i)) (λ i. int_le (f i) (pos 33000000) && int_lt (pos 33000000) (g i)) a (b - a)
    (λ i above not_above. grind (arith, ints))
