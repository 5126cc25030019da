-- Sums of windows and levels: how a window slides, and how levels follow the order, the width and the bounds of the values.
use Rattle.std.proofs.Common.{◌≡◌, ℕ, ◌+◌, ◌-◌, ◌*◌, ◌<◌, ◌≤◌, List, [], ◌∷◌, ◌++◌, length, take, drop, get_or, ℤ, pos, neg_ℤ, ◌+ℤ◌, ◌-ℤ◌, ◌*ℤ◌, ◌≤ℤ◌, ap, ◌∙◌, arith, length-take, length-drop, take-add}
use Rattle.std.specs.Prelude.{slice_range}
use Rattle.std.specs.List.{All, AllZip}
use Rattle.std.proofs.lemmas.Int.{ints}
use Rattle.std.proofs.lemmas.List.{take_more}
use Rattle.std.proofs.lemmas.List.Elements.{All-head, All-tail, All-take, All-drop}
use Rattle.flk_exact.specs.Rounding.{floor_of}
use Rattle.flk_exact.proofs.ListLemmas.{AllZip-slice_range}
use Rattle.flk_exact.proofs.RoundingLemmas.{IsFloor-floor_of, floor_at_least}
use Rattle.flk_exact.proofs.WholeLemmas.{sum-*ℤ, neg-*ℤ, cancel_≤, ≤ℤ_trans}
use Rattle.flk_change.specs.Steady.{window_at}
use Rattle.flk_change.specs.Changes.{total, level}

-- ---- sums

pub total-append : (xs ys : List ℤ) → total (xs ++ ys) ≡ total xs +ℤ total ys
total-append [] ys = omega (arith, ints)
total-append (x ∷ xs) ys = omega (arith, ints, total-append xs ys)

pub total-≤ : (xs ys : List ℤ) → AllZip (λ x y. x ≤ℤ y) xs ys → total xs ≤ℤ total ys
total-≤ [] [] h = omega (arith, ints)
total-≤ [] (y ∷ ys) h = absurd h
total-≤ (x ∷ xs) [] h = absurd h
total-≤ (x ∷ xs) (y ∷ ys) h = omega (arith, ints, h.0, total-≤ xs ys h.1)

-- numbers that are at most h above those of another list
pub total-wider : (h : ℕ) (xs ys : List ℤ) → AllZip (λ x y. y ≤ℤ (x +ℤ pos h)) xs ys → total ys ≤ℤ (total xs +ℤ pos (length xs * h))
total-wider h [] [] z = omega (arith, ints)
total-wider h [] (y ∷ ys) z = absurd z
total-wider h (x ∷ xs) [] z = absurd z
total-wider h (x ∷ xs) (y ∷ ys) z = omega (arith, ints, z.0, total-wider h xs ys z.1)

-- numbers from l to g
pub total-above : (l : ℤ) (xs : List ℤ) → All (λ x. l ≤ℤ x) xs → (l *ℤ pos (length xs)) ≤ℤ total xs
total-above l [] h = omega (arith, ints)
total-above l (x ∷ xs) h = omega (arith, ints, All-head (λ x. l ≤ℤ x) x xs h, total-above l xs (All-tail (λ x. l ≤ℤ x) x xs h))

pub total-below : (g : ℤ) (xs : List ℤ) → All (λ x. x ≤ℤ g) xs → total xs ≤ℤ (g *ℤ pos (length xs))
total-below g [] h = omega (arith, ints)
total-below g (x ∷ xs) h = omega (arith, ints, All-head (λ x. x ≤ℤ g) x xs h, total-below g xs (All-tail (λ x. x ≤ℤ g) x xs h))

-- ---- windows

-- a part's sum is what the front up to its end has more than the front before it
total-range : (a b : ℕ) (xs : List ℤ) → a ≤ b → total (take b xs) ≡ total (take a xs) +ℤ total (slice_range xs a b)
total-range a b xs less =
    let e : a + (b - a) ≡ b = omega arith in
    let split = take-add a (b - a) xs in
    let whole : take b xs ≡ take a xs ++ take (b - a) (drop a xs) = (rw e at split) in
    ap total whole ∙ total-append (take a xs) (take (b - a) (drop a xs))

total-front : (i : ℕ) (xs : List ℤ) (d : ℤ) → i < length xs → total (take (i + 1) xs) ≡ total (take i xs) +ℤ get_or xs i d
total-front i xs d there =
    let more = ap total (take_more xs i d there) in
    omega (arith, ints, more, total-append (take i xs) (get_or xs i d ∷ []))

-- a window that is not whole yet grows
pub slide-grows : (window i : ℕ) (xs : List ℤ) (d : ℤ) → i < length xs → i < window → total (window_at window xs (i + 1)) ≡ total (window_at window xs i) +ℤ get_or xs i d
slide-grows window i xs d there early =
    let old = total-range (i - window) i xs (omega arith) in
    let new = total-range (i + 1 - window) (i + 1) xs (omega arith) in
    let last = total-front i xs d there in
    let start : i - window ≡ 0 = omega arith in
    let next : i + 1 - window ≡ 0 = omega arith in
    let first : total (take (i - window) xs) ≡ pos 0 = ap (λ (k : ℕ). total (take k xs)) start in
    let second : total (take (i + 1 - window) xs) ≡ pos 0 = ap (λ (k : ℕ). total (take k xs)) next in
    omega (arith, ints, old, new, last, first, second)

-- a whole one takes one in and lets one go
pub slide-moves : (window i : ℕ) (xs : List ℤ) (d : ℤ) → i < length xs → 0 < window → window ≤ i
    → total (window_at window xs (i + 1)) ≡ total (window_at window xs i) +ℤ get_or xs i d -ℤ get_or xs (i - window) d
slide-moves window i xs d there some whole =
    let old = total-range (i - window) i xs (omega arith) in
    let new = total-range (i + 1 - window) (i + 1) xs (omega arith) in
    let first = total-front (i - window) xs d (omega arith) in
    let last = total-front i xs d there in
    let next : i + 1 - window ≡ (i - window) + 1 = omega arith in
    let step = ap (λ (k : ℕ). total (take k xs)) next in
    omega (arith, ints, old, new, first, last, step)

-- ---- levels

pub length-window_at : {A : Type 0} (window j : ℕ) (xs : List A) → window ≤ j → j ≤ length xs → length (window_at window xs j) ≡ window
length-window_at window j xs whole there = omega (arith, length-take (j - (j - window)) (drop (j - window) xs), length-drop (j - window) xs)

pub floor_≤ : (a b : ℤ) (m : ℕ) → 0 < m → a ≤ℤ b → floor_of a (pos m) ≤ℤ floor_of b (pos m)
floor_≤ a b m some less =
    floor_at_least b m (floor_of b (pos m)) (floor_of a (pos m)) (IsFloor-floor_of b m some) (≤ℤ_trans (IsFloor-floor_of a m some).within less)

-- a whole number of divisors more is that many more
floor_shift : (a b : ℤ) (m h : ℕ) → 0 < m → b ≤ℤ (a +ℤ pos (m * h)) → floor_of b (pos m) ≤ℤ (floor_of a (pos m) +ℤ pos h)
floor_shift a b m h some less =
    let within = (IsFloor-floor_of b m some).within in
    let back = floor_of b (pos m) -ℤ pos h in
    let low = floor_at_least a m (floor_of a (pos m)) back (IsFloor-floor_of a m some) (omega (arith, ints, within, sum-*ℤ (floor_of b (pos m)) (neg_ℤ (pos h)) m, neg-*ℤ (pos h) m)) in
    omega (arith, ints, low)

pub floor_above : (l a : ℤ) (m : ℕ) → 0 < m → (l *ℤ pos m) ≤ℤ a → l ≤ℤ floor_of a (pos m)
floor_above l a m some h = floor_at_least a m (floor_of a (pos m)) l (IsFloor-floor_of a m some) h

pub floor_below : (g a : ℤ) (m : ℕ) → 0 < m → a ≤ℤ (g *ℤ pos m) → floor_of a (pos m) ≤ℤ g
floor_below g a m some h =
    let p = IsFloor-floor_of a m some in
    cancel_≤ (floor_of a (pos m)) g m some (omega (arith, ints, p.within))

pub level-≤ : (window : ℕ) (xs ys : List ℤ) (j : ℕ) → 0 < window → AllZip (λ x y. x ≤ℤ y) xs ys → level window xs j ≤ℤ level window ys j
level-≤ window xs ys j some h =
    floor_≤ (total (window_at window xs j)) (total (window_at window ys j)) window some
    (total-≤ (window_at window xs j) (window_at window ys j) (AllZip-slice_range (λ x y. x ≤ℤ y) (j - window) j xs ys h))

pub level-wider : (window h : ℕ) (xs ys : List ℤ) (j : ℕ) → 0 < window → window ≤ j → j ≤ length xs → AllZip (λ x y. y ≤ℤ (x +ℤ pos h)) xs ys
    → level window ys j ≤ℤ (level window xs j +ℤ pos h)
level-wider window h xs ys j some whole there z =
    let part = window_at window xs j in
    let wider = total-wider h part (window_at window ys j) (AllZip-slice_range (λ x y. y ≤ℤ (x +ℤ pos h)) (j - window) j xs ys z) in
    floor_shift (total part) (total (window_at window ys j)) window h some (omega (arith, ints, wider, ap (λ (k : ℕ). k * h) (length-window_at window j xs whole there)))

pub level-above : (l : ℤ) (window : ℕ) (xs : List ℤ) (j : ℕ) → 0 < window → window ≤ j → j ≤ length xs → All (λ x. l ≤ℤ x) xs → l ≤ℤ level window xs j
level-above l window xs j some whole there h =
    let part = window_at window xs j in
    let low = total-above l part (All-take (λ x. l ≤ℤ x) (j - (j - window)) (drop (j - window) xs) (All-drop (λ x. l ≤ℤ x) (j - window) xs h)) in
    floor_above l (total part) window some (rw (length-window_at window j xs whole there) at low)

pub level-below : (g : ℤ) (window : ℕ) (xs : List ℤ) (j : ℕ) → 0 < window → window ≤ j → j ≤ length xs → All (λ x. x ≤ℤ g) xs → level window xs j ≤ℤ g
level-below g window xs j some whole there h =
    let part = window_at window xs j in
    let high = total-below g part (All-take (λ x. x ≤ℤ g) (j - (j - window)) (drop (j - window) xs) (All-drop (λ x. x ≤ℤ g) (j - window) xs h)) in
    floor_below g (total part) window some (rw (length-window_at window j xs whole there) at high)
