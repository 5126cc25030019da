-- How many of a list pass a test.
use Rattle.std.proofs.Common.{◌≡◌, ℕ, ◌+◌, ◌≤◌, Bool, true, false, not, ◌&&◌, cond, List, [], ◌∷◌, length, map, refl, sym, ap, ◌∙◌, ⊎_elim, arith}
use Rattle.std.specs.List.{AllZip, count_by, filter, All}
use Rattle.std.proofs.lemmas.Bool.{cases_Bool, and_left, cond-true, cond-false}
use Rattle.std.proofs.lemmas.List.Sums.{sum_by-cons}
use Rattle.std.proofs.lemmas.List.Elements.{All-head, All-tail}

-- a test that implies another at the same places counts no more
pub count_zip : {X Y : Type 0} (p : X → Bool) (q : Y → Bool) (xs : List X) (ys : List Y)
    → AllZip (λ x y. p x ≡ true → q y ≡ true) xs ys → count_by p xs ≤ count_by q ys
count_zip p q [] [] h = omega arith
count_zip p q [] (y ∷ ys) h = absurd h
count_zip p q (x ∷ xs) [] h = absurd h
count_zip p q (x ∷ xs) (y ∷ ys) h =
    let rest = count_zip p q xs ys h.1 in
    let a = sum_by-cons (λ z. cond (p z) 1 0) x xs in
    let b = sum_by-cons (λ z. cond (q z) 1 0) y ys in
    let here : cond (p x) 1 0 ≤ cond (q y) 1 0 = grind (arith, h.0) in
    omega (arith, a, b, rest, here)

pub count_none : {X : Type 0} (p : X → Bool) (xs : List X) → All (λ x. p x ≡ false) xs → count_by p xs ≡ 0
count_none p [] h = refl
count_none p (x ∷ xs) h =
    let here = All-head (λ y. p y ≡ false) x xs h in
    let rest = count_none p xs (All-tail (λ y. p y ≡ false) x xs h) in
    let a = sum_by-cons (λ z. cond (p z) 1 0) x xs in
    let zero' : cond (p x) 1 0 ≡ 0 = ap (λ (b : Bool). let r : ℕ = cond b 1 0 in r) here in
    omega (arith, a, rest, zero')

pub count_all : {X : Type 0} (p : X → Bool) (xs : List X) → All (λ x. p x ≡ true) xs → count_by p xs ≡ length xs
count_all p [] h = refl
count_all p (x ∷ xs) h =
    let here = All-head (λ y. p y ≡ true) x xs h in
    let rest = count_all p xs (All-tail (λ y. p y ≡ true) x xs h) in
    let a = sum_by-cons (λ z. cond (p z) 1 0) x xs in
    let one' : cond (p x) 1 0 ≡ 1 = ap (λ (b : Bool). let r : ℕ = cond b 1 0 in r) here in
    omega (arith, a, rest, one')

-- a test of what is made of the items
pub count_made : {X Y : Type 0} (p : Y → Bool) (q : X → Bool) (f : X → Y) → ((x : X) → p (f x) ≡ q x) → (xs : List X) → count_by p (map f xs) ≡ count_by q xs
count_made p q f same [] = refl
count_made p q f same (x ∷ xs) =
    let rest = count_made p q f same xs in
    let a = sum_by-cons (λ z. cond (p z) 1 0) (f x) (map f xs) in
    let b = sum_by-cons (λ z. cond (q z) 1 0) x xs in
    let here : cond (p (f x)) 1 0 ≡ cond (q x) 1 0 = ap (λ (t : Bool). let r : ℕ = cond t 1 0 in r) (same x) in
    omega (arith, a, b, rest, here)

-- a test that implies another counts no more
pub count_implies : {X : Type 0} (p q : X → Bool) → ((x : X) → p x ≡ true → q x ≡ true) → (xs : List X) → count_by p xs ≤ count_by q xs
count_implies p q h [] = omega arith
count_implies p q h (x ∷ xs) =
    let rest = count_implies p q h xs in
    let a = sum_by-cons (λ z. cond (p z) 1 0) x xs in
    let b = sum_by-cons (λ z. cond (q z) 1 0) x xs in
    let k = h x in
    let here : cond (p x) 1 0 ≤ cond (q x) 1 0 = grind (arith, k) in
    omega (arith, a, b, rest, here)

-- one more item
pub count_yes : {X : Type 0} (p : X → Bool) (x : X) (xs : List X) → p x ≡ true → count_by p (x ∷ xs) ≡ 1 + count_by p xs
count_yes p x xs h =
    let a = sum_by-cons (λ z. cond (p z) 1 0) x xs in
    let one : cond (p x) 1 0 ≡ 1 = ap (λ (b : Bool). let r : ℕ = cond b 1 0 in r) h in
    omega (arith, a, one)

pub count_no : {X : Type 0} (p : X → Bool) (x : X) (xs : List X) → p x ≡ false → count_by p (x ∷ xs) ≡ count_by p xs
count_no p x xs h =
    let a = sum_by-cons (λ z. cond (p z) 1 0) x xs in
    let none : cond (p x) 1 0 ≡ 0 = ap (λ (b : Bool). let r : ℕ = cond b 1 0 in r) h in
    omega (arith, a, none)

pub count_more : {X : Type 0} (p : X → Bool) (x : X) (xs : List X) → count_by p xs ≤ count_by p (x ∷ xs)
count_more p x xs = let a = sum_by-cons (λ z. cond (p z) 1 0) x xs in omega (arith, a)

-- tests that say the same
pub count_same : {X : Type 0} (p q : X → Bool) → ((x : X) → p x ≡ q x) → (xs : List X) → count_by p xs ≡ count_by q xs
count_same p q same xs =
    let a = count_implies p q (λ x h. sym (same x) ∙ h) xs in
    let b = count_implies q p (λ x h. same x ∙ h) xs in
    omega (arith, a, b)

-- what passes a test passes one of two others, and never both
pub count_split : {X : Type 0} (r p q : X → Bool) → ((x : X) → cond (r x) 1 0 ≡ cond (p x) 1 0 + cond (q x) 1 0) → (xs : List X) → count_by r xs ≡ count_by p xs + count_by q xs
count_split r p q split [] = refl
count_split r p q split (x ∷ xs) =
    let rest = count_split r p q split xs in
    let a = sum_by-cons (λ z. cond (r z) 1 0) x xs in
    let b = sum_by-cons (λ z. cond (p z) 1 0) x xs in
    let d = sum_by-cons (λ z. cond (q z) 1 0) x xs in
    let here = split x in
    omega (arith, rest, a, b, d, here)

-- those that a filter keeps and those that it drops
pub count_filtered : {X : Type 0} (q p : X → Bool) (xs : List X) → count_by p xs ≡ count_by p (filter q xs) + count_by (λ x. not (q x) && p x) xs
count_filtered q p [] = refl
count_filtered q p (x ∷ xs) =
    let rest = count_filtered q p xs in
    let a = sum_by-cons (λ z. cond (p z) 1 0) x xs in
    let b = sum_by-cons (λ z. cond (not (q z) && p z) 1 0) x xs in
    ⊎_elim
    (λ yes.
    let e : count_by p (filter q (x ∷ xs)) ≡ count_by p (x ∷ filter q xs) = ap (count_by p) (cond-true (q x) (x ∷ filter q xs) (filter q xs) yes) in
    let d = sum_by-cons (λ z. cond (p z) 1 0) x (filter q xs) in
    let none : cond (not (q x) && p x) 1 0 ≡ 0 = ap (λ (b : Bool). let r : ℕ = cond b 1 0 in r) (and_left (not (q x)) (p x) (ap not yes)) in
    omega (arith, rest, a, b, d, e, none))
    (λ no.
    let e : count_by p (filter q (x ∷ xs)) ≡ count_by p (filter q xs) = ap (count_by p) (cond-false (q x) (x ∷ filter q xs) (filter q xs) no) in
    let here : cond (not (q x) && p x) 1 0 ≡ cond (p x) 1 0 = ap (λ (b : Bool). let r : ℕ = cond (not b && p x) 1 0 in r) no in
    omega (arith, rest, a, b, e, here))
    (cases_Bool (q x))
