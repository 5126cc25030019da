-- Lists side by side, what a list made of another contains, and parts of a list that goes on.
use Rattle.std.proofs.Common.{◌≡◌, ℕ, zero, suc, ◌-◌, ◌<◌, ◌≤◌, List, [], ◌∷◌, ◌++◌, length, take, drop, map, get_or, refl, sym, ap, ◌∙◌, arith, length-drop, ⊎_elim}
use Rattle.std.specs.Prelude.{slice_range, reverse}
use Rattle.std.specs.List.{All, AllZip, Contains}
use Rattle.std.proofs.lemmas.Bool.{cases_lt}
use Rattle.std.proofs.lemmas.Grind.{reverse_onto}
use Rattle.std.proofs.lemmas.List.{take-append-le, drop-append-le, length-map, get_or-map, reverse-append}
use Rattle.std.proofs.lemmas.List.Elements.{Contains-get_or, All-append, All-cons, All-nil, All-head, All-tail}

pub AllZip-length : {A B : Type 0} (R : A → B → Type 0) (xs : List A) (ys : List B) → AllZip R xs ys → length xs ≡ length ys
AllZip-length R [] [] h = refl
AllZip-length R [] (y ∷ ys) h = absurd h
AllZip-length R (x ∷ xs) [] h = absurd h
AllZip-length R (x ∷ xs) (y ∷ ys) h = omega (arith, AllZip-length R xs ys h.1)

pub AllZip-take : {A B : Type 0} (R : A → B → Type 0) (n : ℕ) (xs : List A) (ys : List B) → AllZip R xs ys → AllZip R (take n xs) (take n ys)
AllZip-take R zero xs ys h = tt
AllZip-take R (suc n) [] [] h = tt
AllZip-take R (suc n) [] (y ∷ ys) h = absurd h
AllZip-take R (suc n) (x ∷ xs) [] h = absurd h
AllZip-take R (suc n) (x ∷ xs) (y ∷ ys) h = (h.0, AllZip-take R n xs ys h.1)

pub AllZip-drop : {A B : Type 0} (R : A → B → Type 0) (n : ℕ) (xs : List A) (ys : List B) → AllZip R xs ys → AllZip R (drop n xs) (drop n ys)
AllZip-drop R zero xs ys h = h
AllZip-drop R (suc n) [] [] h = tt
AllZip-drop R (suc n) [] (y ∷ ys) h = absurd h
AllZip-drop R (suc n) (x ∷ xs) [] h = absurd h
AllZip-drop R (suc n) (x ∷ xs) (y ∷ ys) h = AllZip-drop R n xs ys h.1

pub AllZip-slice_range : {A B : Type 0} (R : A → B → Type 0) (s p : ℕ) (xs : List A) (ys : List B) → AllZip R xs ys → AllZip R (slice_range xs s p) (slice_range ys s p)
AllZip-slice_range R s p xs ys h = AllZip-take R (p - s) (drop s xs) (drop s ys) (AllZip-drop R s xs ys h)

pub AllZip-push : {A B : Type 0} (R : A → B → Type 0) (xs : List A) (ys : List B) (x : A) (y : B) → AllZip R xs ys → R x y → AllZip R (xs ++ x ∷ []) (ys ++ y ∷ [])
AllZip-push R [] [] x y h r = (r, tt)
AllZip-push R [] (b ∷ ys) x y h r = absurd h
AllZip-push R (a ∷ xs) [] x y h r = absurd h
AllZip-push R (a ∷ xs) (b ∷ ys) x y h r = (h.0, AllZip-push R xs ys x y h.1 r)

pub AllZip-append : {A B : Type 0} (R : A → B → Type 0) (xs us : List A) (ys vs : List B) → AllZip R xs ys → AllZip R us vs → AllZip R (xs ++ us) (ys ++ vs)
AllZip-append R [] us [] vs h k = k
AllZip-append R [] us (y ∷ ys) vs h k = absurd h
AllZip-append R (x ∷ xs) us [] vs h k = absurd h
AllZip-append R (x ∷ xs) us (y ∷ ys) vs h k = (h.0, AllZip-append R xs us ys vs h.1 k)

-- and back: what stands beside two lists, one after the other, has two parts
pub AllZip-append_parts : {A B : Type 0} (R : A → B → Type 0) (xs us : List A) (ys : List B) → AllZip R (xs ++ us) ys → (front : List B) × (back : List B) × AllZip R xs front × AllZip R us back
AllZip-append_parts R [] us ys h = ([], ys, tt, h)
AllZip-append_parts R (x ∷ xs) us [] h = absurd h
AllZip-append_parts R (x ∷ xs) us (y ∷ ys) h =
    let rest = AllZip-append_parts R xs us ys h.1 in
    (y ∷ rest.0, rest.1, (h.0, rest.2), rest.3)

pub AllZip-get_or : {A B : Type 0} (R : A → B → Type 0) (xs : List A) (ys : List B) (i : ℕ) (d : A) (e : B) → AllZip R xs ys → i < length xs → R (get_or xs i d) (get_or ys i e)
AllZip-get_or R [] ys i d e h low = absurd (omega arith)
AllZip-get_or R (x ∷ xs) [] i d e h low = absurd h
AllZip-get_or R (x ∷ xs) (y ∷ ys) zero d e h low = h.0
AllZip-get_or R (x ∷ xs) (y ∷ ys) (suc i) d e h low = AllZip-get_or R xs ys i d e h.1 (omega arith)

-- and back, from each index
pub AllZip-from_get_or : {A B : Type 0} (R : A → B → Type 0) (xs : List A) (ys : List B) → length xs ≡ length ys → ((i : ℕ) (d : A) (e : B) → i < length xs → R (get_or xs i d) (get_or ys i e)) → AllZip R xs ys
AllZip-from_get_or R [] [] same h = tt
AllZip-from_get_or R [] (y ∷ ys) same h = absurd (omega arith)
AllZip-from_get_or R (x ∷ xs) [] same h = absurd (omega arith)
AllZip-from_get_or R (x ∷ xs) (y ∷ ys) same h = (h 0 x y (omega arith), AllZip-from_get_or R xs ys (omega arith) (λ i d e low. h (suc i) d e (omega arith)))

pub AllZip-weaker : {A B : Type 0} (R S : A → B → Type 0) → ((x : A) (y : B) → R x y → S x y) → (xs : List A) (ys : List B) → AllZip R xs ys → AllZip S xs ys
AllZip-weaker R S f [] [] h = tt
AllZip-weaker R S f [] (y ∷ ys) h = absurd h
AllZip-weaker R S f (x ∷ xs) [] h = absurd h
AllZip-weaker R S f (x ∷ xs) (y ∷ ys) h = (f x y h.0, AllZip-weaker R S f xs ys h.1)

-- what a list says of two others, they say of each other
pub AllZip-joined : {A B C : Type 0} (R : A → B → Type 0) (S : A → C → Type 0) (T : B → C → Type 0) → ((x : A) (y : B) (z : C) → R x y → S x z → T y z) → (xs : List A) (ys : List B) (zs : List C) → AllZip R xs ys → AllZip S xs zs → AllZip T ys zs
AllZip-joined R S T f [] [] [] h k = tt
AllZip-joined R S T f [] [] (z ∷ zs) h k = absurd k
AllZip-joined R S T f [] (y ∷ ys) zs h k = absurd h
AllZip-joined R S T f (x ∷ xs) [] zs h k = absurd h
AllZip-joined R S T f (x ∷ xs) (y ∷ ys) [] h k = absurd k
AllZip-joined R S T f (x ∷ xs) (y ∷ ys) (z ∷ zs) h k = (f x y z h.0 k.0, AllZip-joined R S T f xs ys zs h.1 k.1)

-- from one list over a second to a third
pub AllZip-through : {A B C : Type 0} (R : A → B → Type 0) (S : B → C → Type 0) (T : A → C → Type 0) → ((x : A) (y : B) (z : C) → R x y → S y z → T x z) → (xs : List A) (ys : List B) (zs : List C) → AllZip R xs ys → AllZip S ys zs → AllZip T xs zs
AllZip-through R S T f [] [] [] h k = tt
AllZip-through R S T f [] [] (z ∷ zs) h k = absurd k
AllZip-through R S T f [] (y ∷ ys) zs h k = absurd h
AllZip-through R S T f (x ∷ xs) [] zs h k = absurd h
AllZip-through R S T f (x ∷ xs) (y ∷ ys) [] h k = absurd k
AllZip-through R S T f (x ∷ xs) (y ∷ ys) (z ∷ zs) h k = (f x y z h.0 k.0, AllZip-through R S T f xs ys zs h.1 k.1)

-- where each item has a fellow there is a list of them, and where it has one there is one list
pub AllZip-exists : {A B : Type 0} (R : A → B → Type 0) → ((x : A) → (y : B) × R x y) → (xs : List A) → (ys : List B) × AllZip R xs ys
AllZip-exists R f [] = ([], tt)
AllZip-exists R f (x ∷ xs) =
    let first = f x in
    let rest = AllZip-exists R f xs in
    (first.0 ∷ rest.0, (first.1, rest.1))

pub AllZip-unique : {A B : Type 0} (R : A → B → Type 0) → ((x : A) (y z : B) → R x y → R x z → y ≡ z) → (xs : List A) (ys zs : List B) → AllZip R xs ys → AllZip R xs zs → ys ≡ zs
AllZip-unique R f [] [] [] h k = refl
AllZip-unique R f [] [] (z ∷ zs) h k = absurd k
AllZip-unique R f [] (y ∷ ys) zs h k = absurd h
AllZip-unique R f (x ∷ xs) [] zs h k = absurd h
AllZip-unique R f (x ∷ xs) (y ∷ ys) [] h k = absurd k
AllZip-unique R f (x ∷ xs) (y ∷ ys) (z ∷ zs) h k =
    let first = f x y z h.0 k.0 in
    let rest = AllZip-unique R f xs ys zs h.1 k.1 in
    cc

-- the items of f stand beside those that they are made of
pub AllZip-made : {A B : Type 0} (R : A → B → Type 0) (f : A → B) → ((x : A) → R x (f x)) → (xs : List A) → AllZip R xs (map f xs)
AllZip-made R f h [] = tt
AllZip-made R f h (x ∷ xs) = (h x, AllZip-made R f h xs)

-- a list made of another stands beside a third as the other does
pub AllZip-from_map : {A B C : Type 0} (R : B → C → Type 0) (f : A → B) (xs : List A) (ys : List C) → AllZip R (map f xs) ys → AllZip (λ x y. R (f x) y) xs ys
AllZip-from_map R f [] [] h = tt
AllZip-from_map R f [] (y ∷ ys) h = absurd h
AllZip-from_map R f (x ∷ xs) [] h = absurd h
AllZip-from_map R f (x ∷ xs) (y ∷ ys) h = (h.0, AllZip-from_map R f xs ys h.1)

-- ---- lists turned round

-- the last item comes first
pub reverse-push : {A : Type 0} (xs : List A) (x : A) → reverse (xs ++ x ∷ []) ≡ x ∷ reverse xs
reverse-push xs x = reverse-append xs (x ∷ [])

pub AllZip-reverse : {A B : Type 0} (R : A → B → Type 0) (xs : List A) (ys : List B) → AllZip R xs ys → AllZip R (reverse xs) (reverse ys)
AllZip-reverse R [] [] h = tt
AllZip-reverse R [] (y ∷ ys) h = absurd h
AllZip-reverse R (x ∷ xs) [] h = absurd h
AllZip-reverse R (x ∷ xs) (y ∷ ys) h = rw (reverse_onto xs x [], reverse_onto ys y []) (AllZip-push R (reverse xs) (reverse ys) x y (AllZip-reverse R xs ys h.1) h.0)

pub All-reverse : {A : Type 0} (P : A → Type 0) (xs : List A) → All P xs → All P (reverse xs)
All-reverse P [] h = h
All-reverse P (x ∷ xs) h =
    rw (reverse_onto xs x []) (All-append P (reverse xs) (x ∷ []) (All-reverse P xs (All-tail P x xs h)) (All-cons P x [] (All-head P x xs h) (All-nil P)))

-- ---- parts and items

-- where all that stands beside an item of one kind is of another kind, so is the list beside a list of the one
pub All-beside : {A B : Type 0} (P : A → Type 0) (R : A → B → Type 0) (Q : B → Type 0) → ((x : A) (y : B) → P x → R x y → Q y) → (xs : List A) (ys : List B) → All P xs → AllZip R xs ys → All Q ys
All-beside P R Q f [] [] all h = All-nil Q
All-beside P R Q f [] (y ∷ ys) all h = absurd h
All-beside P R Q f (x ∷ xs) [] all h = absurd h
All-beside P R Q f (x ∷ xs) (y ∷ ys) all h = All-cons Q y ys (f x y (All-head P x xs all) h.0) (All-beside P R Q f xs ys (All-tail P x xs all) h.1)

-- a list made of another contains what is made of the items, and nothing else
pub Contains-map : {A B : Type 0} (f : A → B) (xs : List A) (x : A) → Contains xs x → Contains (map f xs) (f x)
Contains-map f xs x h = (h.0, omega (arith, h.1, length-map xs f), get_or-map f xs h.0 x (f x) h.1 ∙ ap f h.2)

pub Contains-from_map : {A B : Type 0} (f : A → B) (xs : List A) (z : B) (d : A) → Contains (map f xs) z → (x : A) × Contains xs x × (f x ≡ z)
Contains-from_map f xs z d h =
    let there : h.0 < length xs = omega (arith, h.1, length-map xs f) in
    (get_or xs h.0 d, Contains-get_or xs h.0 d there, sym (get_or-map f xs h.0 d z there) ∙ h.2)

-- a part of a list stays as it is where the list goes on
pub slice_range-append : {A : Type 0} (s p : ℕ) (xs ys : List A) → p ≤ length xs → slice_range (xs ++ ys) s p ≡ slice_range xs s p
slice_range-append s p xs ys h =
    ⊎_elim
    (λ less. let none : p - s ≡ 0 = omega arith in rw none refl)
    (λ most.
    let front : s ≤ length xs = omega arith in
    let fits : p - s ≤ length (drop s xs) = omega (arith, length-drop s xs) in
    rw (drop-append-le s xs ys front) (take-append-le (p - s) (drop s xs) ys fits))
    (cases_lt p s)
