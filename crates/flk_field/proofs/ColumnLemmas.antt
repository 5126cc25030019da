-- The fields of a line, put one after another into an array.
use Rattle.std.proofs.Common.{◌≡◌, ℕ, ◌+◌, ◌<◌, ◌≤◌, List, [], ◌∷◌, ◌++◌, length, map, take, refl, sym, ap, ◌∙◌, arith, append_assoc, length-append}
use Rattle.std.proofs.Math.ListN.{set}
use Rattle.std.proofs.lemmas.List.{map-set, take_more_set, length-map, length-take-le, append-nil}

pub none_taken : {A : Type 0} (f : A → List ℕ) (xs : List A) (all : List (List ℕ)) → all ≡ take 0 (map f xs) ++ all
none_taken f xs all = refl

pub one_taken : {A : Type 0} (f : A → List ℕ) (xs : List A) (i : ℕ) (v : A) (all left next : List (List ℕ)) → i < length xs → all ≡ take i (map f xs) ++ left → left ≡ f v ∷ next
    → all ≡ take (i + 1) (map f (set xs i v)) ++ next
one_taken f xs i v all left next lt so is =
    let room : i < length (map f xs) = omega (arith, lt, length-map xs f) in
    let more : take (i + 1) (map f (set xs i v)) ≡ take i (map f xs) ++ f v ∷ [] = ap (take (i + 1)) (map-set f xs i v) ∙ take_more_set (map f xs) i (f v) room in
    so ∙ ap (λ (x : List (List ℕ)). take i (map f xs) ++ x) is ∙ sym (append_assoc (take i (map f xs)) (f v ∷ []) next) ∙ ap (λ (x : List (List ℕ)). x ++ next) (sym more)

taken_length : {A : Type 0} (f : A → List ℕ) (xs : List A) (i : ℕ) → i ≤ length xs → length (take i (map f xs)) ≡ i
taken_length f xs i le = length-take-le i (map f xs) (omega (arith, le, length-map xs f))

-- so many fields are taken, and these are left
pub taken_count : {A : Type 0} (f : A → List ℕ) (xs : List A) (i : ℕ) (all left : List (List ℕ)) → i ≤ length xs → all ≡ take i (map f xs) ++ left → length all ≡ i + length left
taken_count f xs i all left le so = ap length so ∙ length-append (take i (map f xs)) left ∙ ap (λ (n : ℕ). n + length left) (taken_length f xs i le)

pub all_taken : {A : Type 0} (f : A → List ℕ) (xs : List A) (i : ℕ) (all left : List (List ℕ)) → all ≡ take i (map f xs) ++ left → left ≡ [] → take i (map f xs) ≡ all
all_taken f xs i all left so none = sym (so ∙ ap (λ (x : List (List ℕ)). take i (map f xs) ++ x) none ∙ append-nil (take i (map f xs)))
