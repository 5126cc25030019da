-- One item with a property, in a list that is made of others.
use Rattle.std.proofs.Common.{◌≡◌, ℕ, zero, suc, ◌<◌, List, [], ◌∷◌, ◌++◌, length, get_or, refl, sym, subst, arith, ◌⊎◌, inl, inr, ⊎_elim}
use Rattle.std.specs.List.{All}
use Rattle.std.proofs.lemmas.List.Elements.{All-nil, All-cons, All-head, All-tail}
use Rattle.flk_report.specs.Verdict.{HasOne}

pub one_here : {A : Type 0} (P : A → Type 0) (x : A) (xs : List A) → P x → HasOne P (x ∷ xs)
one_here P x xs h = record { item = x; among = (0, omega arith, refl); holds = h }

pub one_later : {A : Type 0} (P : A → Type 0) (x : A) (xs : List A) → HasOne P xs → HasOne P (x ∷ xs)
one_later P x xs h = record { item = h.item; among = (suc h.among.0, omega (arith, h.among.1), h.among.2); holds = h.holds }

pub none_of_none : {A : Type 0} (P : A → Type 0) → HasOne P [] → ⊥
none_of_none P h = absurd (omega (arith, h.among.1))

at_either : {A : Type 0} (P : A → Type 0) (x : A) (xs : List A) (y : A) (k : ℕ) → k < length (x ∷ xs) → get_or (x ∷ xs) k y ≡ y → P y → P x ⊎ HasOne P xs
at_either P x xs y zero low is h = inl (subst P (sym is) h)
at_either P x xs y (suc k) low is h = inr (record { item = y; among = (k, omega (arith, low), is); holds = h })

pub one_either : {A : Type 0} (P : A → Type 0) (x : A) (xs : List A) → HasOne P (x ∷ xs) → P x ⊎ HasOne P xs
one_either P x xs h = at_either P x xs h.item h.among.0 h.among.1 h.among.2 h.holds

pub one_left : {A : Type 0} (P : A → Type 0) (xs ys : List A) → HasOne P xs → HasOne P (xs ++ ys)
one_left P [] ys h = absurd (none_of_none P h)
one_left P (x ∷ xs) ys h = ⊎_elim (λ here. one_here P x (xs ++ ys) here) (λ later. one_later P x (xs ++ ys) (one_left P xs ys later)) (one_either P x xs h)

pub one_right : {A : Type 0} (P : A → Type 0) (xs ys : List A) → HasOne P ys → HasOne P (xs ++ ys)
one_right P [] ys h = h
one_right P (x ∷ xs) ys h = one_later P x (xs ++ ys) (one_right P xs ys h)

pub one_side : {A : Type 0} (P : A → Type 0) (xs ys : List A) → HasOne P (xs ++ ys) → HasOne P xs ⊎ HasOne P ys
one_side P [] ys h = inr h
one_side P (x ∷ xs) ys h =
    ⊎_elim (λ here. inl (one_here P x xs here))
    (λ later. ⊎_elim (λ front. inl (one_later P x xs front)) (λ back. inr back) (one_side P xs ys later))
    (one_either P x (xs ++ ys) h)

-- ---- and a property of each item

pub all_left : {A : Type 0} (P : A → Type 0) (xs ys : List A) → All P (xs ++ ys) → All P xs
all_left P [] ys h = All-nil P
all_left P (x ∷ xs) ys h = All-cons P x xs (All-head P x (xs ++ ys) h) (all_left P xs ys (All-tail P x (xs ++ ys) h))

pub all_right : {A : Type 0} (P : A → Type 0) (xs ys : List A) → All P (xs ++ ys) → All P ys
all_right P [] ys h = h
all_right P (x ∷ xs) ys h = all_right P xs ys (All-tail P x (xs ++ ys) h)
