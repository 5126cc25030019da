-- How long the lists of a recording's steps are, and lists that are made index by index.
use Rattle.std.proofs.Common.{◌≡◌, ℕ, zero, suc, ◌+◌, ◌-◌, ◌*◌, ◌<◌, ◌≤◌, Bool, List, [], ◌∷◌, length, drop, get_or, refl, ◌∙◌, arith, length-drop}
use Rattle.std.proofs.Math.Nat.{mul-le-mul_right}
use Rattle.std.proofs.lemmas.List.{length-take}
use Rattle.flk_exact.specs.Fraction.{Fraction}
use Rattle.flk_num.specs.declared.interval.Interval.{Interval}
use Rattle.flk_cert.specs.declared.coefs.Coefs.{Coefs}
use Rattle.flk_cert.specs.Section.{IsSection}
use Rattle.flk_front.specs.declared.point.Point.{Point}
use Rattle.flk_front.specs.Adaptor.{IsAdapted}
use Rattle.flk_front.specs.Rounded.{ArePoints}
use Rattle.flk_section.specs.Cascade.{AreSections}
use Rattle.flk_section.specs.Filter.{FilterNumbers}
use Rattle.flk_section.specs.Answer.{AreAnswers}
use Rattle.flk_stat.specs.Smoothing.{AreLevels}
use Rattle.flk_stat.specs.Rounded.{AreLevelIntervals}
use Rattle.flk_result.specs.Conditions.{Conditions, of_interval, AreEnough, AreSensible}

-- ---- one item for each sample

pub points_length : (e : ℕ) (vs : List Interval) (ps : List Point) → ArePoints e vs ps → length ps ≡ length vs
points_length e [] [] h = refl
points_length e [] (p ∷ ps) h = absurd h
points_length e (v ∷ vs) [] h = absurd h
points_length e (v ∷ vs) (p ∷ ps) h = omega (arith, points_length e vs ps h.1)

pub answers_length : (f : FilterNumbers) (ps qs : List Point) → AreAnswers f ps qs → length qs ≡ length ps
answers_length f [] [] h = refl
answers_length f [] (q ∷ qs) h = absurd h
answers_length f (p ∷ ps) [] h = absurd h
answers_length f (p ∷ ps) (q ∷ qs) h = omega (arith, answers_length f ps qs h.1)

pub intervals_length : (c : ℕ) (ws : List Point) (vs : List Interval) → AreLevelIntervals c ws vs → length vs ≡ length ws
intervals_length c [] [] h = refl
intervals_length c [] (v ∷ vs) h = absurd h
intervals_length c (w ∷ ws) [] h = absurd h
intervals_length c (w ∷ ws) (v ∷ vs) h = omega (arith, intervals_length c ws vs h.1)

pub outputs_length : (e : ℕ) (us means ys : List Fraction) → IsAdapted e us means ys → length ys ≡ length us
outputs_length e [] [] ys h = absurd h
outputs_length e [] (m ∷ []) [] h = refl
outputs_length e [] (m ∷ []) (y ∷ ys) h = absurd h
outputs_length e [] (m ∷ n ∷ means) ys h = absurd h
outputs_length e (u ∷ us) [] ys h = absurd h
outputs_length e (u ∷ us) (m ∷ []) ys h = absurd h
outputs_length e (u ∷ us) (m ∷ n ∷ means) [] h = absurd h
outputs_length e (u ∷ us) (m ∷ n ∷ means) (y ∷ ys) h = omega (arith, outputs_length e us (n ∷ means) ys h.2)

section_length : (k : Coefs) (from_one : Bool) (xs ys : List Fraction) → IsSection k from_one xs ys → length ys ≡ length xs
section_length k from_one [] [] h = refl
section_length k from_one [] (y ∷ ys) h = absurd h
section_length k from_one (x ∷ xs) [] h = absurd h
section_length k from_one (x ∷ xs) (y ∷ ys) h = omega (arith, section_length k from_one xs ys h.1)

pub sections_length : (ks : List Coefs) (from_one : Bool) (xs ys : List Fraction) → AreSections ks from_one xs ys → length ys ≡ length xs
sections_length [] from_one xs ys h = rw h refl
sections_length (k ∷ ks) from_one xs ys h = sections_length ks _ h.0 ys h.2 ∙ section_length k from_one xs h.0 h.1

pub levels_length : (c : ℕ) (ws ps : List Fraction) → AreLevels c ws ps → length ps ≡ length ws
levels_length c [] [] h = refl
levels_length c [] (p ∷ ps) h = absurd h
levels_length c (w ∷ ws) [] h = absurd h
levels_length c (w ∷ ws) (p ∷ ps) h = omega (arith, levels_length c ws ps h.1)

-- ---- the items of an interval

-- an interval that is judged has an item
pub interval_some : {A : Type 0} (c : Conditions) (i : ℕ) (xs : List A) → AreSensible c → AreEnough c (length xs) → i < c.count → 0 < length (of_interval c i xs)
interval_some c i xs sensible enough low =
    let s = c.run_in + i * c.interval in
    let most : (i + 1) * c.interval ≤ c.count * c.interval = mul-le-mul_right c.interval (omega (arith, low)) in
    let some = sensible.interval in
    omega (arith, most, some, enough, length-take (c.run_in + (i + 1) * c.interval - s) (drop s xs), length-drop s xs)

-- ---- lists by index

place : {A : Type 0} (P : ℕ → A → Type 0) (d x : A) (xs : List A) (n i : ℕ) → P 0 x → ((j : ℕ) → j < n → P (suc j) (get_or xs j d)) → i < suc n → P i (get_or (x ∷ xs) i d)
place P d x xs n zero first rest low = first
place P d x xs n (suc i) first rest low = rest i (omega (arith, low))

-- where there is an item for each index, there is a list of them
pub list_by_index : {A : Type 0} (P : ℕ → A → Type 0) (d : A) (n : ℕ) → ((i : ℕ) → i < n → (x : A) × P i x) → (xs : List A) × (length xs ≡ n) × ((i : ℕ) → i < n → P i (get_or xs i d))
list_by_index P d zero each = ([], refl, λ i low. absurd (omega (arith, low)))
list_by_index P d (suc n) each =
    let first = each 0 (omega arith) in
    let rest = list_by_index (λ i x. P (suc i) x) d n (λ i low. each (suc i) (omega (arith, low))) in
    (first.0 ∷ rest.0, omega (arith, rest.1), λ i low. place P d first.0 rest.0 n i first.1 rest.2 low)
