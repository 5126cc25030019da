-- Ends of 64 bits and wide ones, together: how many they are, where each stands, their range and their order.
use Rattle.std.proofs.Common.{◌≡◌, ℕ, ◌+◌, ◌-◌, ◌^◌, ◌<◌, ◌≤◌, false, List, [], ◌∷◌, ◌++◌, length, map, get_or, ℤ, pos, ◌≤ℤ◌, ap, ◌∙◌, ⊎_elim, arith, append_assoc, length-append}
use Rattle.std.specs.List.{All}
use Rattle.std.specs.List.Sorted.{IsPermutation, IsSorted}
use Rattle.std.specs.Ordering.{nat_cmp, int_cmp, is_lt}
use Rattle.std.proofs.lemmas.Bool.{cases_lt}
use Rattle.std.proofs.lemmas.Bool.Decides.{nat_tests}
use Rattle.std.proofs.lemmas.Int.{ints}
use Rattle.std.proofs.lemmas.List.{length-map, map-append, get_or-map, get_or_append_left, get_or-append_right}
use Rattle.std.proofs.lemmas.List.Elements.{All-append, All-map, All-from_get_or}
use Rattle.std.proofs.lemmas.List.Sorted.{IsPermutation-refl, IsPermutation-map, IsPermutation-append, IsPermutation-append_right, IsPermutation-to_front}
use Rattle.flk_stat.specs.Rank.{rank_of}
use Rattle.flk_stat.specs.Severity.{IsLevelEnd}
use Rattle.flk_stat.specs.Ranked.{IsWideEnd, together, ranked_at}
use Rattle.flk_stat.proofs.PercentileLemmas.{less-false}

-- ---- how many, and where each stands

pub together_length : (narrow : List ℕ) (wide : List ℤ) → length (together narrow wide) ≡ length narrow + length wide
together_length narrow wide = omega (arith, length-append (map pos narrow) wide, length-map narrow pos)

pub narrow_at : (narrow : List ℕ) (wide : List ℤ) (i : ℕ) (d : ℤ) → i < length narrow → get_or (together narrow wide) i d ≡ pos (get_or narrow i 0)
narrow_at narrow wide i d here =
    let inside : i < length (map pos narrow) = omega (arith, here, length-map narrow pos) in
    get_or_append_left (map pos narrow) wide d i inside ∙ get_or-map pos narrow i 0 d here

pub wide_at : (narrow : List ℕ) (wide : List ℤ) (i : ℕ) (d : ℤ) → length narrow ≤ i → get_or (together narrow wide) i d ≡ get_or wide (i - length narrow) d
wide_at narrow wide i d behind = get_or-append_right (map pos narrow) wide (length narrow) i d (length-map narrow pos) behind

-- the one of a rank that is not among the wide ones
pub ranked_narrow : (narrow : List ℕ) (wide : List ℤ) (n k : ℕ) → length wide < rank_of k n → rank_of k n ≤ length narrow + length wide
    → ranked_at (together narrow wide) n k ≡ pos (get_or narrow (length narrow - (rank_of k n - length wide)) 0)
ranked_narrow narrow wide n k behind within =
    let all = together_length narrow wide in
    let i : ℕ = length (together narrow wide) - rank_of k n in
    let inside : i < length narrow = omega (arith, all, behind, within) in
    let place : i ≡ length narrow - (rank_of k n - length wide) = omega (arith, all, behind, within) in
    narrow_at narrow wide i (pos 0) inside ∙ ap (λ (j : ℕ). pos (get_or narrow j 0)) place

-- ---- their range

narrow_end : (x : ℕ) → x < 2 ^ 64 → IsLevelEnd (pos x)
narrow_end x small = record { low = omega (arith, ints); high = omega (arith, ints, small) }

narrow_ends : (narrow : List ℕ) → ((k : ℕ) → get_or narrow k 0 < 2 ^ 64) → All IsLevelEnd (map pos narrow)
narrow_ends narrow small = All-map IsLevelEnd pos narrow (All-from_get_or (λ x. IsLevelEnd (pos x)) narrow 0 (λ k less. narrow_end (get_or narrow k 0) (small k)))

wide_end : (z : ℤ) → IsWideEnd z → IsLevelEnd z
wide_end z h = record { low = omega (arith, ints, h.low); high = h.high }

pub wide_ends : (wide : List ℤ) → All IsWideEnd wide → All IsLevelEnd wide
wide_ends wide h = λ k d less. wide_end (get_or wide k d) (h k d less)

pub ends_together : (narrow : List ℕ) (wide : List ℤ) → ((k : ℕ) → get_or narrow k 0 < 2 ^ 64) → All IsLevelEnd wide → All IsLevelEnd (together narrow wide)
ends_together narrow wide small h = All-append IsLevelEnd (map pos narrow) wide (narrow_ends narrow small) h

pub natural_ends : (narrow : List ℕ) (wide : List ℤ) → All IsWideEnd wide → All (λ z. pos 0 ≤ℤ z) (together narrow wide)
natural_ends narrow wide h =
    All-append (λ z. pos 0 ≤ℤ z) (map pos narrow) wide
    (All-map (λ z. pos 0 ≤ℤ z) pos narrow (λ k d less. omega (arith, ints)))
    (λ k d less. (let e = h k d less in omega (arith, ints, e.low)))

-- ---- their order

pub nat_not_less : (a b : ℕ) → is_lt (nat_cmp a b) ≡ false → b ≤ a
nat_not_less a b h = ⊎_elim (λ l. absurd (grind (arith, nat_tests, h))) (λ l. l) (cases_lt a b)

at_most_not_less : (a b : ℤ) → b ≤ℤ a → is_lt (int_cmp a b) ≡ false
at_most_not_less a b h = grind (arith, ints, nat_tests, less-false a b h)

pub natural_≤ : (a b : ℕ) → a ≤ b → pos a ≤ℤ pos b
natural_≤ a b h = omega (arith, ints, h)

narrow_below_wide : (x : ℕ) (z : ℤ) → x < 2 ^ 64 → IsWideEnd z → pos x ≤ℤ z
narrow_below_wide x z small h = omega (arith, ints, small, h.low)

-- what stands at a place and behind it
rises_at : (narrow : List ℕ) (wide : List ℤ) (k : ℕ) (d : ℤ) → ((k : ℕ) → get_or narrow k 0 < 2 ^ 64) → All IsWideEnd wide → IsSorted nat_cmp narrow → IsSorted int_cmp wide
    → k + 1 < length narrow + length wide → is_lt (int_cmp (get_or (together narrow wide) (k + 1) d) (get_or (together narrow wide) k d)) ≡ false
rises_at narrow wide k d small h up rise less =
    let n = length narrow in
    ⊎_elim
    (λ inside.
    let here : k < n = omega (arith, inside) in
    let order = nat_not_less (get_or narrow (k + 1) 0) (get_or narrow k 0) (up k 0 (omega arith) inside) in
    rw (narrow_at narrow wide (k + 1) d inside, narrow_at narrow wide k d here)
    (at_most_not_less (pos (get_or narrow (k + 1) 0)) (pos (get_or narrow k 0)) (natural_≤ (get_or narrow k 0) (get_or narrow (k + 1) 0) order)))
    (λ behind.
    ⊎_elim
    (λ last.
    let place : k + 1 - n < length wide = omega (arith, behind, last, less) in
    let x = small k in
    let z = h (k + 1 - n) d place in
    rw (wide_at narrow wide (k + 1) d behind, narrow_at narrow wide k d last)
    (at_most_not_less (get_or wide (k + 1 - n) d) (pos (get_or narrow k 0)) (narrow_below_wide (get_or narrow k 0) (get_or wide (k + 1 - n) d) x z)))
    (λ past.
    let next : k + 1 - n ≡ (k - n) + 1 = omega (arith, past) in
    let fits : (k - n) + 1 < length wide = omega (arith, past, less) in
    let none : 0 ≤ k - n = omega arith in
    rw (wide_at narrow wide (k + 1) d behind, wide_at narrow wide k d past, next) (rise (k - n) d none fits))
    (cases_lt k n))
    (cases_lt (k + 1) n)

pub together_rises : (narrow : List ℕ) (wide : List ℤ) → ((k : ℕ) → get_or narrow k 0 < 2 ^ 64) → All IsWideEnd wide → IsSorted nat_cmp narrow → IsSorted int_cmp wide → IsSorted int_cmp (together narrow wide)
together_rises narrow wide small h up rise = λ k d low less. rises_at narrow wide k d small h up rise (omega (arith, less, together_length narrow wide))

-- ---- in another order

pub together_moved : (narrow moved : List ℕ) (wide others : List ℤ) → IsPermutation narrow moved → IsPermutation wide others → IsPermutation (together narrow wide) (together moved others)
together_moved narrow moved wide others h g = IsPermutation-append (map pos narrow) (map pos moved) wide others (IsPermutation-map pos narrow moved h) g

-- a wide end more
pub wide_more : (narrow : List ℕ) (wide : List ℤ) (z : ℤ) → IsPermutation (together narrow wide ++ z ∷ []) (together narrow (wide ++ z ∷ []))
wide_more narrow wide z = rw (append_assoc (map pos narrow) wide (z ∷ [])) (IsPermutation-refl (map pos narrow ++ (wide ++ z ∷ [])))

-- an end of 64 bits more
pub narrow_more : (narrow : List ℕ) (wide : List ℤ) (x : ℕ) → IsPermutation (together narrow wide ++ pos x ∷ []) (together (narrow ++ x ∷ []) wide)
narrow_more narrow wide x =
    let moved : IsPermutation (map pos narrow ++ (wide ++ pos x ∷ [])) (map pos narrow ++ (pos x ∷ wide)) =
    IsPermutation-append_right (map pos narrow) (wide ++ pos x ∷ []) (pos x ∷ wide) (IsPermutation-to_front wide (pos x)) in
    rw (map-append pos narrow (x ∷ []), append_assoc (map pos narrow) wide (pos x ∷ []), append_assoc (map pos narrow) (pos x ∷ []) wide) moved
