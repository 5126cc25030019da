-- From the inputs of a section to its outputs: how far exact values may lie from the rounded ones.
use Rattle.std.proofs.Common.{◌≡◌, ℕ, ◌*◌, ◌^◌, Bool, true, false, List, [], ◌∷◌, map, refl, ap, subst, ◌∙◌, arith}
use Rattle.std.proofs.Math.IntN.{ℤ, pos, ◌+ℤ◌, ◌-ℤ◌, ◌*ℤ◌}
use Rattle.std.specs.Prelude.{◌≤ℤ◌}
use Rattle.std.specs.Int.RustNames.{unsigned_abs}
use Rattle.std.specs.List.{All}
use Rattle.std.proofs.lemmas.Int.{ints}
use Rattle.std.proofs.lemmas.List.Elements.{All-nil, All-cons, All-head, All-tail}
use Rattle.flk_exact.specs.Fraction.{Fraction, ◌≤ℚ◌, ◌+ℚ◌, ◌*ℚ◌, whole, units}
use Rattle.flk_exact.specs.Rounding.{ceil_of}
use Rattle.flk_exact.proofs.WholeLemmas.{natural_is}
use Rattle.flk_exact.proofs.RoundingLemmas.{IsCeil-at}
use Rattle.flk_exact.proofs.FractionLemmas.{≤ℚ-trans}
use Rattle.flk_exact.proofs.ListLemmas.{AllZip-weaker}
use Rattle.flk_exact.proofs.NumeratorLemmas.{IsOver, AllOver, over_own, over_grow, over_sum, over_difference, over_size, same_over, over_at_most, at_most_over}
use Rattle.flk_cert.specs.declared.coefs.Coefs.{Coefs}
use Rattle.flk_cert.specs.declared.gain.Gain.{Gain}
use Rattle.flk_cert.specs.Gain.{coefs_of, input_of, rounding_of}
use Rattle.flk_cert.specs.Section.{coefficient, newest, second_newest, input_before, IsSection}
use Rattle.flk_cert.specs.RoundedSection.{outputs}
use Rattle.flk_cert.specs.Bound.{StartsAtRest, MayStart, IsInputNear, AllNear, IsErrorWithin}
use Rattle.flk_cert.proofs.RunLemmas.{over_coefficient, over_sum_of, sum_of, held_one}
use Rattle.flk_cert.proofs.GainLemmas.{gain_bounds, gain_input_natural, gain_rounding_natural}
use Rattle.flk_cert.proofs.PromiseLemmas.{bounds_each}
use Rattle.flk_section.specs.Radius.{radius_by, radius_after}
use Rattle.flk_section.specs.Kept.{rest, IsNearRest}

-- ---- the radius behind a section

-- it covers what a gain promises
pub radius_covers : (i t r : ℤ) → (coefficient i *ℚ units r +ℚ units t) ≤ℚ units (radius_by i t r)
radius_covers i t r =
    let d : ℕ = 2 ^ 48 in
    let c : ℤ = ceil_of (r *ℤ i) (pos (2 ^ 32)) in
    let up : (r *ℤ i) ≤ℤ (c *ℤ pos (2 ^ 32)) = (IsCeil-at (r *ℤ i) (pos (2 ^ 32)) c (omega (arith, ints)) refl).within in
    let scaled : IsOver (d * 2 ^ 32) (coefficient i *ℚ units r) (i *ℤ r) = over_coefficient d i (units r) r (over_own (units r)) in
    let share : IsOver (d * 2 ^ 32) (units t) (t *ℤ pos (2 ^ 32)) = over_grow d (2 ^ 32) (units t) t (over_own (units t)) in
    let right : IsOver (d * 2 ^ 32) (units (c +ℤ t)) ((c +ℤ t) *ℤ pos (2 ^ 32)) = over_grow d (2 ^ 32) (units (c +ℤ t)) (c +ℤ t) (over_own (units (c +ℤ t))) in
    at_most_over (d * 2 ^ 32) _ _ _ _ (omega arith) (omega (arith, ints, up)) (over_sum (d * 2 ^ 32) _ _ _ _ scaled share) right

pub natural_units : (r : ℤ) → pos 0 ≤ℤ r → whole (pos 0) ≤ℚ units r
natural_units r h = record { cross = omega (arith, ints) }

-- Where each exact input is within r units of the rounded section's, each exact output is within the next radius of its own.
pub section_near : (g : Gain) (from_one : Bool) (r : ℤ) (xs ys : List Fraction) (Xs : List ℤ) → MayStart (coefs_of g) from_one → pos 0 ≤ℤ r
    → IsSection (coefs_of g) from_one xs ys → AllNear (units r) xs Xs → AllNear (units (radius_after g r)) ys (outputs (coefs_of g) from_one Xs)
section_near g from_one r xs ys Xs may natural run near =
    AllZip-weaker (IsErrorWithin (input_of g) (rounding_of g) (units r)) (IsInputNear (units (radius_after g r)))
    (λ y Y h. record { near = ≤ℚ-trans _ _ _ h (radius_covers (input_of g) (rounding_of g) r) })
    ys (outputs (coefs_of g) from_one Xs)
    (bounds_each (coefs_of g) (input_of g) (rounding_of g) (gain_bounds g) from_one (units r) xs ys Xs may (natural_units r natural) run near)

pub radius_by_natural : (i t r : ℤ) → pos 0 ≤ℤ i → pos 0 ≤ℤ t → pos 0 ≤ℤ r → pos 0 ≤ℤ radius_by i t r
radius_by_natural i t r ni nt h =
    let c : ℤ = ceil_of (r *ℤ i) (pos (2 ^ 32)) in
    let up : (r *ℤ i) ≤ℤ (c *ℤ pos (2 ^ 32)) = (IsCeil-at (r *ℤ i) (pos (2 ^ 32)) c (omega (arith, ints)) refl).within in
    let e : r *ℤ i ≡ pos (unsigned_abs r * unsigned_abs i) = ap (λ (z : ℤ). z *ℤ i) (natural_is r h) ∙ ap (λ (z : ℤ). pos (unsigned_abs r) *ℤ z) (natural_is i ni) in
    omega (arith, ints, up, e, nt)

pub radius_natural : (g : Gain) (r : ℤ) → pos 0 ≤ℤ r → pos 0 ≤ℤ radius_after g r
radius_natural g r h = radius_by_natural (input_of g) (rounding_of g) r (gain_input_natural g) (gain_rounding_natural g) h

-- ---- a section at rest

pub may_start : (k : Coefs) (from_one : Bool) → (from_one ≡ true → StartsAtRest k) → MayStart k from_one
may_start k true h = h refl
may_start k false h = tt

-- the numerator of the input at rest
abbrev rest_number : Bool → ℤ
rest_number true = pos 1
rest_number false = pos 0

rest_over : (from_one : Bool) → IsOver 1 (input_before from_one) (rest_number from_one)
rest_over true = record { is = refl }
rest_over false = record { is = refl }

abbrev rests : Bool → List ℤ → List Fraction
rests from_one Xs = map (λ X. input_before from_one) Xs

abbrev zeros : List ℤ → List Fraction
zeros Xs = map (λ X. whole (pos 0)) Xs

newest_same : (u : ℤ) (Xs : List ℤ) → newest u (map (λ X. u) Xs) ≡ u
newest_same u [] = refl
newest_same u (X ∷ Xs) = refl

second_newest_same : (u : ℤ) (Xs : List ℤ) → second_newest u (map (λ X. u) Xs) ≡ u
second_newest_same u [] = refl
second_newest_same u (X ∷ Xs) = newest_same u Xs

same_over_each : (f : Fraction) (n : ℤ) (Xs : List ℤ) → IsOver 1 f n → AllOver 1 (map (λ X. f) Xs) (map (λ X. n) Xs)
same_over_each f n [] h = tt
same_over_each f n (X ∷ Xs) h = (h, same_over_each f n Xs h)

-- the right side of the equation is 0
rest_sum : (k : Coefs) (from_one : Bool) (u b1 b2 a1 a2 : ℤ) → MayStart k from_one → u ≡ rest_number from_one → b1 ≡ u → b2 ≡ u → a1 ≡ pos 0 → a2 ≡ pos 0
    → k.b0 *ℤ u +ℤ (k.b1 *ℤ b1 +ℤ k.b2 *ℤ b2 -ℤ k.a1 *ℤ a1 -ℤ k.a2 *ℤ a2) ≡ pos 0
rest_sum k true u b1 b2 a1 a2 may e e1 e2 z1 z2 = rw (e1, e2, z1, z2, e) (omega (arith, ints, may.opposite, may.none))
rest_sum k false u b1 b2 a1 a2 may e e1 e2 z1 z2 = rw (e1, e2, z1, z2, e) (omega (arith, ints))

-- its outputs are 0 throughout
rest_section : (k : Coefs) (from_one : Bool) (Xs : List ℤ) → MayStart k from_one → IsSection k from_one (rests from_one Xs) (zeros Xs)
rest_section k from_one [] may = tt
rest_section k from_one (X ∷ Xs) may =
    let u : ℤ = rest_number from_one in
    let zero_over : IsOver 1 (whole (pos 0)) (pos 0) = record { is = refl } in
    let ns : List ℤ = map (λ Z. u) Xs in
    let ms : List ℤ = map (λ Z. pos 0) Xs in
    let sum : IsOver (1 * 2 ^ 32) (sum_of k from_one (input_before from_one) (rests from_one Xs) (zeros Xs)) (k.b0 *ℤ u +ℤ held_one k u ns ms) =
    over_sum_of 1 k from_one u (input_before from_one) u (rests from_one Xs) (zeros Xs) ns ms (rest_over from_one) (rest_over from_one)
    (same_over_each (input_before from_one) u Xs (rest_over from_one)) (same_over_each (whole (pos 0)) (pos 0) Xs zero_over) in
    let none : k.b0 *ℤ u +ℤ held_one k u ns ms ≡ pos 0 =
    rest_sum k from_one u _ _ _ _ may refl (newest_same u Xs) (second_newest_same u Xs) (newest_same (pos 0) Xs) (second_newest_same (pos 0) Xs) in (
      same_over (1 * 2 ^ 32) (whole (pos 0)) (sum_of k from_one (input_before from_one) (rests from_one Xs) (zeros Xs)) (pos 0) (omega arith) (record { is = refl })
          (subst (λ (z : ℤ). IsOver (1 * 2 ^ 32) (sum_of k from_one (input_before from_one) (rests from_one Xs) (zeros Xs)) z) none sum),
      rest_section k from_one Xs may,
    )

rest_units : (from_one : Bool) → IsOver (2 ^ 48) (input_before from_one) (rest from_one)
rest_units true = record { is = refl }
rest_units false = record { is = refl }

near_rest : (from_one : Bool) (r X : ℤ) → IsNearRest from_one r X → IsInputNear (units r) (input_before from_one) X
near_rest from_one r X h =
    let gap = over_size (2 ^ 48) _ _ (over_difference (2 ^ 48) (input_before from_one) (units X) (rest from_one) X (rest_units from_one) (over_own (units X))) in
    record { near = at_most_over (2 ^ 48) _ _ _ _ (omega arith) (omega (arith, ints, h.near)) gap (over_own (units r)) }

all_near_rest : (from_one : Bool) (r : ℤ) (Xs : List ℤ) → All (IsNearRest from_one r) Xs → AllNear (units r) (rests from_one Xs) Xs
all_near_rest from_one r [] h = tt
all_near_rest from_one r (X ∷ Xs) h = (near_rest from_one r X (All-head (IsNearRest from_one r) X Xs h), all_near_rest from_one r Xs (All-tail (IsNearRest from_one r) X Xs h))

near_zero : (r Y : ℤ) → IsInputNear (units r) (whole (pos 0)) Y → IsNearRest false r Y
near_zero r Y h =
    let gap = over_size (2 ^ 48) _ _ (over_difference (2 ^ 48) (whole (pos 0)) (units Y) (pos 0) Y (rest_units false) (over_own (units Y))) in
    let least = over_at_most (2 ^ 48) _ _ _ _ (omega arith) h.near gap (over_own (units r)) in
    record { near = omega (arith, ints, least) }

all_near_zero : (r : ℤ) (Xs Ys : List ℤ) → AllNear (units r) (zeros Xs) Ys → All (IsNearRest false r) Ys
all_near_zero r [] [] h = All-nil (IsNearRest false r)
all_near_zero r [] (Y ∷ Ys) h = absurd h
all_near_zero r (X ∷ Xs) [] h = absurd h
all_near_zero r (X ∷ Xs) (Y ∷ Ys) h = All-cons (IsNearRest false r) Y Ys (near_zero r Y h.0) (all_near_zero r Xs Ys h.1)

-- Inputs that are within r of rest have outputs within the next radius of 0.
pub outputs_near_rest : (g : Gain) (from_one : Bool) (r : ℤ) (Xs : List ℤ) → MayStart (coefs_of g) from_one → pos 0 ≤ℤ r → All (IsNearRest from_one r) Xs
    → All (IsNearRest false (radius_after g r)) (outputs (coefs_of g) from_one Xs)
outputs_near_rest g from_one r Xs may natural near =
    let k = coefs_of g in
    all_near_zero (radius_after g r) Xs (outputs k from_one Xs)
    (section_near g from_one r (rests from_one Xs) (zeros Xs) Xs may natural (rest_section k from_one Xs may) (all_near_rest from_one r Xs near))
