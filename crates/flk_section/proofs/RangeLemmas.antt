-- How large the states of a section get, from what its gain promises: the exact run at rest is known, and each state is
-- seen in an output.
use Rattle.std.proofs.Common.{◌≡◌, ℕ, ◌+◌, ◌*◌, ◌^◌, ◌<◌, ◌≤◌, Bool, true, false, List, [], ◌∷◌, refl, sym, ap, subst, arith}
use Rattle.std.proofs.Math.IntN.{ℤ, pos, neg_ℤ, ◌+ℤ◌, ◌-ℤ◌, ◌*ℤ◌}
use Rattle.std.proofs.Math.Logic.{∥∥₁_elim, ∥∥₁_map}
use Rattle.std.proofs.Math.Nat.{mul-le-mul_right}
use Rattle.std.specs.Coded.{le_prop}
use Rattle.std.specs.Prelude.{negsuc, ◌≤ℤ◌, ◌<ℤ◌, if◌then◌else◌}
use Rattle.std.specs.Int.RustNames.{unsigned_abs}
use Rattle.std.specs.Int.Signed.{shr_z}
use Rattle.std.specs.List.{All}
use Rattle.std.proofs.lemmas.Int.{ints, unsigned_abs-mul}
use Rattle.std.proofs.lemmas.List.Elements.{All-nil, All-cons, All-head, All-tail}
use Rattle.flk_exact.specs.Rounding.{floor_of, ceil_of}
use Rattle.flk_exact.proofs.RoundingLemmas.{IsCeil-at}
use Rattle.flk_cert.specs.declared.coefs.Coefs.{Coefs}
use Rattle.flk_cert.specs.declared.gain.Gain.{Gain}
use Rattle.flk_cert.specs.Gain.{coefs_of, input_of}
use Rattle.flk_cert.specs.RoundedSection.{product, State, state, start, output, outputs, after}
use Rattle.flk_cert.specs.Bound.{MayStart}
use Rattle.flk_cert.proofs.RunLemmas.{lost_of, product_rounded}
use Rattle.flk_cert.proofs.GainLemmas.{gain_rounding_small}
use Rattle.flk_section.specs.Radius.{radius_after}
use Rattle.flk_section.specs.Kept.{rest, IsNearRest, IsReachedState}
use Rattle.flk_section.proofs.SectionLemmas.{outputs_near_rest, radius_natural}

-- a rounded product by a coefficient
pub product_small : (k v : ℤ) → unsigned_abs k ≤ 2 ^ 33 → unsigned_abs (product k v) ≤ 2 * unsigned_abs v + 1
product_small k v h =
    let b = product_rounded k v in
    let same : k *ℤ v ≡ pos (2 ^ 32) *ℤ product k v +ℤ pos (lost_of k v) = b.same in
    let less : lost_of k v < 2 ^ 32 = b.less in
    let size : unsigned_abs (k *ℤ v) ≡ unsigned_abs k * unsigned_abs v = unsigned_abs-mul k v in
    let most : unsigned_abs k * unsigned_abs v ≤ 2 ^ 33 * unsigned_abs v = mul-le-mul_right (unsigned_abs v) h in
    omega (arith, ints, same, less, size, most)

-- a shift rounds down
pub shift_is : (z : ℤ) → shr_z z (2 ^ 32) ≡ floor_of z (pos (2 ^ 32))
shift_is (pos n) = refl
shift_is (negsuc n) = refl

-- how far inputs below 2^60 lie from rest
abbrev wide : ℤ
wide = pos (2 ^ 60 + 2 ^ 48)

wide_near : (from_one : Bool) (X : ℤ) → unsigned_abs X < 2 ^ 60 → IsNearRest from_one wide X
wide_near true X h = record { near = omega (arith, ints) }
wide_near false X h = record { near = omega (arith, ints) }

rest_near : (from_one : Bool) (r : ℤ) → pos 0 ≤ℤ r → IsNearRest from_one r (rest from_one)
rest_near true r h = record { near = omega (arith, ints, h) }
rest_near false r h = record { near = omega (arith, ints, h) }

rest_small : (from_one : Bool) → unsigned_abs (rest from_one) ≤ 2 ^ 48
rest_small true = omega arith
rest_small false = omega arith

-- the input is below 2^60 in size
abbrev IsSmall : ℤ → Type 0
IsSmall X = unsigned_abs X < 2 ^ 60

all_wide : (from_one : Bool) (Xs : List ℤ) → All (λ X. unsigned_abs X < 2 ^ 60) Xs → All (IsNearRest from_one wide) Xs
all_wide from_one [] h = All-nil (IsNearRest from_one wide)
all_wide from_one (X ∷ Xs) h =
    All-cons (IsNearRest from_one wide) X Xs (wide_near from_one X (All-head IsSmall X Xs h)) (all_wide from_one Xs (All-tail IsSmall X Xs h))

radius_wide : (g : Gain) → input_of g <ℤ pos (2 ^ 36) → radius_after g wide ≤ℤ pos (2 ^ 65)
radius_wide g h =
    let c : ℤ = ceil_of (wide *ℤ input_of g) (pos (2 ^ 32)) in
    let least : (c *ℤ pos (2 ^ 32) -ℤ pos (2 ^ 32)) <ℤ (wide *ℤ input_of g) = (IsCeil-at (wide *ℤ input_of g) (pos (2 ^ 32)) c (omega (arith, ints)) refl).least in
    omega (arith, ints, least, h, gain_rounding_small g)

-- ---- states after inputs that lie near rest

-- the first state is the output for the input at rest, but for one product
pub first_within : (g : Gain) (from_one : Bool) (r : ℤ) (Xs : List ℤ) → MayStart (coefs_of g) from_one → pos 0 ≤ℤ r → All (IsNearRest from_one r) Xs
    → pos (unsigned_abs (state (coefs_of g) from_one Xs).s1) ≤ℤ (radius_after g r +ℤ pos (2 ^ 49 + 1))
first_within g from_one r Xs may natural near =
    let k : Coefs = coefs_of g in
    let all = outputs_near_rest g from_one r (rest from_one ∷ Xs) may natural (All-cons (IsNearRest from_one r) (rest from_one) Xs (rest_near from_one r natural) near) in
    let out = (All-head (IsNearRest false (radius_after g r)) (output k (state k from_one Xs) (rest from_one)) (outputs k from_one Xs) all).near in
    let p = product_small k.b0 (rest from_one) k.b0_small in
    omega (arith, ints, out, p, rest_small from_one)

-- a difference of two products, from what their factors lie within
products_within : (X Y p q e : ℤ) (r t : ℕ) → pos (unsigned_abs (X -ℤ e)) ≤ℤ pos r → pos (unsigned_abs (Y -ℤ pos 0)) ≤ℤ pos t → unsigned_abs e ≤ 2 ^ 48
    → unsigned_abs p ≤ 2 * unsigned_abs X + 1 → unsigned_abs q ≤ 2 * unsigned_abs Y + 1 → unsigned_abs (p -ℤ q) ≤ r + r + t + t + (2 ^ 49 + 2)
products_within X Y p q e r t x y small hp hq =
    let from : unsigned_abs X ≤ r + 2 ^ 48 = omega (arith, ints, x, small) in
    let to : unsigned_abs Y ≤ t = omega (arith, ints, y) in
    omega (arith, ints, from, to, hp, hq)

differ_within : (X Y p q e r t : ℤ) → pos (unsigned_abs (X -ℤ e)) ≤ℤ r → pos (unsigned_abs (Y -ℤ pos 0)) ≤ℤ t → unsigned_abs e ≤ 2 ^ 48
    → unsigned_abs p ≤ 2 * unsigned_abs X + 1 → unsigned_abs q ≤ 2 * unsigned_abs Y + 1 → pos (unsigned_abs (p -ℤ q)) ≤ℤ (r +ℤ r +ℤ t +ℤ t +ℤ pos (2 ^ 49 + 2))
differ_within X Y p q e (negsuc r) t x y small hp hq = absurd (omega (arith, ints, x))
differ_within X Y p q e (pos r) (negsuc t) x y small hp hq = absurd (omega (arith, ints, y))
differ_within X Y p q e (pos r) (pos t) x y small hp hq =
    let most = products_within X Y p q e r t x y small hp hq in
    omega (arith, ints, most)

-- the second one is a sum of two products
pub second_within : (g : Gain) (from_one : Bool) (r : ℤ) (Xs : List ℤ) → MayStart (coefs_of g) from_one → pos 0 ≤ℤ r → All (IsNearRest from_one r) Xs
    → pos (unsigned_abs (state (coefs_of g) from_one Xs).s2) ≤ℤ (r +ℤ r +ℤ radius_after g r +ℤ radius_after g r +ℤ pos (2 ^ 49 + 2))
second_within g true r [] may natural near = omega (arith, ints, natural, radius_natural g r natural)
second_within g false r [] may natural near = omega (arith, ints, natural, radius_natural g r natural)
second_within g from_one r (X ∷ Xs) may natural near =
    let k : Coefs = coefs_of g in
    let all = outputs_near_rest g from_one r (X ∷ Xs) may natural near in
    let Y : ℤ = output k (state k from_one Xs) X in
    let out = (All-head (IsNearRest false (radius_after g r)) Y (outputs k from_one Xs) all).near in
    let p : unsigned_abs (product k.b2 X) ≤ 2 * unsigned_abs X + 1 = product_small k.b2 X k.b2_small in
    let q : unsigned_abs (product k.a2 Y) ≤ 2 * unsigned_abs Y + 1 = product_small k.a2 Y k.a2_small in
    let x = (All-head (IsNearRest from_one r) X Xs near).near in
    differ_within X Y (product k.b2 X) (product k.a2 Y) (rest from_one) r (radius_after g r) x out (rest_small from_one) p q

-- ---- after inputs below 2^60

first_reached : (g : Gain) (from_one : Bool) (Xs : List ℤ) → MayStart (coefs_of g) from_one → input_of g <ℤ pos (2 ^ 36) → All (λ X. unsigned_abs X < 2 ^ 60) Xs
    → unsigned_abs (state (coefs_of g) from_one Xs).s1 ≤ 2 ^ 66
first_reached g from_one Xs may input small = omega (arith, ints, first_within g from_one wide Xs may (omega (arith, ints)) (all_wide from_one Xs small), radius_wide g input)

second_reached : (g : Gain) (from_one : Bool) (Xs : List ℤ) → MayStart (coefs_of g) from_one → input_of g <ℤ pos (2 ^ 36) → All (λ X. unsigned_abs X < 2 ^ 60) Xs
    → unsigned_abs (state (coefs_of g) from_one Xs).s2 ≤ 2 ^ 68
second_reached g from_one Xs may input small = omega (arith, ints, second_within g from_one wide Xs may (omega (arith, ints)) (all_wide from_one Xs small), radius_wide g input)

-- ---- of the state that the code holds

pub first_small : (g : Gain) (from_one : Bool) (s : State) → MayStart (coefs_of g) from_one → input_of g <ℤ pos (2 ^ 36) → ∥ IsReachedState (coefs_of g) from_one s ∥₁ → unsigned_abs s.s1 ≤ 2 ^ 66
first_small g from_one s may input r =
    ∥∥₁_elim r le_prop (λ (t : IsReachedState (coefs_of g) from_one s). subst (λ (z : State). unsigned_abs z.s1 ≤ 2 ^ 66) t.is (first_reached g from_one t.inputs may input t.small))

pub second_small : (g : Gain) (from_one : Bool) (s : State) → MayStart (coefs_of g) from_one → input_of g <ℤ pos (2 ^ 36) → ∥ IsReachedState (coefs_of g) from_one s ∥₁ → unsigned_abs s.s2 ≤ 2 ^ 68
second_small g from_one s may input r =
    ∥∥₁_elim r le_prop (λ (t : IsReachedState (coefs_of g) from_one s). subst (λ (z : State). unsigned_abs z.s2 ≤ 2 ^ 68) t.is (second_reached g from_one t.inputs may input t.small))

pub reached_after : (k : Coefs) (from_one : Bool) (s : State) (X : ℤ) → unsigned_abs X < 2 ^ 60 → ∥ IsReachedState k from_one s ∥₁ → ∥ IsReachedState k from_one (after k s X) ∥₁
reached_after k from_one s X small r =
    ∥∥₁_map r (λ (t : IsReachedState k from_one s). let made : IsReachedState k from_one (after k s X) = record { inputs = X ∷ t.inputs; small = All-cons IsSmall X t.inputs small t.small; is = ap (λ (z : State). after k z X) t.is } in made)

-- ---- what the code makes

pub start_is : (k : Coefs) (from_one : Bool) (z : ℤ) → z ≡ (if from_one then neg_ℤ (pos 65536 *ℤ k.b0) else pos 0) → start k from_one ≡ record { s1 = z; s2 = pos 0 }
start_is k true z e = let made : ℤ → State = λ y. record { s1 = y; s2 = pos 0 } in ap made (sym e)
start_is k false z e = let made : ℤ → State = λ y. record { s1 = y; s2 = pos 0 } in ap made (sym e)

pub after_is : (k : Coefs) (s : State) (X Y p q : ℤ) → Y ≡ output k s X → p ≡ product k.b1 X -ℤ product k.a1 Y → q ≡ product k.b2 X -ℤ product k.a2 Y
    → record { s1 = p +ℤ s.s2; s2 = q } ≡ after k s X
after_is k s X Y p q e f g = rw (f, g, e) refl
