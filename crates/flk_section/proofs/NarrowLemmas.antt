-- A section's step on 64 bits: its products are those of the section, and its numbers stay small where the section's
-- inputs lie near its rest.
use Rattle.std.proofs.Common.{◌≡◌, ◌+◌, ◌*◌, ◌^◌, ◌<◌, ◌≤◌, Bool, false, ◌∷◌, refl, sym, ap, subst, ◌∙◌, arith}
use Rattle.std.proofs.Math.IntN.{ℤ, pos, neg_ℤ, ◌+ℤ◌, ◌-ℤ◌, ◌*ℤ◌}
use Rattle.std.proofs.Math.Logic.{∥∥₁_elim}
use Rattle.std.specs.Coded.{le_prop}
use Rattle.std.specs.Prelude.{◌<ℤ◌}
use Rattle.std.specs.Int.RustNames.{unsigned_abs}
use Rattle.std.proofs.Math.Nat.{mul-le-mul_right}
use Rattle.std.proofs.lemmas.Int.{ints, unsigned_abs-mul}
use Rattle.std.proofs.lemmas.List.Elements.{All-head, All-tail}
use Rattle.flk_exact.specs.Rounding.{floor_of, IsFloor}
use Rattle.flk_exact.proofs.RoundingLemmas.{IsFloor-floor_of, floor_of-at}
use Rattle.flk_exact.proofs.ProductLemmas.{mul_assoc, left_comm, neg_right}
use Rattle.flk_cert.specs.declared.coefs.Coefs.{Coefs}
use Rattle.flk_cert.specs.RoundedSection.{product, State, state, output, outputs, after}
use Rattle.flk_cert.specs.Bound.{MayStart}
use Rattle.flk_section.specs.declared.fine.FineCoefs.{FineCoefs}
use Rattle.flk_section.specs.declared.row_section.RowSection.{RowSection}
use Rattle.flk_section.specs.Narrow.{fine_product, fine_of, as_state}
use Rattle.flk_section.specs.declared.products.InputProducts.{InputProducts}
use Rattle.flk_section.specs.declared.products.OutputProducts.{OutputProducts}
use Rattle.flk_section.specs.Fine.{IsFine, AreInputProducts, AreOutputProducts}
use Rattle.flk_section.specs.declared.kind.SectionKind.{SectionKind}
use Rattle.flk_section.specs.declared.kind.SectionKind.TheVariants.{HighPass, LowPass, BandPass, LeadAndLag, Lag, Any}
use Rattle.flk_section.specs.Kinds.{HasKind, IsOfKind}
use Rattle.flk_section.specs.Kept.{IsNearRest}
use Rattle.flk_section.specs.Radius.{radius_after}
use Rattle.flk_section.specs.RowSection.{gain_of, coefs_in, starts_from_one, IsCalm}
use Rattle.flk_section.proofs.SectionLemmas.{may_start, outputs_near_rest}
use Rattle.flk_section.proofs.RangeLemmas.{first_within, second_within}

-- ---- products

-- a quotient rounded down stays where both of its parts are multiplied
finer : (w p q : ℤ) → w ≡ pos (2 ^ 29) *ℤ p → IsFloor p (pos (2 ^ 32)) q → IsFloor w (pos (2 ^ 61)) q
finer w p q e f =
    let within = f.within in
    let greatest = f.greatest in
    record { within = omega (arith, ints, e, within); greatest = omega (arith, ints, e, greatest) }

coarser : (w p q : ℤ) → w ≡ pos 8 *ℤ p → IsFloor w (pos (2 ^ 64)) q → IsFloor p (pos (2 ^ 61)) q
coarser w p q e f =
    let within = f.within in
    let greatest = f.greatest in
    record { within = omega (arith, ints, e, within); greatest = omega (arith, ints, e, greatest) }

pub fine_product_is : (k v : ℤ) → fine_product (fine_of k) v ≡ product k v
fine_product_is k v =
    let f = finer (fine_of k *ℤ v) (k *ℤ v) (product k v) (mul_assoc (pos (2 ^ 29)) k v) (IsFloor-floor_of (k *ℤ v) (2 ^ 32) (omega arith)) in
    sym (floor_of-at (fine_of k *ℤ v) (pos (2 ^ 61)) (product k v) (omega (arith, ints)) f)

-- a product is the upper half of a number of 128 bits
fine_product_half : (k v : ℤ) → floor_of (k *ℤ (pos 8 *ℤ v)) (pos (2 ^ 64)) ≡ fine_product k v
fine_product_half k v =
    let w : ℤ = k *ℤ (pos 8 *ℤ v) in
    let f = coarser w (k *ℤ v) (floor_of w (pos (2 ^ 64))) (left_comm k (pos 8) v) (IsFloor-floor_of w (2 ^ 64) (omega arith)) in
    floor_of-at (k *ℤ v) (pos (2 ^ 61)) (floor_of w (pos (2 ^ 64))) (omega (arith, ints)) f

pub half_of : (k v w p : ℤ) → w ≡ k *ℤ (pos 8 *ℤ v) → p ≡ floor_of w (pos (2 ^ 64)) → p ≡ fine_product k v
half_of k v w p wide e = e ∙ ap (λ (z : ℤ). floor_of z (pos (2 ^ 64))) wide ∙ fine_product_half k v

-- the products of the opposite and of the double of a coefficient, from its own before that is rounded
pub opposite_half : (k l v w p : ℤ) → l ≡ neg_ℤ k → w ≡ k *ℤ (pos 8 *ℤ v) → p ≡ floor_of (pos 0 -ℤ w) (pos (2 ^ 64)) → p ≡ fine_product l v
opposite_half k l v w p opposite wide e =
    let minus : pos 0 -ℤ w ≡ neg_ℤ w = omega (arith, ints) in
    half_of l v (pos 0 -ℤ w) p (minus ∙ ap neg_ℤ wide ∙ sym (ap (λ (z : ℤ). z *ℤ (pos 8 *ℤ v)) opposite ∙ neg_right k (pos 8 *ℤ v))) e

pub double_half : (k l v w p : ℤ) → l ≡ pos 2 *ℤ k → w ≡ k *ℤ (pos 8 *ℤ v) → p ≡ floor_of (pos 2 *ℤ w) (pos (2 ^ 64)) → p ≡ fine_product l v
double_half k l v w p double wide e =
    half_of l v (pos 2 *ℤ w) p (ap (λ (z : ℤ). pos 2 *ℤ z) wide ∙ sym (ap (λ (z : ℤ). z *ℤ (pos 8 *ℤ v)) double ∙ mul_assoc (pos 2) k (pos 8 *ℤ v))) e

-- a coefficient of 0 brings nothing
pub zero_product : (k v : ℤ) → k ≡ pos 0 → pos 0 ≡ fine_product k v
zero_product k v e =
    let none : pos 0 *ℤ v ≡ pos 0 = omega (arith, ints) in
    ap (λ (z : ℤ). floor_of z (pos (2 ^ 61))) (sym none) ∙ ap (λ (z : ℤ). fine_product z v) (sym e)

pub fine_product_small : (k v : ℤ) → unsigned_abs k ≤ 2 ^ 62 → unsigned_abs (fine_product k v) ≤ 2 * unsigned_abs v + 1
fine_product_small k v h =
    let f = IsFloor-floor_of (k *ℤ v) (2 ^ 61) (omega arith) in
    let within = f.within in
    let greatest = f.greatest in
    let size : unsigned_abs (k *ℤ v) ≡ unsigned_abs k * unsigned_abs v = unsigned_abs-mul k v in
    let most : unsigned_abs k * unsigned_abs v ≤ 2 ^ 62 * unsigned_abs v = mul-le-mul_right (unsigned_abs v) h in
    omega (arith, ints, within, greatest, size, most)

-- a product with a value below 2^60 in size
pub small_product : (k v p : ℤ) → unsigned_abs k ≤ 2 ^ 62 → unsigned_abs v < 2 ^ 60 → p ≡ fine_product k v → unsigned_abs p ≤ 2 ^ 61
small_product k v p coefficient value e =
    let small = fine_product_small k v coefficient in
    subst (λ (z : ℤ). unsigned_abs z ≤ 2 ^ 61) (sym e) (omega (arith, ints, small, value))

-- ---- a step

-- the kind of a section's coefficients is that of the same over 2^61
pub fine_kind : (kind : SectionKind) (k : Coefs) (f : FineCoefs) → IsFine k f → IsOfKind kind k → HasKind kind f.b0 f.b1 f.b2 f.a2
fine_kind HighPass k f fine h =
    let b0 = fine.b0 in
    let b1 = fine.b1 in
    let b2 = fine.b2 in
    let a2 = fine.a2 in
    (omega (arith, ints, b0, b1, h.0), omega (arith, ints, b2, h.1), omega (arith, ints, a2, h.2))
fine_kind LowPass k f fine h =
    let b0 = fine.b0 in
    let b1 = fine.b1 in
    let b2 = fine.b2 in
    (omega (arith, ints, b0, b1, h.0), omega (arith, ints, b0, b2, h.1))
fine_kind BandPass k f fine h =
    let b0 = fine.b0 in
    let b1 = fine.b1 in
    let b2 = fine.b2 in
    (omega (arith, ints, b1, h.0), omega (arith, ints, b0, b2, h.1))
fine_kind LeadAndLag k f fine h =
    let b2 = fine.b2 in
    let a2 = fine.a2 in
    (omega (arith, ints, b2, h.0), omega (arith, ints, a2, h.1))
fine_kind Lag k f fine h =
    let b0 = fine.b0 in
    let b1 = fine.b1 in
    let b2 = fine.b2 in
    let a2 = fine.a2 in
    (omega (arith, ints, b0, b1, h.0), omega (arith, ints, b2, h.1), omega (arith, ints, a2, h.2))
fine_kind Any k f fine h = tt

pub fine_output : (k : Coefs) (f : FineCoefs) (s : State) (X : ℤ) (p : InputProducts) → IsFine k f → AreInputProducts f X p → p.b0 +ℤ s.s1 ≡ output k s X
fine_output k f s X p fine input =
    let b0 : p.b0 ≡ product k.b0 X = input.b0 ∙ ap (λ (z : ℤ). fine_product z X) fine.b0 ∙ fine_product_is k.b0 X in
    ap (λ (z : ℤ). z +ℤ s.s1) b0

fine_fed_back : (a f Y Z q : ℤ) → f ≡ fine_of a → Y ≡ Z → q ≡ fine_product f Y → q ≡ product a Z
fine_fed_back a f Y Z q fine same is = is ∙ ap (λ (z : ℤ). fine_product z Y) fine ∙ fine_product_is a Y ∙ ap (λ (z : ℤ). product a z) same

pub fine_first : (k : Coefs) (f : FineCoefs) (s : State) (X Y : ℤ) (p : InputProducts) (q : OutputProducts) → IsFine k f → AreInputProducts f X p → AreOutputProducts f Y q
    → Y ≡ output k s X → p.b1 +ℤ s.s2 -ℤ q.a1 ≡ (after k s X).s1
fine_first k f s X Y p q fine input fed_back e =
    let b1 : p.b1 ≡ product k.b1 X = input.b1 ∙ ap (λ (z : ℤ). fine_product z X) fine.b1 ∙ fine_product_is k.b1 X in
    let a1 : q.a1 ≡ product k.a1 (output k s X) = fine_fed_back k.a1 f.a1 Y (output k s X) q.a1 fine.a1 e fed_back.a1 in
    omega (arith, ints, b1, a1)

fine_second : (k : Coefs) (f : FineCoefs) (s : State) (X Y : ℤ) (p : InputProducts) (q : OutputProducts) → IsFine k f → AreInputProducts f X p → AreOutputProducts f Y q
    → Y ≡ output k s X → p.b2 -ℤ q.a2 ≡ (after k s X).s2
fine_second k f s X Y p q fine input fed_back e =
    let b2 : p.b2 ≡ product k.b2 X = input.b2 ∙ ap (λ (z : ℤ). fine_product z X) fine.b2 ∙ fine_product_is k.b2 X in
    let a2 : q.a2 ≡ product k.a2 (output k s X) = fine_fed_back k.a2 f.a2 Y (output k s X) q.a2 fine.a2 e fed_back.a2 in
    omega (arith, ints, b2, a2)

-- the state that the code makes
pub narrow_after : (k : Coefs) (f : FineCoefs) (s : State) (X Y : ℤ) (p : InputProducts) (q : OutputProducts) (a b : ℤ) → IsFine k f → AreInputProducts f X p → AreOutputProducts f Y q
    → Y ≡ output k s X → a ≡ p.b1 +ℤ s.s2 -ℤ q.a1 → b ≡ p.b2 -ℤ q.a2 → record { s1 = a; s2 = b } ≡ after k s X
narrow_after k f s X Y p q a b fine input fed_back e first second =
    let x : a ≡ (after k s X).s1 = first ∙ fine_first k f s X Y p q fine input fed_back e in
    let y : b ≡ (after k s X).s2 = second ∙ fine_second k f s X Y p q fine input fed_back e in
    let made : ℤ → ℤ → State = λ u v. record { s1 = u; s2 = v } in
    ap (λ (z : ℤ). made z b) x ∙ ap (λ (z : ℤ). made (after k s X).s1 z) y

-- ---- how large the numbers get

pub section_may_start : (s : RowSection) (from_one : Bool) → starts_from_one s ≡ from_one → MayStart (coefs_in s) from_one
section_may_start s from_one e = may_start (coefs_in s) from_one (λ h. s.rests (e ∙ h))

calm_may : (s : RowSection) → MayStart (coefs_in s) (starts_from_one s)
calm_may s = section_may_start s (starts_from_one s) refl

pub near_small : (r X : ℤ) → IsNearRest false r X → r <ℤ pos (2 ^ 60) → unsigned_abs X < 2 ^ 60
near_small r X h small = let near = h.near in omega (arith, ints, near, small)

-- the first state, before a sample and after it
pub calm_first : (s : RowSection) (X : ℤ) → ∥ IsCalm s X ∥₁ → unsigned_abs (as_state s.state).s1 ≤ 2 ^ 61
calm_first s X h =
    ∥∥₁_elim h le_prop
    (λ (c : IsCalm s X).
    let near = All-tail (IsNearRest (starts_from_one s) c.r) X c.inputs c.near in
    let within = first_within (gain_of s) (starts_from_one s) c.r c.inputs (calm_may s) c.natural near in
    let small = c.radius in
    subst (λ (z : State). unsigned_abs z.s1 ≤ 2 ^ 61) (sym c.stands) (omega (arith, ints, within, small)))

pub calm_second : (s : RowSection) (X : ℤ) → ∥ IsCalm s X ∥₁ → unsigned_abs (as_state s.state).s2 ≤ 2 ^ 62 + 2 ^ 50
calm_second s X h =
    ∥∥₁_elim h le_prop
    (λ (c : IsCalm s X).
    let near = All-tail (IsNearRest (starts_from_one s) c.r) X c.inputs c.near in
    let within = second_within (gain_of s) (starts_from_one s) c.r c.inputs (calm_may s) c.natural near in
    let small = c.radius in
    let less = c.small in
    subst (λ (z : State). unsigned_abs z.s2 ≤ 2 ^ 62 + 2 ^ 50) (sym c.stands) (omega (arith, ints, within, small, less)))

pub calm_output : (s : RowSection) (X : ℤ) → ∥ IsCalm s X ∥₁ → unsigned_abs (output (coefs_in s) (as_state s.state) X) < 2 ^ 60
calm_output s X h =
    ∥∥₁_elim h le_prop
    (λ (c : IsCalm s X).
    let k : Coefs = coefs_in s in
    let r : ℤ = radius_after (gain_of s) c.r in
    let Y : ℤ = output k (state k (starts_from_one s) c.inputs) X in
    let near = outputs_near_rest (gain_of s) (starts_from_one s) c.r (X ∷ c.inputs) (calm_may s) c.natural c.near in
    let small : unsigned_abs Y < 2 ^ 60 = near_small r Y (All-head (IsNearRest false r) Y (outputs k (starts_from_one s) c.inputs) near) c.radius in
    subst (λ (z : State). unsigned_abs (output k z X) < 2 ^ 60) (sym c.stands) small)

pub calm_after : (s : RowSection) (X : ℤ) → ∥ IsCalm s X ∥₁ → unsigned_abs (after (coefs_in s) (as_state s.state) X).s1 ≤ 2 ^ 61
calm_after s X h =
    ∥∥₁_elim h le_prop
    (λ (c : IsCalm s X).
    let within = first_within (gain_of s) (starts_from_one s) c.r (X ∷ c.inputs) (calm_may s) c.natural c.near in
    let small = c.radius in
    subst (λ (z : State). unsigned_abs (after (coefs_in s) z X).s1 ≤ 2 ^ 61) (sym c.stands) (omega (arith, ints, within, small)))
