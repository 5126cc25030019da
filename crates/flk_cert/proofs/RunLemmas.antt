-- Runs of a section as whole numbers: the numerators of exact values over one common denominator.
use Rattle.std.proofs.Common.{◌≡◌, ℕ, ◌*◌, ◌<◌, Bool, List, [], ◌∷◌, refl, subst, ◌∙◌, arith}
use Rattle.std.proofs.Math.IntN.{ℤ, pos, ◌+ℤ◌, ◌-ℤ◌, ◌*ℤ◌, *ℤ_comm}
use Rattle.std.specs.Prelude.{◌^◌}
use Rattle.std.specs.Int.RustNames.{unsigned_abs}
use Rattle.std.proofs.Math.Nat.{mul_comm, mul-pos}
use Rattle.std.proofs.lemmas.Int.{ints}
use Rattle.flk_exact.specs.Fraction.{Fraction, ◌+ℚ◌, ◌-ℚ◌, ◌*ℚ◌}
use Rattle.flk_exact.proofs.RoundingLemmas.{IsFloor-floor_of, floor_rest}
use Rattle.flk_exact.proofs.ProductLemmas.{lin}
use Rattle.flk_exact.proofs.NumeratorLemmas.{IsOver, AllOver, over_own, over_grow, over_sum, over_difference, over_product, over_same}
use Rattle.flk_cert.specs.declared.coefs.Coefs.{Coefs}
use Rattle.flk_cert.specs.Section.{coefficient, newest, second_newest, input_before, output_before, IsSection, first_state, second_state}
use Rattle.flk_cert.specs.RoundedSection.{product, State, output, after}
use Rattle.flk_cert.proofs.SampleLemmas.{Rounded, Sample}

-- ---- from fractions to numerators

-- the numerators of the two states, times 2^32, and of the equation
abbrev pub held_one : Coefs → ℤ → List ℤ → List ℤ → ℤ
held_one k u ns ms = k.b1 *ℤ newest u ns +ℤ k.b2 *ℤ second_newest u ns -ℤ k.a1 *ℤ newest (pos 0) ms -ℤ k.a2 *ℤ second_newest (pos 0) ms

abbrev pub held_two : Coefs → ℤ → List ℤ → List ℤ → ℤ
held_two k u ns ms = k.b2 *ℤ newest u ns -ℤ k.a2 *ℤ newest (pos 0) ms

abbrev pub IsWholeSection : Coefs → ℤ → List ℤ → List ℤ → Type 0
IsWholeSection k u [] [] = Unit {0}
IsWholeSection k u [] (m ∷ ms) = ⊥
IsWholeSection k u (n ∷ ns) [] = ⊥
IsWholeSection k u (n ∷ ns) (m ∷ ms) = (pos (2 ^ 32) *ℤ m ≡ k.b0 *ℤ n +ℤ held_one k u ns ms) × IsWholeSection k u ns ms

pub over_coefficient : (delta : ℕ) (c : ℤ) (f : Fraction) (n : ℤ) → IsOver delta f n → IsOver (delta * 2 ^ 32) (coefficient c *ℚ f) (c *ℤ n)
over_coefficient delta c f n h =
    subst (λ (d : ℕ). IsOver d (coefficient c *ℚ f) (c *ℤ n)) (mul_comm (2 ^ 32) delta) (over_product (2 ^ 32) delta (coefficient c) f c n (over_own (coefficient c)) h)

pub over_newest : (delta : ℕ) (d : Fraction) (e : ℤ) (xs : List Fraction) (ns : List ℤ) → IsOver delta d e → AllOver delta xs ns → IsOver delta (newest d xs) (newest e ns)
over_newest delta d e [] [] h a = h
over_newest delta d e [] (n ∷ ns) h a = absurd a
over_newest delta d e (x ∷ xs) [] h a = absurd a
over_newest delta d e (x ∷ xs) (n ∷ ns) h a = a.0

pub over_second_newest : (delta : ℕ) (d : Fraction) (e : ℤ) (xs : List Fraction) (ns : List ℤ) → IsOver delta d e → AllOver delta xs ns → IsOver delta (second_newest d xs) (second_newest e ns)
over_second_newest delta d e [] [] h a = h
over_second_newest delta d e [] (n ∷ ns) h a = absurd a
over_second_newest delta d e (x ∷ xs) [] h a = absurd a
over_second_newest delta d e (x ∷ xs) (n ∷ ns) h a = over_newest delta d e xs ns h a.1

pub over_output_before : (delta : ℕ) → IsOver delta output_before (pos 0)
over_output_before delta = record { is = omega (arith, ints) }

pub over_first_state : (delta : ℕ) (k : Coefs) (from_one : Bool) (un : ℤ) (xs ys : List Fraction) (ns ms : List ℤ)
    → IsOver delta (input_before from_one) un → AllOver delta xs ns → AllOver delta ys ms → IsOver (delta * 2 ^ 32) (first_state k from_one xs ys) (held_one k un ns ms)
over_first_state delta k from_one un xs ys ns ms hu hx hy =
    let z = over_output_before delta in
    let i1 = over_coefficient delta k.b1 _ _ (over_newest delta (input_before from_one) un xs ns hu hx) in
    let i2 = over_coefficient delta k.b2 _ _ (over_second_newest delta (input_before from_one) un xs ns hu hx) in
    let o1 = over_coefficient delta k.a1 _ _ (over_newest delta output_before (pos 0) ys ms z hy) in
    let o2 = over_coefficient delta k.a2 _ _ (over_second_newest delta output_before (pos 0) ys ms z hy) in
    let d = delta * 2 ^ 32 in
    over_difference d _ _ _ _ (over_difference d _ _ _ _ (over_sum d _ _ _ _ i1 i2) o1) o2

pub over_second_state : (delta : ℕ) (k : Coefs) (from_one : Bool) (un : ℤ) (xs ys : List Fraction) (ns ms : List ℤ)
    → IsOver delta (input_before from_one) un → AllOver delta xs ns → AllOver delta ys ms → IsOver (delta * 2 ^ 32) (second_state k from_one xs ys) (held_two k un ns ms)
over_second_state delta k from_one un xs ys ns ms hu hx hy =
    let z = over_output_before delta in
    let i2 = over_coefficient delta k.b2 _ _ (over_newest delta (input_before from_one) un xs ns hu hx) in
    let o2 = over_coefficient delta k.a2 _ _ (over_newest delta output_before (pos 0) ys ms z hy) in
    over_difference (delta * 2 ^ 32) _ _ _ _ i2 o2

-- the right side of the equation
abbrev pub sum_of : Coefs → Bool → Fraction → List Fraction → List Fraction → Fraction
sum_of k from_one x xs ys =
    coefficient k.b0 *ℚ x +ℚ coefficient k.b1 *ℚ newest (input_before from_one) xs +ℚ coefficient k.b2 *ℚ second_newest (input_before from_one) xs
    -ℚ coefficient k.a1 *ℚ newest output_before ys -ℚ coefficient k.a2 *ℚ second_newest output_before ys

pub over_sum_of : (delta : ℕ) (k : Coefs) (from_one : Bool) (un : ℤ) (x : Fraction) (n : ℤ) (xs ys : List Fraction) (ns ms : List ℤ)
    → IsOver delta (input_before from_one) un → IsOver delta x n → AllOver delta xs ns → AllOver delta ys ms
    → IsOver (delta * 2 ^ 32) (sum_of k from_one x xs ys) (k.b0 *ℤ n +ℤ held_one k un ns ms)
over_sum_of delta k from_one un x n xs ys ns ms hu h hx hy =
    let z = over_output_before delta in
    let d = delta * 2 ^ 32 in
    let i0 = over_coefficient delta k.b0 x n h in
    let i1 = over_coefficient delta k.b1 _ _ (over_newest delta (input_before from_one) un xs ns hu hx) in
    let i2 = over_coefficient delta k.b2 _ _ (over_second_newest delta (input_before from_one) un xs ns hu hx) in
    let o1 = over_coefficient delta k.a1 _ _ (over_newest delta output_before (pos 0) ys ms z hy) in
    let o2 = over_coefficient delta k.a2 _ _ (over_second_newest delta output_before (pos 0) ys ms z hy) in
    let all = over_difference d _ _ _ _ (over_difference d _ _ _ _ (over_sum d _ _ _ _ (over_sum d _ _ _ _ i0 i1) i2) o1) o2 in
    subst (λ (w : ℤ). IsOver d (sum_of k from_one x xs ys) w) (omega (arith, lin)) all

-- a run of fractions is a run of numerators
pub to_numerators : (delta : ℕ) (k : Coefs) (from_one : Bool) (un : ℤ) (xs ys : List Fraction) (ns ms : List ℤ)
    → 0 < delta → IsOver delta (input_before from_one) un → AllOver delta xs ns → AllOver delta ys ms → IsSection k from_one xs ys → IsWholeSection k un ns ms
to_numerators delta k from_one un [] [] [] [] hd hu hx hy r = tt
to_numerators delta k from_one un [] ys (n ∷ ns) ms hd hu hx hy r = absurd hx
to_numerators delta k from_one un (x ∷ xs) ys [] ms hd hu hx hy r = absurd hx
to_numerators delta k from_one un xs [] ns (m ∷ ms) hd hu hx hy r = absurd hy
to_numerators delta k from_one un xs (y ∷ ys) ns [] hd hu hx hy r = absurd hy
to_numerators delta k from_one un [] (y ∷ ys) [] (m ∷ ms) hd hu hx hy r = absurd r
to_numerators delta k from_one un (x ∷ xs) [] (n ∷ ns) [] hd hu hx hy r = absurd r
to_numerators delta k from_one un (x ∷ xs) (y ∷ ys) (n ∷ ns) (m ∷ ms) hd hu hx hy r =
    let left = over_grow delta (2 ^ 32) y m hy.0 in
    let right = over_sum_of delta k from_one un x n xs ys ns ms hu hx.0 hx.1 hy.1 in
    let e = over_same (delta * 2 ^ 32) _ _ _ _ (mul-pos hd (omega arith)) r.0 left right in
    (*ℤ_comm (pos (2 ^ 32)) m ∙ e, to_numerators delta k from_one un xs ys ns ms hd hu hx.1 hy.1 r.1)

-- ---- the products of the rounded section

abbrev pub lost_of : ℤ → ℤ → ℕ
lost_of k v = unsigned_abs (k *ℤ v -ℤ pos (2 ^ 32) *ℤ product k v)

pub product_rounded : (k v : ℤ) → Rounded (2 ^ 32) k v (product k v) (lost_of k v)
product_rounded k v =
    let b = floor_rest (k *ℤ v) (2 ^ 32) (product k v) (IsFloor-floor_of (k *ℤ v) (2 ^ 32) (omega arith)) in
    record { same = b.0; less = b.1 }

pub sample : (k : Coefs) (u n m : ℤ) (ns ms : List ℤ) (g : State) (X : ℤ)
    → pos (2 ^ 32) *ℤ m ≡ k.b0 *ℤ n +ℤ held_one k u ns ms
    → Sample (2 ^ 32) k n m (held_one k u ns ms) (held_two k u ns ms) (held_one k u (n ∷ ns) (m ∷ ms)) (held_two k u (n ∷ ns) (m ∷ ms)) X (output k g X) g.s1 g.s2 (after k g X).s1 (after k g X).s2
    (product k.b0 X) (product k.b1 X) (product k.a1 (output k g X)) (product k.b2 X) (product k.a2 (output k g X))
    (lost_of k.b0 X) (lost_of k.b1 X) (lost_of k.a1 (output k g X)) (lost_of k.b2 X) (lost_of k.a2 (output k g X))
sample k u n m ns ms g X e =
    record {
      exact_out = e;
      exact_one = omega (arith, lin);
      exact_two = refl;
      grid_out = refl;
      grid_one = refl;
      grid_two = refl;
      p0 = product_rounded k.b0 X;
      p1 = product_rounded k.b1 X;
      p2 = product_rounded k.a1 (output k g X);
      p3 = product_rounded k.b2 X;
      p4 = product_rounded k.a2 (output k g X);
    }
