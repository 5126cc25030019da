-- From bounds of numerators to those of fractions: what a gain promises.
use Rattle.std.proofs.Common.{◌≡◌, ℕ, ◌+◌, ◌*◌, ◌≤◌, ◌<◌, Bool, List, [], ◌∷◌, ◌++◌, get_or, ap, subst, ◌∙◌, arith}
use Rattle.std.proofs.Math.IntN.{ℤ, pos, ◌+ℤ◌, ◌-ℤ◌, ◌*ℤ◌, *ℤ_comm}
use Rattle.std.specs.Prelude.{◌^◌, true, false}
use Rattle.std.specs.Int.RustNames.{unsigned_abs}
use Rattle.std.proofs.Math.Nat.{mul-pos, mul-le-mul_right, le_of_mul-le-mul_left}
use Rattle.std.proofs.lemmas.Int.{ints, unsigned_abs-mul}
use Rattle.flk_exact.specs.Fraction.{Fraction, ◌≤ℚ◌, ◌+ℚ◌, ◌*ℚ◌, whole, units}
use Rattle.flk_exact.proofs.ProductLemmas.{lin, triangle, size_of_product_within, mul_assoc}
use Rattle.flk_exact.proofs.ListLemmas.{AllZip-append_parts, AllZip-get_or}
use Rattle.flk_exact.proofs.NumeratorLemmas.{IsOver, AllOver, over_grow, over_whole, over_units, over_sum, over_difference, over_times, over_size, same_over, over_at_most, at_most_over, natural_number, numerators}
use Rattle.flk_cert.specs.declared.coefs.Coefs.{Coefs}
use Rattle.flk_cert.specs.Section.{input_before, IsSection}
use Rattle.flk_cert.specs.RoundedSection.{output, state}
use Rattle.flk_cert.specs.Bound.{MayStart, AllNear, IsErrorWithin, Bounds, BoundsEach, BoundsFirst, BoundsSecond, KeepsSecond, first_error, second_error}
use Rattle.flk_cert.proofs.StepLemmas.{FirstBounded}
use Rattle.flk_cert.proofs.SampleLemmas.{moves}
use Rattle.flk_cert.proofs.RunLemmas.{to_numerators, over_coefficient, over_first_state, over_second_state, sample}
use Rattle.flk_cert.proofs.KeptLemmas.{NearWhole, before, error_one, error_two, KeepsFirst, KeepsBoth, second_error_zero}

-- ---- the output of one sample

pub out_bounded : (p s delta : ℕ) (b0 ε η e1 f0 : ℤ) (g h r : ℕ)
    → 0 < p
    → pos p *ℤ η ≡ b0 *ℤ ε +ℤ e1 +ℤ f0
    → unsigned_abs ε ≤ s → unsigned_abs f0 ≤ p * delta
    → FirstBounded p s delta g h e1
    → h + p ≤ p * r
    → p * unsigned_abs η ≤ (unsigned_abs b0 + g) * s + p * r * delta
out_bounded p s delta b0 ε η e1 f0 g h r hp e he hf h1 hr =
    let within = h1.within in
    let a : unsigned_abs e1 ≤ g * s + h * delta = le_of_mul-le-mul_left {k = p} (omega (arith, unsigned_abs-mul (pos p) e1)) hp in
    let b : unsigned_abs (b0 *ℤ ε) ≤ unsigned_abs b0 * s = size_of_product_within b0 ε _ _ (omega arith) he in
    let c = mul-le-mul_right delta hr in
    omega (arith, ap unsigned_abs e, unsigned_abs-mul (pos p) η, triangle (b0 *ℤ ε +ℤ e1) f0, triangle (b0 *ℤ ε) e1, c)

-- ---- a common denominator, in which one unit is delta

record Shared (s : Fraction) (xs ys : List Fraction) : Type 0 where
  pub delta : ℕ
  pub positive : 0 < delta
  pub doubt : ℕ
  pub inputs : List ℤ
  pub outputs : List ℤ
  pub doubt_over : IsOver (delta * 2 ^ 48) s (pos doubt)
  pub inputs_over : AllOver (delta * 2 ^ 48) xs inputs
  pub outputs_over : AllOver (delta * 2 ^ 48) ys outputs

shared : (s : Fraction) (xs ys : List Fraction) → whole (pos 0) ≤ℚ s → Shared s xs ys
shared s xs ys natural =
    let k = numerators (xs ++ (ys ++ s ∷ [])) in
    let scale : ℕ = k.base * 2 ^ 48 in
    let front = AllZip-append_parts (IsOver scale) xs (ys ++ s ∷ []) k.numbers k.over in
    let back = AllZip-append_parts (IsOver scale) ys (s ∷ []) front.1 front.3 in
    let own : IsOver scale s (get_or back.1 0 (pos 0)) = AllZip-get_or (IsOver scale) (s ∷ []) back.1 0 s (pos 0) back.3 (omega arith) in
    let doubt = natural_number scale s _ (omega (arith, ints, natural.cross)) own in
    record {
      delta = k.base;
      positive = k.some;
      doubt = doubt.number;
      inputs = front.0;
      outputs = back.0;
      doubt_over = doubt.over;
      inputs_over = front.2;
      outputs_over = back.2;
    }

pub over_before : (delta : ℕ) (from_one : Bool) → IsOver (delta * 2 ^ 48) (input_before from_one) (before from_one delta)
over_before delta true = over_whole (delta * 2 ^ 48) (pos 1)
over_before delta false = over_whole (delta * 2 ^ 48) (pos 0)

pub near_numerators : (delta s : ℕ) (sf : Fraction) (xs : List Fraction) (ns Xs : List ℤ)
    → 0 < delta → IsOver (delta * 2 ^ 48) sf (pos s) → AllOver (delta * 2 ^ 48) xs ns → AllNear sf xs Xs → NearWhole delta s ns Xs
near_numerators delta s sf [] [] [] hd hs hx a = tt
near_numerators delta s sf [] (n ∷ ns) Xs hd hs hx a = absurd hx
near_numerators delta s sf (x ∷ xs) [] Xs hd hs hx a = absurd hx
near_numerators delta s sf [] [] (X ∷ Xs) hd hs hx a = absurd a
near_numerators delta s sf (x ∷ xs) (n ∷ ns) [] hd hs hx a = absurd a
near_numerators delta s sf (x ∷ xs) (n ∷ ns) (X ∷ Xs) hd hs hx a =
    let d : ℕ = delta * 2 ^ 48 in
    let o = over_size d _ _ (over_difference d x (units X) n _ hx.0 (over_units delta X)) in
    let l = over_at_most d _ _ _ _ (mul-pos hd (omega arith)) a.0.near o hs in
    (omega (arith, ints, l), near_numerators delta s sf xs ns Xs hd hs hx.1 a.1)

pub within_back : (i r delta s : ℕ) (sf y : Fraction) (m Y : ℤ)
    → 0 < delta → IsOver (delta * 2 ^ 48) sf (pos s) → IsOver (delta * 2 ^ 48) y m
    → 2 ^ 32 * unsigned_abs (m -ℤ pos delta *ℤ Y) ≤ i * s + 2 ^ 32 * r * delta
    → IsErrorWithin (pos i) (pos r) sf y Y
within_back i r delta s sf y m Y hd hs hy h =
    let d : ℕ = delta * 2 ^ 48 in
    let left = over_grow d (2 ^ 32) _ _ (over_size d _ _ (over_difference d y (units Y) m _ hy (over_units delta Y))) in
    let right = over_sum (d * 2 ^ 32) _ _ _ _ (over_coefficient d (pos i) sf (pos s) hs) (over_grow d (2 ^ 32) (units (pos r)) _ (over_units delta (pos r))) in
    at_most_over (d * 2 ^ 32) _ _ _ _ (mul-pos (mul-pos hd (omega arith)) (omega arith)) (omega (arith, ints, h)) left right

newest_within : (k : Coefs) (g h r : ℕ) (from_one : Bool) (s : Fraction) (x y : Fraction) (xs ys : List Fraction) (X : ℤ) (Xs : List ℤ) (delta doubt : ℕ) (ns ms : List ℤ)
    → KeepsFirst k g h → h + 2 ^ 32 ≤ 2 ^ 32 * r → 0 < delta → IsOver (delta * 2 ^ 48) s (pos doubt) → AllOver (delta * 2 ^ 48) (x ∷ xs) ns → AllOver (delta * 2 ^ 48) (y ∷ ys) ms
    → MayStart k from_one → IsSection k from_one (x ∷ xs) (y ∷ ys) → AllNear s (x ∷ xs) (X ∷ Xs)
    → IsErrorWithin (pos (unsigned_abs k.b0 + g)) (pos r) s y (output k (state k from_one Xs) X)
newest_within k g h r from_one s x y xs ys X Xs delta doubt [] ms keeps hr hd hs hx hy may run near = absurd hx
newest_within k g h r from_one s x y xs ys X Xs delta doubt (n ∷ ns) [] keeps hr hd hs hx hy may run near = absurd hy
newest_within k g h r from_one s x y xs ys X Xs delta doubt (n ∷ ns) (m ∷ ms) keeps hr hd hs hx hy may run near =
    let rz = to_numerators (delta * 2 ^ 48) k from_one (before from_one delta) (x ∷ xs) (y ∷ ys) (n ∷ ns) (m ∷ ms) (mul-pos hd (omega arith)) (over_before delta from_one) hx hy run in
    let nz = near_numerators delta doubt s (x ∷ xs) (n ∷ ns) (X ∷ Xs) hd hs hx near in
    let b = keeps from_one doubt delta ns ms Xs may rz.1 nz.1 in
    let st = state k from_one Xs in
    let v = moves (2 ^ 32) doubt delta k n m _ _ _ _ X (output k st X) st.s1 st.s2 _ _ _ _ _ _ _ _ _ _ _ _ (sample k (before from_one delta) n m ns ms st X rz.0) nz.0 in
    let o = out_bounded (2 ^ 32) doubt delta k.b0 _ (m -ℤ pos delta *ℤ output k st X) _ _ g h r (omega arith) v.out v.inp v.r0 b hr in
    within_back (unsigned_abs k.b0 + g) r delta doubt s y m (output k st X) hd hs hy.0 o

pub bounds_of : (k : Coefs) (g h r : ℕ) → KeepsFirst k g h → h + 2 ^ 32 ≤ 2 ^ 32 * r → Bounds k (pos (unsigned_abs k.b0 + g)) (pos r)
bounds_of k g h r keeps hr from_one s x y xs ys X Xs may natural run near =
    let w = shared s (x ∷ xs) (y ∷ ys) natural in
    newest_within k g h r from_one s x y xs ys X Xs w.delta w.doubt w.inputs w.outputs keeps hr w.positive w.doubt_over w.inputs_over w.outputs_over may run near

-- ---- the states

pub over_first_error : (delta : ℕ) (k : Coefs) (from_one : Bool) (xs ys : List Fraction) (ns ms Xs : List ℤ) → AllOver (delta * 2 ^ 48) xs ns → AllOver (delta * 2 ^ 48) ys ms
    → IsOver (delta * 2 ^ 48 * 2 ^ 32) (first_error k from_one xs ys Xs) (error_one delta k from_one ns ms Xs)
over_first_error delta k from_one xs ys ns ms Xs hx hy =
    let d : ℕ = delta * 2 ^ 48 in
    let S : ℤ = (state k from_one Xs).s1 in
    let exact = over_first_state d k from_one (before from_one delta) xs ys ns ms (over_before delta from_one) hx hy in
    let grid = over_grow d (2 ^ 32) (units S) _ (over_units delta S) in
    let e : (pos delta *ℤ S) *ℤ pos (2 ^ 32) ≡ pos delta *ℤ (pos (2 ^ 32) *ℤ S) = mul_assoc (pos delta) S (pos (2 ^ 32)) ∙ ap (λ (z : ℤ). pos delta *ℤ z) (*ℤ_comm S (pos (2 ^ 32))) in
    over_difference (d * 2 ^ 32) _ _ _ _ exact (subst (λ (z : ℤ). IsOver (d * 2 ^ 32) (units S) z) e grid)

pub over_second_error : (delta : ℕ) (k : Coefs) (from_one : Bool) (xs ys : List Fraction) (ns ms Xs : List ℤ) → AllOver (delta * 2 ^ 48) xs ns → AllOver (delta * 2 ^ 48) ys ms
    → IsOver (delta * 2 ^ 48 * 2 ^ 32) (second_error k from_one xs ys Xs) (error_two delta k from_one ns ms Xs)
over_second_error delta k from_one xs ys ns ms Xs hx hy =
    let d : ℕ = delta * 2 ^ 48 in
    let S : ℤ = (state k from_one Xs).s2 in
    let exact = over_second_state d k from_one (before from_one delta) xs ys ns ms (over_before delta from_one) hx hy in
    let grid = over_grow d (2 ^ 32) (units S) _ (over_units delta S) in
    let e : (pos delta *ℤ S) *ℤ pos (2 ^ 32) ≡ pos delta *ℤ (pos (2 ^ 32) *ℤ S) = mul_assoc (pos delta) S (pos (2 ^ 32)) ∙ ap (λ (z : ℤ). pos delta *ℤ z) (*ℤ_comm S (pos (2 ^ 32))) in
    over_difference (d * 2 ^ 32) _ _ _ _ exact (subst (λ (z : ℤ). IsOver (d * 2 ^ 32) (units S) z) e grid)

-- `g*s + h`
over_bound : (delta doubt g h : ℕ) (s : Fraction) → IsOver (delta * 2 ^ 48) s (pos doubt)
    → IsOver (delta * 2 ^ 48 * 2 ^ 32) (whole (pos g) *ℚ s +ℚ units (pos h)) (pos (2 ^ 32 * (g * doubt + h * delta)))
over_bound delta doubt g h s hs =
    let d : ℕ = delta * 2 ^ 48 in
    let sum = over_grow d (2 ^ 32) _ _ (over_sum d _ _ _ _ (over_times d (pos g) s (pos doubt) hs) (over_units delta (pos h))) in
    subst (λ (z : ℤ). IsOver (d * 2 ^ 32) (whole (pos g) *ℚ s +ℚ units (pos h)) z) (omega (arith, ints)) sum

pub fine_positive : (delta : ℕ) → 0 < delta → 0 < delta * 2 ^ 48 * 2 ^ 32
fine_positive delta hd = mul-pos (mul-pos hd (omega arith)) (omega arith)

pub bounds_first_of : (k : Coefs) (g h : ℕ) → KeepsFirst k g h → BoundsFirst k (pos g) (pos h)
bounds_first_of k g h keeps from_one s xs ys Xs may natural run near =
    let w = shared s xs ys natural in
    let d : ℕ = w.delta * 2 ^ 48 in
    let rz = to_numerators d k from_one (before from_one w.delta) xs ys w.inputs w.outputs (mul-pos w.positive (omega arith)) (over_before w.delta from_one) w.inputs_over w.outputs_over run in
    let nz = near_numerators w.delta w.doubt s xs w.inputs Xs w.positive w.doubt_over w.inputs_over near in
    let b = keeps from_one w.doubt w.delta w.inputs w.outputs Xs may rz nz in
    let left = over_size (d * 2 ^ 32) _ _ (over_times (d * 2 ^ 32) (pos (2 ^ 32)) _ _ (over_first_error w.delta k from_one xs ys w.inputs w.outputs Xs w.inputs_over w.outputs_over)) in
    let least = b.within in
    at_most_over (d * 2 ^ 32) _ _ _ _ (fine_positive w.delta w.positive) (omega (arith, lin, least)) left (over_bound w.delta w.doubt g h s w.doubt_over)

pub bounds_second_of : (k : Coefs) (g h : ℕ) → KeepsBoth k g h → BoundsSecond k (pos g) (pos h)
bounds_second_of k g h keeps from_one s xs ys Xs some may natural run near =
    let w = shared s xs ys natural in
    let d : ℕ = w.delta * 2 ^ 48 in
    let rz = to_numerators d k from_one (before from_one w.delta) xs ys w.inputs w.outputs (mul-pos w.positive (omega arith)) (over_before w.delta from_one) w.inputs_over w.outputs_over run in
    let nz = near_numerators w.delta w.doubt s xs w.inputs Xs w.positive w.doubt_over w.inputs_over near in
    let b = keeps from_one w.doubt w.delta w.inputs w.outputs Xs may rz nz in
    let one = over_times (d * 2 ^ 32) k.a1 _ _ (over_first_error w.delta k from_one xs ys w.inputs w.outputs Xs w.inputs_over w.outputs_over) in
    let two = over_times (d * 2 ^ 32) (pos (2 ^ 32)) _ _ (over_second_error w.delta k from_one xs ys w.inputs w.outputs Xs w.inputs_over w.outputs_over) in
    let left = over_size (d * 2 ^ 32) _ _ (over_difference (d * 2 ^ 32) _ _ _ _ two one) in
    let least = b.within in
    at_most_over (d * 2 ^ 32) _ _ _ _ (fine_positive w.delta w.positive) (omega (arith, lin, least)) left (over_bound w.delta w.doubt g h s w.doubt_over)

pub keeps_second_of : (k : Coefs) (h : ℤ) → k.b2 ≡ pos 0 → k.a2 ≡ pos 0 → KeepsSecond k h
keeps_second_of k h b a from_one s xs ys Xs none may natural run near =
    let w = shared s xs ys natural in
    let d : ℕ = w.delta * 2 ^ 48 in
    let e = over_second_error w.delta k from_one xs ys w.inputs w.outputs Xs w.inputs_over w.outputs_over in
    let zero = second_error_zero k from_one w.delta w.inputs w.outputs Xs b a in
    same_over (d * 2 ^ 32) _ _ (pos 0) (fine_positive w.delta w.positive)
    (subst (λ (z : ℤ). IsOver (d * 2 ^ 32) (second_error k from_one xs ys Xs) z) zero e) (record { is = omega (arith, ints) })

-- ---- the bound of each output

pub bounds_each : (k : Coefs) (i r : ℤ) → Bounds k i r → BoundsEach k i r
bounds_each k i r b from_one s [] [] [] may natural run near = tt
bounds_each k i r b from_one s [] ys (X ∷ Xs) may natural run near = absurd near
bounds_each k i r b from_one s (x ∷ xs) ys [] may natural run near = absurd near
bounds_each k i r b from_one s [] (y ∷ ys) [] may natural run near = absurd run
bounds_each k i r b from_one s (x ∷ xs) [] (X ∷ Xs) may natural run near = absurd run
bounds_each k i r b from_one s (x ∷ xs) (y ∷ ys) (X ∷ Xs) may natural run near =
    (b from_one s x y xs ys X Xs may natural run near, bounds_each k i r b from_one s xs ys Xs may natural run.1 near.1)
