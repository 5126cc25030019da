-- Runs of sections in a row as whole numbers over one common denominator, in which delta is one unit, and what a gain promises of them.
use Rattle.std.proofs.Common.{◌≡◌, ℕ, ◌+◌, ◌*◌, ◌<◌, ◌≤◌, false, List, [], ◌∷◌, ◌++◌, map, refl, sym, ap, subst, ◌∙◌, arith}
use Rattle.std.proofs.Math.IntN.{ℤ, pos, ◌+ℤ◌, ◌-ℤ◌, ◌*ℤ◌, *ℤ_comm}
use Rattle.std.specs.Prelude.{◌^◌, ◌≤ℤ◌, ◌<ℤ◌}
use Rattle.std.specs.List.{AllZip}
use Rattle.std.specs.Int.RustNames.{unsigned_abs}
use Rattle.std.proofs.Math.Nat.{mul-pos}
use Rattle.std.proofs.lemmas.Int.{ints}
use Rattle.flk_exact.specs.Fraction.{Fraction, ◌≤ℚ◌, ◌+ℚ◌, ◌*ℚ◌, whole, units}
use Rattle.flk_exact.proofs.WholeLemmas.{natural_is}
use Rattle.flk_exact.proofs.ListLemmas.{AllZip-append_parts, AllZip-from_map, AllZip-weaker}
use Rattle.flk_exact.proofs.NumeratorLemmas.{IsOver, AllOver, over_own, over_grow, over_units, over_sum, over_difference, over_times, over_size, over_same, same_over, over_at_most, at_most_over}
use Rattle.flk_cert.specs.declared.coefs.Coefs.{Coefs}
use Rattle.flk_cert.specs.declared.gain.Gain.{Gain}
use Rattle.flk_cert.specs.Gain.{coefs_of, input_of, rounding_of, first_input_of, first_rounding_of, second_input_of, second_rounding_of}
use Rattle.flk_cert.specs.Section.{IsSection}
use Rattle.flk_cert.specs.RoundedSection.{outputs}
use Rattle.flk_cert.specs.Bound.{IsInputNear, AllNear, IsErrorWithin}
use Rattle.flk_cert.proofs.RunLemmas.{IsWholeSection, held_one, sum_of, over_coefficient, over_sum_of, to_numerators}
use Rattle.flk_cert.proofs.KeptLemmas.{before, error_one, error_two}
use Rattle.flk_cert.proofs.PromiseLemmas.{over_before, over_first_error, over_second_error, bounds_each, fine_positive}
use Rattle.flk_cert.proofs.GainLemmas.{gain_bounds, gain_bounds_first, gain_bounds_second, gain_keeps_second, gain_input_natural, gain_rounding_natural}
use Rattle.flk_section.specs.Cascade.{AreSections}

-- ---- numerators as fractions

scale_positive : (delta : ℕ) → 0 < delta → 0 < delta * 2 ^ 48
scale_positive delta some = mul-pos some (omega arith)

-- the fraction of a numerator
abbrev fraction_of : (delta : ℕ) → 0 < delta → ℤ → Fraction
fraction_of delta some n = record { num = n; den = delta * 2 ^ 48; positive = scale_positive delta some }

-- a bound on errors of b, over 2^32 times the denominator
abbrev error_bound : (delta : ℕ) → 0 < delta → ℕ → Fraction
error_bound delta some b = record { num = pos b; den = delta * 2 ^ 48 * 2 ^ 32; positive = fine_positive delta some }

over_fractions : (delta : ℕ) (some : 0 < delta) (ns : List ℤ) → AllOver (delta * 2 ^ 48) (map (fraction_of delta some) ns) ns
over_fractions delta some [] = tt
over_fractions delta some (n ∷ ns) = (record { is = refl }, over_fractions delta some ns)

section_of_whole : (delta : ℕ) (some : 0 < delta) (k : Coefs) (ns ms : List ℤ) → IsWholeSection k (before false delta) ns ms
    → IsSection k false (map (fraction_of delta some) ns) (map (fraction_of delta some) ms)
section_of_whole delta some k [] [] h = tt
section_of_whole delta some k [] (m ∷ ms) h = absurd h
section_of_whole delta some k (n ∷ ns) [] h = absurd h
section_of_whole delta some k (n ∷ ns) (m ∷ ms) h =
    let d : ℕ = delta * 2 ^ 48 in
    let frac = fraction_of delta some in
    let right = over_sum_of d k false (before false delta) (frac n) n (map frac ns) (map frac ms) ns ms (over_before delta false) (record { is = refl }) (over_fractions delta some ns) (over_fractions delta some ms) in
    let left : IsOver (d * 2 ^ 32) (frac m) (m *ℤ pos (2 ^ 32)) = over_grow d (2 ^ 32) (frac m) m (record { is = refl }) in
    let e : k.b0 *ℤ n +ℤ held_one k (before false delta) ns ms ≡ m *ℤ pos (2 ^ 32) = sym h.0 ∙ *ℤ_comm (pos (2 ^ 32)) m in
    let same : IsOver (d * 2 ^ 32) (sum_of k false (frac n) (map frac ns) (map frac ms)) (m *ℤ pos (2 ^ 32)) =
    subst (λ (z : ℤ). IsOver (d * 2 ^ 32) (sum_of k false (frac n) (map frac ns) (map frac ms)) z) e right in
    (same_over (d * 2 ^ 32) (frac m) (sum_of k false (frac n) (map frac ns) (map frac ms)) _ (fine_positive delta some) left same, section_of_whole delta some k ns ms h.1)

-- ---- near numbers

-- 2^32 times the distance of the numerator n from X units is at most b
pub record IsNumberNear (delta b : ℕ) (n X : ℤ) : Type 0 where
  pub near : 2 ^ 32 * unsigned_abs (n -ℤ pos delta *ℤ X) ≤ b

abbrev pub AreNear : ℕ → ℕ → List ℤ → List ℤ → Type 0
AreNear delta b ns Xs = AllZip (IsNumberNear delta b) ns Xs

near_fraction : (delta : ℕ) (some : 0 < delta) (b : ℕ) (n X : ℤ) → IsNumberNear delta b n X → IsInputNear (error_bound delta some b) (fraction_of delta some n) X
near_fraction delta some b n X h =
    let d : ℕ = delta * 2 ^ 48 in
    let gap = over_grow d (2 ^ 32) _ _ (over_size d _ _ (over_difference d (fraction_of delta some n) (units X) n (pos delta *ℤ X) (record { is = refl }) (over_units delta X))) in
    let near = h.near in
    record { near = at_most_over (d * 2 ^ 32) _ _ _ _ (fine_positive delta some) (omega (arith, ints, near)) gap (over_own (error_bound delta some b)) }

near_fractions : (delta : ℕ) (some : 0 < delta) (b : ℕ) (ns Xs : List ℤ) → AreNear delta b ns Xs → AllNear (error_bound delta some b) (map (fraction_of delta some) ns) Xs
near_fractions delta some b [] [] h = tt
near_fractions delta some b [] (X ∷ Xs) h = absurd h
near_fractions delta some b (n ∷ ns) [] h = absurd h
near_fractions delta some b (n ∷ ns) (X ∷ Xs) h = (near_fraction delta some b n X h.0, near_fractions delta some b ns Xs h.1)

bound_natural : (delta : ℕ) (some : 0 < delta) (b : ℕ) → whole (pos 0) ≤ℚ error_bound delta some b
bound_natural delta some b = record { cross = omega (arith, ints) }

-- ---- what a gain promises of numerators

output_near : (delta : ℕ) (some : 0 < delta) (b c i r : ℕ) (m Y : ℤ) → i * b + 2 ^ 32 * (2 ^ 32 * (r * delta)) ≤ 2 ^ 32 * c
    → IsErrorWithin (pos i) (pos r) (error_bound delta some b) (fraction_of delta some m) Y → IsNumberNear delta c m Y
output_near delta some b c i r m Y enough h =
    let d : ℕ = delta * 2 ^ 48 in
    let s = error_bound delta some b in
    let gap = over_grow (d * 2 ^ 32) (2 ^ 32) _ _ (over_grow d (2 ^ 32) _ _ (over_size d _ _ (over_difference d (fraction_of delta some m) (units Y) m (pos delta *ℤ Y) (record { is = refl }) (over_units delta Y)))) in
    let share = over_grow (d * 2 ^ 32) (2 ^ 32) _ _ (over_grow d (2 ^ 32) _ _ (over_units delta (pos r))) in
    let right = over_sum (d * 2 ^ 32 * 2 ^ 32) _ _ _ _ (over_coefficient (d * 2 ^ 32) (pos i) s (pos b) (over_own s)) share in
    let most = over_at_most (d * 2 ^ 32 * 2 ^ 32) _ _ _ _ (mul-pos (fine_positive delta some) (omega arith)) h gap right in
    record { near = omega (arith, ints, most, enough) }

pub outputs_near : (g : Gain) (delta : ℕ) (some : 0 < delta) (b c : ℕ) (ns ms Xs : List ℤ) → IsWholeSection (coefs_of g) (before false delta) ns ms → AreNear delta b ns Xs
    → unsigned_abs (input_of g) * b + 2 ^ 32 * (2 ^ 32 * (unsigned_abs (rounding_of g) * delta)) ≤ 2 ^ 32 * c → AreNear delta c ms (outputs (coefs_of g) false Xs)
outputs_near g delta some b c ns ms Xs run near enough =
    let k = coefs_of g in
    let frac = fraction_of delta some in
    let s = error_bound delta some b in
    let all = bounds_each k (input_of g) (rounding_of g) (gain_bounds g) false s (map frac ns) (map frac ms) Xs tt (bound_natural delta some b) (section_of_whole delta some k ns ms run) (near_fractions delta some b ns Xs near) in
    let i = natural_is (input_of g) (gain_input_natural g) in
    let r = natural_is (rounding_of g) (gain_rounding_natural g) in
    AllZip-weaker (λ m Y. IsErrorWithin (input_of g) (rounding_of g) s (frac m) Y) (IsNumberNear delta c)
    (λ m Y h.
    let at : IsErrorWithin (pos (unsigned_abs (input_of g))) (pos (unsigned_abs (rounding_of g))) s (frac m) Y =
    subst (λ (z : ℤ). IsErrorWithin z (pos (unsigned_abs (rounding_of g))) s (frac m) Y) i (subst (λ (z : ℤ). IsErrorWithin (input_of g) z s (frac m) Y) r h) in
    output_near delta some b c (unsigned_abs (input_of g)) (unsigned_abs (rounding_of g)) m Y enough at)
    ms (outputs k false Xs) (AllZip-from_map (IsErrorWithin (input_of g) (rounding_of g) s) frac ms (outputs k false Xs) all)

-- `g*b + h*delta*2^32`, over the errors' denominator
over_state_bound : (delta : ℕ) (some : 0 < delta) (b : ℕ) (g h : ℤ)
    → IsOver (delta * 2 ^ 48 * 2 ^ 32) (whole g *ℚ error_bound delta some b +ℚ units h) (g *ℤ pos b +ℤ (pos delta *ℤ h) *ℤ pos (2 ^ 32))
over_state_bound delta some b g h =
    let d : ℕ = delta * 2 ^ 48 in
    over_sum (d * 2 ^ 32) _ _ _ _ (over_times (d * 2 ^ 32) g (error_bound delta some b) (pos b) (over_own (error_bound delta some b))) (over_grow d (2 ^ 32) _ _ (over_units delta h))

-- the right side, for natural numbers
natural_bound : (delta b : ℕ) (g h : ℤ) → pos 0 ≤ℤ g → pos 0 ≤ℤ h
    → g *ℤ pos b +ℤ (pos delta *ℤ h) *ℤ pos (2 ^ 32) ≡ pos (unsigned_abs g * b + delta * unsigned_abs h * 2 ^ 32)
natural_bound delta b g h ng nh =
    let e1 : g *ℤ pos b ≡ pos (unsigned_abs g * b) = ap (λ (z : ℤ). z *ℤ pos b) (natural_is g ng) in
    let e2 : (pos delta *ℤ h) *ℤ pos (2 ^ 32) ≡ pos (delta * unsigned_abs h * 2 ^ 32) = ap (λ (z : ℤ). (pos delta *ℤ z) *ℤ pos (2 ^ 32)) (natural_is h nh) in
    omega (arith, ints, e1, e2)

pub first_near : (g : Gain) (delta : ℕ) (some : 0 < delta) (b : ℕ) (ns ms Xs : List ℤ) → pos 0 ≤ℤ first_input_of g → pos 0 ≤ℤ first_rounding_of g
    → IsWholeSection (coefs_of g) (before false delta) ns ms → AreNear delta b ns Xs
    → unsigned_abs (pos (2 ^ 32) *ℤ error_one delta (coefs_of g) false ns ms Xs) ≤ unsigned_abs (first_input_of g) * b + delta * unsigned_abs (first_rounding_of g) * 2 ^ 32
first_near g delta some b ns ms Xs ng nh run near =
    let k = coefs_of g in
    let d : ℕ = delta * 2 ^ 48 in
    let frac = fraction_of delta some in
    let h = gain_bounds_first g false (error_bound delta some b) (map frac ns) (map frac ms) Xs tt (bound_natural delta some b) (section_of_whole delta some k ns ms run) (near_fractions delta some b ns Xs near) in
    let left = over_size (d * 2 ^ 32) _ _ (over_times (d * 2 ^ 32) (pos (2 ^ 32)) _ _ (over_first_error delta k false (map frac ns) (map frac ms) ns ms Xs (over_fractions delta some ns) (over_fractions delta some ms))) in
    let most = over_at_most (d * 2 ^ 32) _ _ _ _ (fine_positive delta some) h left (over_state_bound delta some b (first_input_of g) (first_rounding_of g)) in
    omega (arith, ints, most, natural_bound delta b (first_input_of g) (first_rounding_of g) ng nh)

pub second_near : (g : Gain) (delta : ℕ) (some : 0 < delta) (b : ℕ) (ns ms Xs : List ℤ) → pos 0 ≤ℤ second_input_of g → pos 0 <ℤ second_rounding_of g
    → IsWholeSection (coefs_of g) (before false delta) ns ms → AreNear delta b ns Xs
    → unsigned_abs (pos (2 ^ 32) *ℤ error_two delta (coefs_of g) false ns ms Xs -ℤ (coefs_of g).a1 *ℤ error_one delta (coefs_of g) false ns ms Xs)
    ≤ unsigned_abs (second_input_of g) * b + delta * unsigned_abs (second_rounding_of g) * 2 ^ 32
second_near g delta some b ns ms Xs ng nh run near =
    let k = coefs_of g in
    let d : ℕ = delta * 2 ^ 48 in
    let frac = fraction_of delta some in
    let h = gain_bounds_second g false (error_bound delta some b) (map frac ns) (map frac ms) Xs nh tt (bound_natural delta some b) (section_of_whole delta some k ns ms run) (near_fractions delta some b ns Xs near) in
    let one = over_times (d * 2 ^ 32) k.a1 _ _ (over_first_error delta k false (map frac ns) (map frac ms) ns ms Xs (over_fractions delta some ns) (over_fractions delta some ms)) in
    let two = over_times (d * 2 ^ 32) (pos (2 ^ 32)) _ _ (over_second_error delta k false (map frac ns) (map frac ms) ns ms Xs (over_fractions delta some ns) (over_fractions delta some ms)) in
    let left = over_size (d * 2 ^ 32) _ _ (over_difference (d * 2 ^ 32) _ _ _ _ two one) in
    let most = over_at_most (d * 2 ^ 32) _ _ _ _ (fine_positive delta some) h left (over_state_bound delta some b (second_input_of g) (second_rounding_of g)) in
    let low : pos 0 ≤ℤ second_rounding_of g = omega (arith, ints, nh) in
    omega (arith, ints, most, natural_bound delta b (second_input_of g) (second_rounding_of g) ng low)

pub second_none : (g : Gain) (delta : ℕ) (some : 0 < delta) (b : ℕ) (ns ms Xs : List ℤ) → second_rounding_of g ≡ pos 0
    → IsWholeSection (coefs_of g) (before false delta) ns ms → AreNear delta b ns Xs → error_two delta (coefs_of g) false ns ms Xs ≡ pos 0
second_none g delta some b ns ms Xs none run near =
    let k = coefs_of g in
    let d : ℕ = delta * 2 ^ 48 in
    let frac = fraction_of delta some in
    let h = gain_keeps_second g false (error_bound delta some b) (map frac ns) (map frac ms) Xs none tt (bound_natural delta some b) (section_of_whole delta some k ns ms run) (near_fractions delta some b ns Xs near) in
    over_same (d * 2 ^ 32) _ _ _ _ (fine_positive delta some) h (over_second_error delta k false (map frac ns) (map frac ms) ns ms Xs (over_fractions delta some ns) (over_fractions delta some ms)) (record { is = omega (arith, ints) })

-- ---- sections in a row

-- each section's numerators are those of the outputs of the section before it
abbrev pub AreWhole : ℕ → List Gain → List ℤ → List (List ℤ) → Type 0
AreWhole delta [] ns [] = Unit {0}
AreWhole delta (g ∷ gs) ns (ms ∷ mss) = IsWholeSection (coefs_of g) (before false delta) ns ms × AreWhole delta gs ms mss
AreWhole delta _ _ _ = ⊥

-- the last signal
abbrev pub last_signal : List ℤ → List (List ℤ) → List ℤ
last_signal ns [] = ns
last_signal ns (ms ∷ mss) = last_signal ms mss

-- all values of a run
abbrev pub values : (ks : List Coefs) (xs ys : List Fraction) → AreSections ks false xs ys → List Fraction
values [] xs ys run = xs
values (k ∷ ks) xs ys run = xs ++ values ks run.0 ys run.2

pub record WholeRun (delta : ℕ) (gs : List Gain) (xs ys : List Fraction) : Type 0 where
  pub inputs : List ℤ
  pub signals : List (List ℤ)
  pub inputs_over : AllOver (delta * 2 ^ 48) xs inputs
  pub whole : AreWhole delta gs inputs signals
  pub outputs_over : AllOver (delta * 2 ^ 48) ys (last_signal inputs signals)

pub whole_run : (delta : ℕ) → 0 < delta → (gs : List Gain) (xs ys : List Fraction) (run : AreSections (map coefs_of gs) false xs ys) (all : List ℤ)
    → AllOver (delta * 2 ^ 48) (values (map coefs_of gs) xs ys run) all → WholeRun delta gs xs ys
whole_run delta some [] xs ys run all over = record {
  inputs = all;
  signals = [];
  inputs_over = over;
  whole = tt;
  outputs_over = subst (λ (zs : List Fraction). AllOver (delta * 2 ^ 48) zs all) run over;
}
whole_run delta some (g ∷ gs) xs ys run all over =
    let parts = AllZip-append_parts (IsOver (delta * 2 ^ 48)) xs (values (map coefs_of gs) run.0 ys run.2) all over in
    let rest = whole_run delta some gs run.0 ys run.2 parts.1 parts.3 in
    record {
      inputs = parts.0;
      signals = rest.inputs ∷ rest.signals;
      inputs_over = parts.2;
      whole = (
        to_numerators (delta * 2 ^ 48) (coefs_of g) false (before false delta) xs run.0 parts.0 rest.inputs (scale_positive delta some) (over_before delta false) parts.2 rest.inputs_over run.1,
        rest.whole,
      );
      outputs_over = rest.outputs_over;
    }
