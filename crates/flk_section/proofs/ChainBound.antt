-- The rule's bound of sections in a row keeps its promise: for all fractions, over lists of any length.
use Rattle.std.proofs.Common.{◌≡◌, ℕ, zero, suc, ◌+◌, ◌*◌, ◌<◌, ◌≤◌, false, List, [], ◌∷◌, map, refl, sym, ap, subst, arith}
use Rattle.std.proofs.Math.IntN.{ℤ, pos, ◌+ℤ◌, ◌*ℤ◌}
use Rattle.std.specs.Prelude.{◌^◌, ◌≤ℤ◌}
use Rattle.std.specs.Int.RustNames.{unsigned_abs}
use Rattle.std.proofs.Math.Nat.{mul-le-mul_right, le_of_mul-le-mul_left}
use Rattle.std.proofs.lemmas.Int.{ints}
use Rattle.flk_exact.specs.Fraction.{Fraction}
use Rattle.flk_exact.specs.Rounding.{ceil_of}
use Rattle.flk_exact.proofs.WholeLemmas.{natural_is}
use Rattle.flk_exact.proofs.NumeratorLemmas.{IsOver, AllOver, natural_number, numerators}
use Rattle.flk_cert.specs.declared.gain.Gain.{Gain}
use Rattle.flk_cert.specs.Gain.{GainNumbers, coefs_of, gain_numbers}
use Rattle.flk_cert.specs.Section.{newest}
use Rattle.flk_cert.specs.Bound.{IsErrorWithin}
use Rattle.flk_cert.proofs.KeptLemmas.{NearWhole}
use Rattle.flk_cert.proofs.PromiseLemmas.{near_numerators, within_back}
use Rattle.flk_section.specs.declared.own.OwnBound.{OwnBound}
use Rattle.flk_section.specs.RoundedCascade.{last_output}
use Rattle.flk_section.specs.OwnBounds.{first_bound, signal_bounds}
use Rattle.flk_section.specs.Forms.{weights, shares, no_form}
use Rattle.flk_section.specs.Chain.{BoundsChain, chain_samples, left_bound, chain_input, chain_rounding}
use Rattle.flk_section.proofs.ChainRuns.{AreNear, AreWhole, last_signal, values, whole_run}
use Rattle.flk_section.proofs.OwnLemmas.{IsNaturalBound, amount, natural_signals, form_bound_natural, unit_covers}
use Rattle.flk_section.proofs.ChainLemmas.{last_error, total, natural_first_bound, kept_output}

-- ---- the arithmetic of the result

cover : (p S D W N R r s F f c d T e : ℕ) → 0 < p → p * e ≤ p * (W * S) + N * (R * S + p * (r * D)) + p * (s * D) + (F * S + p * (f * D))
    → N * R ≤ c * p → F ≤ d * p → s + N * r + f ≤ T * p → e ≤ (W + c + d) * S + p * T * D
cover p S D W N R r s F f c d T e some h hc hd hT =
    let x = mul-le-mul_right S hc in
    let y = mul-le-mul_right S hd in
    let z = mul-le-mul_right (p * D) hT in
    le_of_mul-le-mul_left {k = p} (omega (arith, h, x, y, z)) some

-- the two numbers of the rule, over natural numbers
record Result (gs : List GainNumbers) (W s N : ℕ) (R F : OwnBound) (i t : ℤ) : Type 0 where
  c : ℕ
  d : ℕ
  T : ℕ
  input : i ≡ pos (W + c + d)
  rounding : t ≡ pos T
  of_signals : N * unsigned_abs R.input ≤ c * 2 ^ 32
  of_form : unsigned_abs F.input ≤ d * 2 ^ 32
  all_rounding : s + N * unsigned_abs R.rounding + unsigned_abs F.rounding ≤ T * 2 ^ 32

scaled_natural : (N : ℕ) (a : ℤ) → pos 0 ≤ℤ a → pos N *ℤ a ≡ pos (N * unsigned_abs a)
scaled_natural N a na = ap (λ (z : ℤ). pos N *ℤ z) (natural_is a na)

result_of : (gs : List GainNumbers) (W s N : ℕ) (R F : OwnBound) → IsNaturalBound R → IsNaturalBound F
    → Result gs W s N R F (pos W +ℤ ceil_of (pos N *ℤ R.input) (pos (2 ^ 32)) +ℤ ceil_of F.input (pos (2 ^ 32))) (ceil_of (pos s +ℤ pos N *ℤ R.rounding +ℤ F.rounding) (pos (2 ^ 32)))
result_of gs W s N R F nr nf =
    let e1 = scaled_natural N R.input nr.input in
    let e2 = scaled_natural N R.rounding nr.rounding in
    let c = ceil_of (pos N *ℤ R.input) (pos (2 ^ 32)) in
    let d = ceil_of F.input (pos (2 ^ 32)) in
    let sum = pos s +ℤ pos N *ℤ R.rounding +ℤ F.rounding in
    let T = ceil_of sum (pos (2 ^ 32)) in
    let n1 : pos 0 ≤ℤ (pos N *ℤ R.input) = omega (arith, ints, e1) in
    let nf_rounding = nf.rounding in
    let n2 : pos 0 ≤ℤ sum = omega (arith, ints, e2, nf_rounding) in
    let x = unit_covers (pos N *ℤ R.input) n1 in
    let y = unit_covers F.input nf.input in
    let z = unit_covers sum n2 in
    let xn = x.natural in
    let yn = y.natural in
    let xe = x.enough in
    let ze = z.enough in
    record {
      c = unsigned_abs c;
      d = unsigned_abs d;
      T = unsigned_abs T;
      input = omega (arith, ints, xn, yn);
      rounding = natural_is T z.natural;
      of_signals = omega (arith, ints, xe, e1);
      of_form = y.enough;
      all_rounding = omega (arith, ints, ze, e2, nf_rounding);
    }

-- ---- from fractions to numerators and back

near_bound : (delta S : ℕ) (ns Xs : List ℤ) → NearWhole delta S ns Xs → AreNear delta (amount S delta first_bound) ns Xs
near_bound delta S [] [] h = tt
near_bound delta S [] (X ∷ Xs) h = absurd h
near_bound delta S (n ∷ ns) [] h = absurd h
near_bound delta S (n ∷ ns) (X ∷ Xs) h =
    let here = h.0 in
    (record { near = omega (arith, here) }, near_bound delta S ns Xs h.1)

over_newest : (d : ℕ) (y : Fraction) (ys : List Fraction) (ms : List ℤ) → AllOver d (y ∷ ys) ms → IsOver d y (newest (pos 0) ms)
over_newest d y ys [] h = absurd h
over_newest d y ys (m ∷ ms) h = h.0

-- a positive number is one more than another
suc_of : (n : ℕ) → 0 < n → (d : ℕ) × (n ≡ suc d)
suc_of zero h = absurd (omega (arith, h))
suc_of (suc d) h = (d, refl)

pub samples_are : 4097 ≡ chain_samples
unfolding chain_samples
samples_are = refl

pub few_samples : chain_samples ≤ 4097
few_samples = let e = samples_are in omega (arith, e)

some_samples : 0 < chain_samples
unfolding chain_samples
some_samples = omega arith

kept_output_all : (S delta : ℕ) (some : 0 < delta) (gs : List Gain) (n : ℤ) (ns : List ℤ) (mss : List (List ℤ)) (X : ℤ) (Xs : List ℤ)
    → AreWhole delta gs (n ∷ ns) mss → AreNear delta (amount S delta first_bound) (n ∷ ns) (X ∷ Xs)
    → 2 ^ 32 * (2 ^ 32 * unsigned_abs (last_error delta gs (n ∷ ns) mss Xs X)) ≤ total S delta gs (pos (2 ^ 32)) (no_form (map gain_numbers gs)) chain_samples
kept_output_all S delta some gs n ns mss X Xs run near =
    let at = suc_of chain_samples some_samples in
    subst (λ (m : ℕ). 2 ^ 32 * (2 ^ 32 * unsigned_abs (last_error delta gs (n ∷ ns) mss Xs X)) ≤ total S delta gs (pos (2 ^ 32)) (no_form (map gain_numbers gs)) m) (sym at.1)
    (kept_output S delta some gs at.0 n ns mss X Xs run near)

bounded_numbers : (S delta : ℕ) (some : 0 < delta) (gs : List Gain) (s y : Fraction) (ns : List ℤ) (mss : List (List ℤ)) (X : ℤ) (Xs : List ℤ)
    → IsOver (delta * 2 ^ 48) s (pos S) → IsOver (delta * 2 ^ 48) y (newest (pos 0) (last_signal ns mss)) → AreWhole delta gs ns mss
    → AreNear delta (amount S delta first_bound) ns (X ∷ Xs)
    → IsErrorWithin (chain_input (map gain_numbers gs)) (chain_rounding (map gain_numbers gs)) s y (last_output (map coefs_of gs) false Xs X)
bounded_numbers S delta some gs s y [] mss X Xs hs hy run near = absurd near
bounded_numbers S delta some gs s y (n ∷ ns) mss X Xs hs hy run near =
    let G = map gain_numbers gs in
    let W = weights (pos (2 ^ 32)) G (no_form G) chain_samples in
    let t = shares (pos (2 ^ 32)) G (no_form G) chain_samples in
    let R = signal_bounds first_bound G in
    let F = left_bound G in
    let Y = last_output (map coefs_of gs) false Xs X in
    let m = newest (pos 0) (last_signal (n ∷ ns) mss) in
    let result = result_of G W t chain_samples R F (natural_signals first_bound gs natural_first_bound) (form_bound_natural first_bound gs _ natural_first_bound) in
    let kept = kept_output_all S delta some gs n ns mss X Xs run near in
    let bound = cover (2 ^ 32) S delta W chain_samples (unsigned_abs R.input) (unsigned_abs R.rounding) t (unsigned_abs F.input) (unsigned_abs F.rounding) result.c result.d result.T
    (2 ^ 32 * unsigned_abs (last_error delta gs (n ∷ ns) mss Xs X)) (omega arith) kept result.of_signals result.of_form result.all_rounding in
    let within = within_back (W + result.c + result.d) result.T delta S s y m Y some hs hy bound in
    subst (λ (z : ℤ). IsErrorWithin z (chain_rounding G) s y Y) (sym result.input) (subst (λ (z : ℤ). IsErrorWithin (pos (W + result.c + result.d)) z s y Y) (sym result.rounding) within)

-- the numerators of a list begin with that of its first fraction
record Split (d : ℕ) (f : Fraction) (fs : List Fraction) : Type 0 where
  first : ℤ
  others : List ℤ
  first_over : IsOver d f first
  others_over : AllOver d fs others

split : (d : ℕ) (f : Fraction) (fs : List Fraction) (ns : List ℤ) → AllOver d (f ∷ fs) ns → Split d f fs
split d f fs [] h = absurd h
split d f fs (n ∷ ns) h = record { first = n; others = ns; first_over = h.0; others_over = h.1 }

pub chain_bounded : (gs : List Gain) → BoundsChain (map coefs_of gs) (chain_input (map gain_numbers gs)) (chain_rounding (map gain_numbers gs))
chain_bounded gs s x y xs ys X Xs natural run near =
    let all = numerators (s ∷ values (map coefs_of gs) (x ∷ xs) (y ∷ ys) run) in
    let scale : ℕ = all.base * 2 ^ 48 in
    let parts = split scale s (values (map coefs_of gs) (x ∷ xs) (y ∷ ys) run) all.numbers all.over in
    let low = natural.cross in
    let doubt = natural_number scale s parts.first (omega (arith, ints, low)) parts.first_over in
    let w = whole_run all.base all.some gs (x ∷ xs) (y ∷ ys) run parts.others parts.others_over in
    let close = near_numerators all.base doubt.number s (x ∷ xs) w.inputs (X ∷ Xs) all.some doubt.over w.inputs_over near in
    bounded_numbers doubt.number all.base all.some gs s y w.inputs w.signals X Xs doubt.over (over_newest scale y ys (last_signal w.inputs w.signals) w.outputs_over) w.whole
    (near_bound all.base doubt.number w.inputs (X ∷ Xs) close)
