-- The bound of sections in a row by forms followed back holds, for lists of any length.
use Rattle.std.proofs.Common.{◌≡◌, ℕ, zero, suc, ◌+◌, ◌*◌, ◌<◌, ◌≤◌, Bool, false, List, [], ◌∷◌, map, length, drop, refl, sym, ap, ◌∙◌, arith, inl, inr}
use Rattle.std.proofs.Math.IntN.{ℤ, pos, ◌+ℤ◌, ◌-ℤ◌, ◌*ℤ◌, *ℤ-zero, zero-*ℤ}
use Rattle.std.specs.Prelude.{◌^◌, if◌then◌else◌}
use Rattle.std.specs.Int.RustNames.{unsigned_abs}
use Rattle.std.proofs.Math.Nat.{mul-le-mul_left}
use Rattle.std.proofs.lemmas.Int.{ints, unsigned_abs-mul}
use Rattle.std.proofs.lemmas.Bool.{cases_Bool}
use Rattle.flk_exact.specs.Rounding.{floor_of}
use Rattle.flk_exact.proofs.RoundingLemmas.{IsFloor-floor_of, floor_rest}
use Rattle.flk_exact.proofs.ProductLemmas.{lin, distrib, triangle, size_of_product_within}
use Rattle.flk_cert.specs.declared.gain.Gain.{Gain}
use Rattle.flk_cert.specs.Gain.{coefs_of, gain_numbers}
use Rattle.flk_cert.specs.Row.{fed_back}
use Rattle.flk_cert.specs.Section.{newest}
use Rattle.flk_cert.specs.RoundedSection.{state, output, outputs}
use Rattle.flk_cert.proofs.RunLemmas.{IsWholeSection, lost_of, sample}
use Rattle.flk_cert.proofs.SampleLemmas.{moves}
use Rattle.flk_cert.proofs.KeptLemmas.{before, error_one, error_two, error_one_start, error_two_start}
use Rattle.flk_section.specs.declared.form.FormPart.{FormPart}
use Rattle.flk_section.specs.declared.own.OwnBound.{OwnBound}
use Rattle.flk_section.specs.RoundedCascade.{last_output}
use Rattle.flk_section.specs.OwnBounds.{first_bound, both_bounds, output_bound, has_one_row, signal_bounds}
use Rattle.flk_section.specs.Forms.{number_at_output, number_at_input, part_before, weight_of, form_before, share_of, weights, shares, form_behind, no_form, form_bound}
use Rattle.flk_section.proofs.ChainSteps.{section_step, remainder}
use Rattle.flk_section.proofs.ChainRuns.{AreNear, AreWhole, last_signal}
use Rattle.flk_section.proofs.OwnLemmas.{IsNaturalBound, amount, amount_both, natural_both, natural_output, natural_signals, own_output, own_first, own_second, one_row_keeps, form_amount}

-- ---- a form of the errors of a run

abbrev pub form_value : ℕ → List Gain → List FormPart → List ℤ → List (List ℤ) → List ℤ → ℤ
form_value delta (g ∷ gs) (f ∷ fs) ns (ms ∷ mss) Xs =
    (f.u *ℤ error_one delta (coefs_of g) false ns ms Xs +ℤ f.v *ℤ error_two delta (coefs_of g) false ns ms Xs)
    +ℤ form_value delta gs fs ms mss (outputs (coefs_of g) false Xs)
form_value delta _ _ ns _ Xs = pos 0

-- the signals one sample earlier
abbrev pub earlier : List (List ℤ) → List (List ℤ)
earlier mss = map (λ ms. drop 1 ms) mss

pub whole_earlier : (delta : ℕ) (gs : List Gain) (n : ℤ) (ns : List ℤ) (mss : List (List ℤ)) → AreWhole delta gs (n ∷ ns) mss → AreWhole delta gs ns (earlier mss)
whole_earlier delta [] n ns [] h = tt
whole_earlier delta [] n ns (ms ∷ mss) h = absurd h
whole_earlier delta (g ∷ gs) n ns [] h = absurd h
whole_earlier delta (g ∷ gs) n ns ([] ∷ mss) h = absurd h.0
whole_earlier delta (g ∷ gs) n ns ((m ∷ ms) ∷ mss) h = (h.0.1, whole_earlier delta gs m ms mss h.1)

-- the newest error of the last output
abbrev pub last_error : ℕ → List Gain → List ℤ → List (List ℤ) → List ℤ → ℤ → ℤ
last_error delta gs ns mss Xs X = newest (pos 0) (last_signal ns mss) -ℤ pos delta *ℤ last_output (map coefs_of gs) false Xs X

-- ---- one sample

pub record IsStepped (S delta : ℕ) (z : ℤ) (b : OwnBound) (gs : List Gain) (fs : List FormPart) (n : ℤ) (ns : List ℤ) (mss : List (List ℤ)) (X : ℤ) (Xs : List ℤ) : Type 0 where
  pub left : ℤ
  pub is : pos (2 ^ 32) *ℤ (z *ℤ last_error delta gs (n ∷ ns) mss Xs X) +ℤ form_value delta gs fs (n ∷ ns) mss (X ∷ Xs)
      ≡ pos (2 ^ 32) *ℤ (weight_of z (map gain_numbers gs) fs *ℤ (n -ℤ pos delta *ℤ X)) +ℤ form_value delta gs (form_before z (map gain_numbers gs) fs) ns (earlier mss) Xs +ℤ left
  pub small : unsigned_abs left ≤ amount S delta (signal_bounds b (map gain_numbers gs)) + 2 ^ 32 * (share_of z (map gain_numbers gs) fs * delta)

-- what rounding of a form leaves
rest_of : ℤ → ℤ
rest_of a = pos (unsigned_abs (a -ℤ pos (2 ^ 32) *ℤ floor_of a (pos (2 ^ 32))))

record IsRounded (a : ℤ) : Type 0 where
  same : a ≡ pos (2 ^ 32) *ℤ floor_of a (pos (2 ^ 32)) +ℤ rest_of a
  small : unsigned_abs (rest_of a) ≤ 2 ^ 32

rounded : (a : ℤ) → IsRounded a
unfolding rest_of
rounded a =
    let r = floor_rest a (2 ^ 32) (floor_of a (pos (2 ^ 32))) (IsFloor-floor_of a (2 ^ 32) (omega arith)) in
    let less = r.1 in
    record { same = r.0; small = omega (arith, less) }

-- the number of the second state in the new form is that of the first in the old one, or multiplies no error
kept_second : (g : Gain) (delta : ℕ) (some : 0 < delta) (c : ℕ) (out : ℤ) (f : FormPart) (ns ms Xs : List ℤ) → IsWholeSection (coefs_of g) (before false delta) ns ms → AreNear delta c ns Xs
    → (part_before (gain_numbers g) out f).v *ℤ error_two delta (coefs_of g) false ns ms Xs ≡ f.u *ℤ error_two delta (coefs_of g) false ns ms Xs
kept_second g delta some c out f ns ms Xs run near =
    let e2 : ℤ = error_two delta (coefs_of g) false ns ms Xs in
    let by : Bool → ℤ = λ one. (if one then pos 0 else f.u) *ℤ e2 in
    elim (cases_Bool (has_one_row (gain_numbers g))) [
      | inl one ↦
          let none : e2 ≡ pos 0 = one_row_keeps g delta some c ns ms Xs one run near in
          ap (λ (z : ℤ). (part_before (gain_numbers g) out f).v *ℤ z) none ∙ *ℤ-zero (part_before (gain_numbers g) out f).v ∙ sym (ap (λ (z : ℤ). f.u *ℤ z) none ∙ *ℤ-zero f.u)
      | inr several ↦ ap by several
    ]

-- the sections behind one, and that one
joined : (a fs fs' c d u1 v1 z1 w1 v2 h l : ℤ) → a +ℤ fs' ≡ c +ℤ fs +ℤ l → c +ℤ u1 +ℤ v1 ≡ d +ℤ z1 +ℤ w1 +ℤ h → v2 ≡ w1
    → a +ℤ ((u1 +ℤ v1) +ℤ fs') ≡ d +ℤ ((z1 +ℤ v2) +ℤ fs) +ℤ (h +ℤ l)
joined a fs fs' c d u1 v1 z1 w1 v2 h l e f g = omega (arith, lin, e, f, g)

-- one section of a sample, and the sections behind it
stepped_here : (S delta : ℕ) (some : 0 < delta) (z : ℤ) (b : OwnBound) (g : Gain) (gs : List Gain) (f : FormPart) (fs : List FormPart)
    (n m : ℤ) (ns ms : List ℤ) (mss : List (List ℤ)) (X : ℤ) (Xs : List ℤ) → IsNaturalBound b → IsWholeSection (coefs_of g) (before false delta) (n ∷ ns) (m ∷ ms)
    → AreNear delta (amount S delta b) (n ∷ ns) (X ∷ Xs)
    → AreNear delta (amount S delta (output_bound (gain_numbers g) b)) (m ∷ ms) (outputs (coefs_of g) false (X ∷ Xs))
    → IsStepped S delta z (output_bound (gain_numbers g) b) gs fs m ms mss (output (coefs_of g) (state (coefs_of g) false Xs) X) (outputs (coefs_of g) false Xs)
    → IsStepped S delta z b (g ∷ gs) (f ∷ fs) n ns ((m ∷ ms) ∷ mss) X Xs
stepped_here S delta some z b g gs f fs n m ns ms mss X Xs nb run near near_out rest =
    let k = coefs_of g in
    let p : ℤ = pos (2 ^ 32) in
    let st = state k false Xs in
    let Y = output k st X in
    let u = before false delta in
    let G = map gain_numbers gs in
    let out = output_bound (gain_numbers g) b in
    let ε : ℤ = n -ℤ pos delta *ℤ X in
    let η : ℤ = m -ℤ pos delta *ℤ Y in
    let size : unsigned_abs ε ≤ unsigned_abs ε = omega arith in
    let f0 : ℤ = pos delta *ℤ pos (lost_of k.b0 X) in
    let f12 : ℤ = pos delta *ℤ pos (lost_of k.b1 X) -ℤ pos delta *ℤ pos (lost_of k.a1 Y) in
    let f34 : ℤ = pos delta *ℤ pos (lost_of k.b2 X) -ℤ pos delta *ℤ pos (lost_of k.a2 Y) in
    let v = moves (2 ^ 32) (unsigned_abs ε) delta k n m _ _ _ _ X Y st.s1 st.s2 _ _ _ _ _ _ _ _ _ _ _ _ (sample k u n m ns ms st X run.0) size in
    let z' : ℤ = weight_of z G fs in
    let fed : ℤ = fed_back k f.u f.v in
    let Z : ℤ = number_at_output (gain_numbers g) z' f in
    let wide : ℤ = Z *ℤ k.b0 +ℤ f.u *ℤ k.b1 +ℤ f.v *ℤ k.b2 in
    let W : ℤ = number_at_input (gain_numbers g) Z f in
    let r1 = rounded fed in
    let r2 = rounded wide in
    let hZ : p *ℤ Z +ℤ rest_of fed ≡ p *ℤ z' -ℤ k.a1 *ℤ f.u -ℤ k.a2 *ℤ f.v = (let d = distrib p z' (floor_of fed p) in let s = r1.same in omega (arith, lin, d, s)) in
    let hW : p *ℤ W +ℤ rest_of wide ≡ Z *ℤ k.b0 +ℤ f.u *ℤ k.b1 +ℤ f.v *ℤ k.b2 = sym r2.same in
    let step = section_step p k.b0 k.b1 k.b2 k.a1 k.a2 z' f.u f.v Z W (rest_of fed) (rest_of wide) ε η
    (error_one delta k false ns ms Xs) (error_two delta k false ns ms Xs)
    (error_one delta k false (n ∷ ns) (m ∷ ms) (X ∷ Xs)) (error_two delta k false (n ∷ ns) (m ∷ ms) (X ∷ Xs)) f0 f12 f34 v.out v.one v.two hZ hW in
    let near_here = near.0.near in
    let near_there = near_out.0.near in
    let add = remainder (2 ^ 32) delta (amount S delta b) (amount S delta out) Z f.u f.v (rest_of fed) (rest_of wide) ε η f0 f12 f34 r1.small r2.small near_there near_here v.r0 v.r12 v.r34 in
    let second = kept_second g delta some (amount S delta b) Z f ns ms Xs run.1 near.1 in
    let below = rest.is in
    let L = rest.left in
    let here : ℤ = rest_of fed *ℤ η +ℤ rest_of wide *ℤ ε +ℤ Z *ℤ f0 +ℤ f.u *ℤ f12 +ℤ f.v *ℤ f34 in
    let both = amount_both S delta (both_bounds b out) (signal_bounds out G) (natural_both b out nb (natural_output g b nb)) (natural_signals out gs (natural_output g b nb)) in
    let pair = amount_both S delta b out nb (natural_output g b nb) in
    let small = rest.small in
    record {
      left = here +ℤ L;
      is = joined _ _ _ _ _ _ _ _ _ _ here L below step second;
      small = omega (arith, triangle here L, add, small, both, pair);
    }

pub stepped : (S delta : ℕ) (some : 0 < delta) (z : ℤ) (b : OwnBound) (gs : List Gain) (fs : List FormPart) (n : ℤ) (ns : List ℤ) (mss : List (List ℤ)) (X : ℤ) (Xs : List ℤ)
    → length fs ≡ length gs → IsNaturalBound b → AreWhole delta gs (n ∷ ns) mss → AreNear delta (amount S delta b) (n ∷ ns) (X ∷ Xs)
    → IsStepped S delta z b gs fs n ns mss X Xs
stepped S delta some z b [] [] n ns [] X Xs len nb run near = record { left = pos 0; is = omega (arith, lin); small = omega arith }
stepped S delta some z b [] [] n ns (ms ∷ mss) X Xs len nb run near = absurd run
stepped S delta some z b [] (f ∷ fs) n ns mss X Xs len nb run near = absurd (omega (arith, len))
stepped S delta some z b (g ∷ gs) [] n ns mss X Xs len nb run near = absurd (omega (arith, len))
stepped S delta some z b (g ∷ gs) (f ∷ fs) n ns [] X Xs len nb run near = absurd run
stepped S delta some z b (g ∷ gs) (f ∷ fs) n ns ([] ∷ mss) X Xs len nb run near = absurd run.0
stepped S delta some z b (g ∷ gs) (f ∷ fs) n ns ((m ∷ ms) ∷ mss) X Xs len nb run near =
    let out = output_bound (gain_numbers g) b in
    let near_out = own_output g S delta some b (n ∷ ns) (m ∷ ms) (X ∷ Xs) nb run.0 near in
    let rest = stepped S delta some z out gs fs m ms mss (output (coefs_of g) (state (coefs_of g) false Xs) X) (outputs (coefs_of g) false Xs) (omega (arith, len)) (natural_output g b nb) run.1 near_out in
    stepped_here S delta some z b g gs f fs n m ns ms mss X Xs nb run.0 near near_out rest

-- ---- forms with a known value

-- before the first sample there is no error
form_empty : (delta : ℕ) (gs : List Gain) (fs : List FormPart) (mss : List (List ℤ)) → AreWhole delta gs [] mss → form_value delta gs fs [] mss [] ≡ pos 0
form_empty delta [] fs mss run = refl
form_empty delta (g ∷ gs) [] mss run = refl
form_empty delta (g ∷ gs) (f ∷ fs) [] run = absurd run
form_empty delta (g ∷ gs) (f ∷ fs) ((m ∷ ms) ∷ mss) run = absurd run.0
form_empty delta (g ∷ gs) (f ∷ fs) ([] ∷ mss) run =
    let e1 : f.u *ℤ error_one delta (coefs_of g) false [] [] [] ≡ pos 0 = ap (λ (z : ℤ). f.u *ℤ z) (error_one_start delta (coefs_of g) false tt) ∙ *ℤ-zero f.u in
    let e2 : f.v *ℤ error_two delta (coefs_of g) false [] [] [] ≡ pos 0 = ap (λ (z : ℤ). f.v *ℤ z) (error_two_start delta (coefs_of g) false tt) ∙ *ℤ-zero f.v in
    let rest = form_empty delta gs fs mss run.1 in
    omega (arith, lin, e1, e2, rest)

-- the form with no number
form_none : (delta : ℕ) (gs : List Gain) (ns : List ℤ) (mss : List (List ℤ)) (Xs : List ℤ) → AreWhole delta gs ns mss
    → form_value delta gs (no_form (map gain_numbers gs)) ns mss Xs ≡ pos 0
form_none delta [] ns mss Xs run = refl
form_none delta (g ∷ gs) ns [] Xs run = absurd run
form_none delta (g ∷ gs) ns (ms ∷ mss) Xs run =
    let e1 = zero-*ℤ (error_one delta (coefs_of g) false ns ms Xs) in
    let e2 = zero-*ℤ (error_two delta (coefs_of g) false ns ms Xs) in
    let rest = form_none delta gs ms mss (outputs (coefs_of g) false Xs) run.1 in
    omega (arith, lin, e1, e2, rest)

-- a form is bounded by the states' own bounds
form_own : (S delta : ℕ) (some : 0 < delta) (b : OwnBound) (gs : List Gain) (fs : List FormPart) (ns : List ℤ) (mss : List (List ℤ)) (Xs : List ℤ)
    → IsNaturalBound b → AreWhole delta gs ns mss → AreNear delta (amount S delta b) ns Xs
    → unsigned_abs (form_value delta gs fs ns mss Xs) ≤ amount S delta (form_bound b (map gain_numbers gs) fs)
form_own S delta some b [] fs ns mss Xs nb run near = omega arith
form_own S delta some b (g ∷ gs) [] ns mss Xs nb run near = omega arith
form_own S delta some b (g ∷ gs) (f ∷ fs) ns [] Xs nb run near = absurd run
form_own S delta some b (g ∷ gs) (f ∷ fs) ns (ms ∷ mss) Xs nb run near =
    let e1 : ℤ = error_one delta (coefs_of g) false ns ms Xs in
    let e2 : ℤ = error_two delta (coefs_of g) false ns ms Xs in
    let one = size_of_product_within f.u e1 (unsigned_abs f.u) _ (omega arith) (own_first g S delta some b ns ms Xs nb run.0 near) in
    let two = size_of_product_within f.v e2 (unsigned_abs f.v) _ (omega arith) (own_second g S delta some b ns ms Xs nb run.0 near) in
    let rest = form_own S delta some (output_bound (gain_numbers g) b) gs fs ms mss (outputs (coefs_of g) false Xs) (natural_output g b nb) run.1 (own_output g S delta some b ns ms Xs nb run.0 near) in
    let all = form_amount S delta b g gs f fs nb in
    omega (
      arith,
      one,
      two,
      rest,
      all,
      triangle (f.u *ℤ e1 +ℤ f.v *ℤ e2) (form_value delta gs fs ms mss (outputs (coefs_of g) false Xs)),
      triangle (f.u *ℤ e1) (f.v *ℤ e2),
    )

-- ---- all samples

length-form_before : (z : ℤ) (gs : List Gain) (fs : List FormPart) → length fs ≡ length gs → length (form_before z (map gain_numbers gs) fs) ≡ length gs
length-form_before z [] fs len = refl
length-form_before z (g ∷ gs) [] len = absurd (omega (arith, len))
length-form_before z (g ∷ gs) (f ∷ fs) len = ap suc (length-form_before z gs fs (omega (arith, len)))

length-no_form : (gs : List Gain) → length (no_form (map gain_numbers gs)) ≡ length gs
length-no_form [] = refl
length-no_form (g ∷ gs) = ap suc (length-no_form gs)

-- what so many samples, and the form behind them, come to
abbrev pub total : (S delta : ℕ) → List Gain → ℤ → List FormPart → ℕ → ℕ
total S delta gs z fs count =
    2 ^ 32 * (weights z (map gain_numbers gs) fs count * S) + count * amount S delta (signal_bounds first_bound (map gain_numbers gs))
    + 2 ^ 32 * (shares z (map gain_numbers gs) fs count * delta) + amount S delta (form_bound first_bound (map gain_numbers gs) (form_behind z (map gain_numbers gs) fs count))

pub natural_first_bound : IsNaturalBound first_bound
natural_first_bound = record { input = omega (arith, ints); rounding = omega (arith, ints) }

-- the weight's part of one sample
weighed : (S delta : ℕ) (w ε : ℤ) → 2 ^ 32 * unsigned_abs ε ≤ amount S delta first_bound → unsigned_abs (pos (2 ^ 32) *ℤ (w *ℤ ε)) ≤ 2 ^ 32 * (unsigned_abs w * S)
weighed S delta w ε near =
    let e = unsigned_abs-mul (pos (2 ^ 32)) (w *ℤ ε) in
    let f = unsigned_abs-mul w ε in
    let small : unsigned_abs ε ≤ S = omega (arith, near) in
    omega (arith, e, f, mul-le-mul_left (unsigned_abs w) small)

-- the sum of one sample and those before it
one_more : (S delta : ℕ) (a w f l : ℤ) (W A s F : ℕ) → a ≡ w +ℤ f +ℤ l → unsigned_abs w ≤ 2 ^ 32 * (W * S) → unsigned_abs l ≤ A + 2 ^ 32 * (s * delta) → unsigned_abs f ≤ F
    → unsigned_abs a ≤ 2 ^ 32 * (W * S) + A + 2 ^ 32 * (s * delta) + F
one_more S delta a w f l W A s F e hw hl hf = omega (arith, ap unsigned_abs e, triangle (w +ℤ f) l, triangle w f, hw, hl, hf)

kept : (S delta : ℕ) (some : 0 < delta) (gs : List Gain) (count : ℕ) (fs : List FormPart) (ns : List ℤ) (mss : List (List ℤ)) (Xs : List ℤ) → length fs ≡ length gs
    → AreWhole delta gs ns mss → AreNear delta (amount S delta first_bound) ns Xs → unsigned_abs (form_value delta gs fs ns mss Xs) ≤ total S delta gs (pos 0) fs count
kept S delta some gs zero fs ns mss Xs len run near =
    let own = form_own S delta some first_bound gs fs ns mss Xs natural_first_bound run near in
    omega (arith, own)
kept S delta some gs (suc d) fs [] mss [] len run near =
    let none : unsigned_abs (form_value delta gs fs [] mss []) ≡ 0 = ap unsigned_abs (form_empty delta gs fs mss run) in
    omega (arith, none)
kept S delta some gs (suc d) fs [] mss (X ∷ Xs) len run near = absurd near
kept S delta some gs (suc d) fs (n ∷ ns) mss [] len run near = absurd near
kept S delta some gs (suc d) fs (n ∷ ns) mss (X ∷ Xs) len run near =
    let G = map gain_numbers gs in
    let before_it = form_before (pos 0) G fs in
    let step = stepped S delta some (pos 0) first_bound gs fs n ns mss X Xs len natural_first_bound run near in
    let rest = kept S delta some gs d before_it ns (earlier mss) Xs (length-form_before (pos 0) gs fs len) (whole_earlier delta gs n ns mss run) near.1 in
    let w = weight_of (pos 0) G fs in
    let none : pos (2 ^ 32) *ℤ (pos 0 *ℤ last_error delta gs (n ∷ ns) mss Xs X) ≡ pos 0 = ap (λ (z : ℤ). pos (2 ^ 32) *ℤ z) (zero-*ℤ (last_error delta gs (n ∷ ns) mss Xs X)) ∙ *ℤ-zero (pos (2 ^ 32)) in
    let is = step.is in
    let sum : form_value delta gs fs (n ∷ ns) mss (X ∷ Xs) ≡ pos (2 ^ 32) *ℤ (w *ℤ (n -ℤ pos delta *ℤ X)) +ℤ form_value delta gs before_it ns (earlier mss) Xs +ℤ step.left = omega (arith, lin, is, none) in
    let bound = one_more S delta (form_value delta gs fs (n ∷ ns) mss (X ∷ Xs)) (pos (2 ^ 32) *ℤ (w *ℤ (n -ℤ pos delta *ℤ X))) (form_value delta gs before_it ns (earlier mss) Xs)
    step.left (unsigned_abs w) (amount S delta (signal_bounds first_bound G)) (share_of (pos 0) G fs) (total S delta gs (pos 0) before_it d) sum (weighed S delta w (n -ℤ pos delta *ℤ X) near.0.near) step.small rest in
    omega (arith, bound)

-- the last output's error itself, with no form before it
pub kept_output : (S delta : ℕ) (some : 0 < delta) (gs : List Gain) (d : ℕ) (n : ℤ) (ns : List ℤ) (mss : List (List ℤ)) (X : ℤ) (Xs : List ℤ)
    → AreWhole delta gs (n ∷ ns) mss → AreNear delta (amount S delta first_bound) (n ∷ ns) (X ∷ Xs)
    → 2 ^ 32 * (2 ^ 32 * unsigned_abs (last_error delta gs (n ∷ ns) mss Xs X)) ≤ total S delta gs (pos (2 ^ 32)) (no_form (map gain_numbers gs)) (suc d)
kept_output S delta some gs d n ns mss X Xs run near =
    let G = map gain_numbers gs in
    let p : ℤ = pos (2 ^ 32) in
    let fs = no_form G in
    let η = last_error delta gs (n ∷ ns) mss Xs X in
    let before_it = form_before p G fs in
    let step = stepped S delta some p first_bound gs fs n ns mss X Xs (length-no_form gs) natural_first_bound run near in
    let rest = kept S delta some gs d before_it ns (earlier mss) Xs (length-form_before p gs fs (length-no_form gs)) (whole_earlier delta gs n ns mss run) near.1 in
    let w = weight_of p G fs in
    let none = form_none delta gs (n ∷ ns) mss (X ∷ Xs) run in
    let is = step.is in
    let sum : p *ℤ (p *ℤ η) ≡ p *ℤ (w *ℤ (n -ℤ pos delta *ℤ X)) +ℤ form_value delta gs before_it ns (earlier mss) Xs +ℤ step.left = omega (arith, lin, is, none) in
    let bound = one_more S delta (p *ℤ (p *ℤ η)) (p *ℤ (w *ℤ (n -ℤ pos delta *ℤ X))) (form_value delta gs before_it ns (earlier mss) Xs)
    step.left (unsigned_abs w) (amount S delta (signal_bounds first_bound G)) (share_of p G fs) (total S delta gs (pos 0) before_it d) sum (weighed S delta w (n -ℤ pos delta *ℤ X) near.0.near) step.small rest in
    let e1 = unsigned_abs-mul p (p *ℤ η) in
    let e2 = unsigned_abs-mul p η in
    omega (arith, bound, e1, e2)
