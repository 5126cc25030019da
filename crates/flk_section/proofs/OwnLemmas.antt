-- The own bounds hold: of the signals and the states of sections in a row, over numerators. S bounds the numerator of the first input's error,
-- and delta is one unit.
use Rattle.std.proofs.Common.{◌≡◌, ℕ, zero, suc, ◌+◌, ◌*◌, ◌<◌, ◌≤◌, Bool, true, false, List, [], ◌∷◌, map, refl, sym, ap, subst, ◌∙◌, arith, inl, inr}
use Rattle.std.proofs.Math.IntN.{ℤ, pos, ◌+ℤ◌, ◌-ℤ◌, ◌*ℤ◌}
use Rattle.std.specs.Prelude.{negsuc, ◌^◌, ◌≤ℤ◌, ◌<ℤ◌, if◌then◌else◌}
use Rattle.std.specs.Int.RustNames.{unsigned_abs}
use Rattle.std.proofs.lemmas.Int.{ints, unsigned_abs-mul}
use Rattle.std.proofs.lemmas.Bool.{cases_Bool, true≢false}
use Rattle.std.proofs.lemmas.Bool.Decides.{Decides-int_eq}
use Rattle.flk_exact.specs.Rounding.{ceil_of}
use Rattle.flk_exact.proofs.WholeLemmas.{natural_is}
use Rattle.flk_exact.proofs.RoundingLemmas.{IsCeil-at}
use Rattle.flk_exact.proofs.ProductLemmas.{triangle}
use Rattle.flk_cert.specs.declared.gain.Gain.{Gain}
use Rattle.flk_cert.specs.Gain.{coefs_of, gain_numbers, first_input_of, first_rounding_of, second_input_of, second_rounding_of}
use Rattle.flk_cert.specs.RoundedSection.{outputs}
use Rattle.flk_cert.proofs.RunLemmas.{IsWholeSection}
use Rattle.flk_cert.proofs.KeptLemmas.{before, error_one, error_two}
use Rattle.flk_cert.proofs.GainLemmas.{gain_input_natural, gain_rounding_natural, gain_first_limits, gain_second_limits}
use Rattle.flk_section.specs.declared.form.FormPart.{FormPart}
use Rattle.flk_section.specs.declared.own.OwnBound.{OwnBound}
use Rattle.flk_section.specs.OwnBounds.{no_bound, both_bounds, scaled_up, output_bound, state_bound, first_state_bound, second_with_first, second_state_bound, has_one_row, signal_bounds}
use Rattle.flk_section.specs.Forms.{form_bound}
use Rattle.flk_section.proofs.ChainSteps.{output_step, state_step, second_step}
use Rattle.flk_section.proofs.ChainRuns.{AreNear, outputs_near, first_near, second_near, second_none}

-- its numbers are not below 0
pub record IsNaturalBound (b : OwnBound) : Type 0 where
  pub input : pos 0 ≤ℤ b.input
  pub rounding : pos 0 ≤ℤ b.rounding

-- 2^32 times what it says of an error
abbrev pub amount : (S delta : ℕ) → OwnBound → ℕ
amount S delta b = unsigned_abs b.input * S + 2 ^ 32 * (unsigned_abs b.rounding * delta)

-- ---- rounding up

pub record CoversScaled (g n z : ℤ) : Type 0 where
  pub natural : pos 0 ≤ℤ z
  pub enough : unsigned_abs g * unsigned_abs n ≤ unsigned_abs z * 2 ^ 32

pub scaled_covers : (g n : ℤ) → pos 0 ≤ℤ g → pos 0 ≤ℤ n → CoversScaled g n (scaled_up g n)
scaled_covers g n ng nn =
    let c = scaled_up g n in
    let e : g *ℤ n ≡ pos (unsigned_abs g * unsigned_abs n) = ap (λ (z : ℤ). z *ℤ n) (natural_is g ng) ∙ ap (λ (z : ℤ). pos (unsigned_abs g) *ℤ z) (natural_is n nn) in
    let up = (IsCeil-at (g *ℤ n) (pos (2 ^ 32)) c (omega (arith, ints)) refl).within in
    record { natural = omega (arith, ints, up, e); enough = omega (arith, ints, up, e) }

pub record CoversUnit (h z : ℤ) : Type 0 where
  pub natural : pos 0 ≤ℤ z
  pub enough : unsigned_abs h ≤ unsigned_abs z * 2 ^ 32

pub unit_covers : (h : ℤ) → pos 0 ≤ℤ h → CoversUnit h (ceil_of h (pos (2 ^ 32)))
unit_covers h nh =
    let up = (IsCeil-at h (pos (2 ^ 32)) (ceil_of h (pos (2 ^ 32))) (omega (arith, ints)) refl).within in
    record { natural = omega (arith, ints, up, nh); enough = omega (arith, ints, up, nh) }

-- and no further than it must
pub unit_near : (h : ℤ) → (ceil_of h (pos (2 ^ 32)) *ℤ pos (2 ^ 32)) <ℤ (h +ℤ pos (2 ^ 32))
unit_near h =
    let least = (IsCeil-at h (pos (2 ^ 32)) (ceil_of h (pos (2 ^ 32))) (omega (arith, ints)) refl).least in
    omega (arith, ints, least)

pub scaled_near : (g n : ℤ) → (scaled_up g n *ℤ pos (2 ^ 32)) <ℤ (g *ℤ n +ℤ pos (2 ^ 32))
scaled_near g n = unit_near (g *ℤ n)

size_of_sum : (a b : ℤ) → pos 0 ≤ℤ a → pos 0 ≤ℤ b → unsigned_abs (a +ℤ b) ≡ unsigned_abs a + unsigned_abs b
size_of_sum a b na nb = omega (arith, ints, na, nb)

pub natural_sum : (a b : ℤ) → pos 0 ≤ℤ a → pos 0 ≤ℤ b → pos 0 ≤ℤ (a +ℤ b)
natural_sum a b na nb = omega (arith, ints, na, nb)

pub amount_both : (S delta : ℕ) (b c : OwnBound) → IsNaturalBound b → IsNaturalBound c → amount S delta (both_bounds b c) ≡ amount S delta b + amount S delta c
amount_both S delta b c nb nc = omega (
  arith,
  ap (λ (n : ℕ). n * S) (size_of_sum b.input c.input nb.input nc.input),
  ap (λ (n : ℕ). 2 ^ 32 * (n * delta)) (size_of_sum b.rounding c.rounding nb.rounding nc.rounding),
)

pub natural_both : (b c : OwnBound) → IsNaturalBound b → IsNaturalBound c → IsNaturalBound (both_bounds b c)
natural_both b c nb nc = record { input = natural_sum b.input c.input nb.input nc.input; rounding = natural_sum b.rounding c.rounding nb.rounding nc.rounding }

-- ---- the output

pub natural_output : (g : Gain) (b : OwnBound) → IsNaturalBound b → IsNaturalBound (output_bound (gain_numbers g) b)
natural_output g b nb = record {
  input = (scaled_covers b.input g.input nb.input (gain_input_natural g)).natural;
  rounding = natural_sum (scaled_up b.rounding g.input) g.rounding (scaled_covers b.rounding g.input nb.rounding (gain_input_natural g)).natural (gain_rounding_natural g);
}

pub own_output : (g : Gain) (S delta : ℕ) (some : 0 < delta) (b : OwnBound) (ns ms Xs : List ℤ) → IsNaturalBound b → IsWholeSection (coefs_of g) (before false delta) ns ms
    → AreNear delta (amount S delta b) ns Xs → AreNear delta (amount S delta (output_bound (gain_numbers g) b)) ms (outputs (coefs_of g) false Xs)
own_output g S delta some b ns ms Xs nb run near =
    let x = scaled_covers b.input g.input nb.input (gain_input_natural g) in
    let y = scaled_covers b.rounding g.input nb.rounding (gain_input_natural g) in
    let T = scaled_up b.rounding g.input in
    let step = output_step (2 ^ 32) S delta (unsigned_abs g.input) (unsigned_abs b.input) (unsigned_abs b.rounding) (unsigned_abs g.rounding) (unsigned_abs (scaled_up b.input g.input)) (unsigned_abs T) x.enough y.enough in
    let e = size_of_sum T g.rounding y.natural (gain_rounding_natural g) in
    outputs_near g delta some (amount S delta b) (amount S delta (output_bound (gain_numbers g) b)) ns ms Xs run near
    (subst (λ (n : ℕ). unsigned_abs g.input * amount S delta b + 2 ^ 32 * (2 ^ 32 * (unsigned_abs g.rounding * delta)) ≤ 2 ^ 32 * (unsigned_abs (scaled_up b.input g.input) * S + 2 ^ 32 * (n * delta))) (sym e) step)

-- ---- the states

pub natural_state : (g h : ℤ) (b : OwnBound) → pos 0 ≤ℤ g → pos 0 ≤ℤ h → IsNaturalBound b → IsNaturalBound (state_bound g h b)
natural_state g h b ng nh nb = record {
  input = (scaled_covers g b.input ng nb.input).natural;
  rounding = natural_sum (scaled_up g b.rounding) (ceil_of h (pos (2 ^ 32))) (scaled_covers g b.rounding ng nb.rounding).natural (unit_covers h nh).natural;
}

own_state : (S delta : ℕ) (g h : ℤ) (b : OwnBound) (e : ℕ) → pos 0 ≤ℤ g → pos 0 ≤ℤ h → IsNaturalBound b
    → 2 ^ 32 * e ≤ unsigned_abs g * amount S delta b + delta * unsigned_abs h * 2 ^ 32 → e ≤ amount S delta (state_bound g h b)
own_state S delta g h b e ng nh nb he =
    let x = scaled_covers g b.input ng nb.input in
    let y = scaled_covers g b.rounding ng nb.rounding in
    let u = unit_covers h nh in
    let T = scaled_up g b.rounding in
    let H = ceil_of h (pos (2 ^ 32)) in
    let step = state_step (2 ^ 32) S delta (unsigned_abs g) (unsigned_abs h) (unsigned_abs b.input) (unsigned_abs b.rounding) (unsigned_abs (scaled_up g b.input)) (unsigned_abs T) (unsigned_abs H) e (omega arith) he x.enough y.enough u.enough in
    subst (λ (n : ℕ). e ≤ unsigned_abs (scaled_up g b.input) * S + 2 ^ 32 * (n * delta)) (sym (size_of_sum T H y.natural u.natural)) step

-- the errors of the two states
pub natural_first : (g : Gain) (b : OwnBound) → IsNaturalBound b → IsNaturalBound (first_state_bound (gain_numbers g) b)
natural_first g b nb = natural_state g.first_input g.first_rounding b (gain_first_limits g).0.natural (gain_first_limits g).1.natural nb

first_error_near : (g : Gain) (delta : ℕ) (some : 0 < delta) (b : ℕ) (ns ms Xs : List ℤ) → IsWholeSection (coefs_of g) (before false delta) ns ms → AreNear delta b ns Xs
    → 2 ^ 32 * unsigned_abs (error_one delta (coefs_of g) false ns ms Xs) ≤ unsigned_abs (first_input_of g) * b + delta * unsigned_abs (first_rounding_of g) * 2 ^ 32
first_error_near g delta some b ns ms Xs run near =
    let h = first_near g delta some b ns ms Xs (gain_first_limits g).0.natural (gain_first_limits g).1.natural run near in
    let e = unsigned_abs-mul (pos (2 ^ 32)) (error_one delta (coefs_of g) false ns ms Xs) in
    omega (arith, h, e)

pub own_first : (g : Gain) (S delta : ℕ) (some : 0 < delta) (b : OwnBound) (ns ms Xs : List ℤ) → IsNaturalBound b → IsWholeSection (coefs_of g) (before false delta) ns ms
    → AreNear delta (amount S delta b) ns Xs → unsigned_abs (error_one delta (coefs_of g) false ns ms Xs) ≤ amount S delta (first_state_bound (gain_numbers g) b)
own_first g S delta some b ns ms Xs nb run near =
    own_state S delta g.first_input g.first_rounding b _ (gain_first_limits g).0.natural (gain_first_limits g).1.natural nb (first_error_near g delta some (amount S delta b) ns ms Xs run near)

-- ---- the second state

-- of several rows
abbrev several_input : Gain → ℤ
several_input g = second_with_first (coefs_of g).a1 (second_input_of g) (first_input_of g)

abbrev several_rounding : Gain → ℤ
several_rounding g = second_with_first (coefs_of g).a1 (second_rounding_of g) (first_rounding_of g)

with_first_natural : (a second first : ℤ) → pos 0 ≤ℤ second → pos 0 ≤ℤ first → pos 0 ≤ℤ second_with_first a second first
with_first_natural a second first ns nf = natural_sum second (scaled_up (pos (unsigned_abs a)) first) ns (scaled_covers (pos (unsigned_abs a)) first (omega (arith, ints)) nf).natural

natural_several : (g : Gain) (b : OwnBound) → IsNaturalBound b → IsNaturalBound (state_bound (several_input g) (several_rounding g) b)
natural_several g b nb =
    natural_state _ _ b (with_first_natural (coefs_of g).a1 _ _ (gain_second_limits g).0.natural (gain_first_limits g).0.natural)
    (with_first_natural (coefs_of g).a1 _ _ (gain_second_limits g).1.natural (gain_first_limits g).1.natural) nb

own_several : (g : Gain) (S delta : ℕ) (some : 0 < delta) (b : OwnBound) (ns ms Xs : List ℤ) → pos 0 <ℤ second_rounding_of g → IsNaturalBound b
    → IsWholeSection (coefs_of g) (before false delta) ns ms → AreNear delta (amount S delta b) ns Xs
    → unsigned_abs (error_two delta (coefs_of g) false ns ms Xs) ≤ amount S delta (state_bound (several_input g) (several_rounding g) b)
own_several g S delta some b ns ms Xs positive nb run near =
    let a : ℤ = (coefs_of g).a1 in
    let e1 : ℤ = error_one delta (coefs_of g) false ns ms Xs in
    let e2 : ℤ = error_two delta (coefs_of g) false ns ms Xs in
    let first = first_error_near g delta some (amount S delta b) ns ms Xs run near in
    let both = second_near g delta some (amount S delta b) ns ms Xs (gain_second_limits g).0.natural positive run near in
    let m2 = unsigned_abs-mul (pos (2 ^ 32)) e2 in
    let m1 = unsigned_abs-mul a e1 in
    let split : pos (2 ^ 32) *ℤ e2 ≡ (pos (2 ^ 32) *ℤ e2 -ℤ a *ℤ e1) +ℤ a *ℤ e1 = omega (arith, ints) in
    let sum = ap unsigned_abs split in
    let apart = triangle (pos (2 ^ 32) *ℤ e2 -ℤ a *ℤ e1) (a *ℤ e1) in
    let two : 2 ^ 32 * unsigned_abs e2 ≤ (unsigned_abs (second_input_of g) * amount S delta b + delta * unsigned_abs (second_rounding_of g) * 2 ^ 32) + unsigned_abs a * unsigned_abs e1 =
    omega (arith, both, m2, m1, sum, apart) in
    let x = scaled_covers (pos (unsigned_abs a)) (first_input_of g) (omega (arith, ints)) (gain_first_limits g).0.natural in
    let y = scaled_covers (pos (unsigned_abs a)) (first_rounding_of g) (omega (arith, ints)) (gain_first_limits g).1.natural in
    let c = scaled_up (pos (unsigned_abs a)) (first_input_of g) in
    let d = scaled_up (pos (unsigned_abs a)) (first_rounding_of g) in
    let step = second_step (2 ^ 32) delta (amount S delta b) (unsigned_abs a) (unsigned_abs e1) (unsigned_abs e2) (unsigned_abs (first_input_of g)) (unsigned_abs (first_rounding_of g))
    (unsigned_abs (second_input_of g)) (unsigned_abs (second_rounding_of g)) (unsigned_abs c) (unsigned_abs d) (omega arith) first two x.enough y.enough in
    let ei = size_of_sum (second_input_of g) c (gain_second_limits g).0.natural x.natural in
    let er = size_of_sum (second_rounding_of g) d (gain_second_limits g).1.natural y.natural in
    let at : 2 ^ 32 * unsigned_abs e2 ≤ unsigned_abs (second_input_of g +ℤ c) * amount S delta b + delta * unsigned_abs (second_rounding_of g +ℤ d) * 2 ^ 32 =
    subst (λ (n : ℕ). 2 ^ 32 * unsigned_abs e2 ≤ n * amount S delta b + delta * unsigned_abs (second_rounding_of g +ℤ d) * 2 ^ 32) (sym ei)
    (subst (λ (n : ℕ). 2 ^ 32 * unsigned_abs e2 ≤ (unsigned_abs (second_input_of g) + unsigned_abs c) * amount S delta b + delta * n * 2 ^ 32) (sym er) step) in
    own_state S delta _ _ b (unsigned_abs e2) (natural_sum (second_input_of g) c (gain_second_limits g).0.natural x.natural)
    (natural_sum (second_rounding_of g) d (gain_second_limits g).1.natural y.natural) nb at

-- ---- by the number of rows

one_row_none : (g : Gain) → has_one_row (gain_numbers g) ≡ true → second_rounding_of g ≡ pos 0
one_row_none g e = (Decides-int_eq (second_rounding_of g) (pos 0)).0 e

positive_not_zero : (z : ℤ) → pos 0 ≤ℤ z → (z ≡ pos 0 → ⊥) → pos 0 <ℤ z
positive_not_zero (pos zero) low other = absurd (other refl)
positive_not_zero (pos (suc n)) low other = omega (arith, ints)
positive_not_zero (negsuc n) low other = absurd (omega (arith, ints, low))

several_positive : (g : Gain) → has_one_row (gain_numbers g) ≡ false → pos 0 <ℤ second_rounding_of g
several_positive g e =
    positive_not_zero (second_rounding_of g) (gain_second_limits g).1.natural
    (λ none. true≢false (sym ((Decides-int_eq (second_rounding_of g) (pos 0)).1 none) ∙ e))

second_is_none : (g : Gain) (b : OwnBound) → has_one_row (gain_numbers g) ≡ true → second_state_bound (gain_numbers g) b ≡ no_bound
second_is_none g b e = ap (λ (one : Bool). if one then no_bound else state_bound (several_input g) (several_rounding g) b) e

pub second_is_several : (g : Gain) (b : OwnBound) → has_one_row (gain_numbers g) ≡ false → second_state_bound (gain_numbers g) b ≡ state_bound (several_input g) (several_rounding g) b
second_is_several g b e = ap (λ (one : Bool). if one then no_bound else state_bound (several_input g) (several_rounding g) b) e

natural_none : IsNaturalBound no_bound
natural_none = record { input = omega (arith, ints); rounding = omega (arith, ints) }

pub natural_second : (g : Gain) (b : OwnBound) → IsNaturalBound b → IsNaturalBound (second_state_bound (gain_numbers g) b)
natural_second g b nb =
    elim (cases_Bool (has_one_row (gain_numbers g))) [
      | inl one ↦ subst IsNaturalBound (sym (second_is_none g b one)) natural_none
      | inr several ↦ subst IsNaturalBound (sym (second_is_several g b several)) (natural_several g b nb)
    ]

-- with one row the second state has no error
pub one_row_keeps : (g : Gain) (delta : ℕ) (some : 0 < delta) (b : ℕ) (ns ms Xs : List ℤ) → has_one_row (gain_numbers g) ≡ true
    → IsWholeSection (coefs_of g) (before false delta) ns ms → AreNear delta b ns Xs → error_two delta (coefs_of g) false ns ms Xs ≡ pos 0
one_row_keeps g delta some b ns ms Xs one run near = second_none g delta some b ns ms Xs (one_row_none g one) run near

pub own_second : (g : Gain) (S delta : ℕ) (some : 0 < delta) (b : OwnBound) (ns ms Xs : List ℤ) → IsNaturalBound b → IsWholeSection (coefs_of g) (before false delta) ns ms
    → AreNear delta (amount S delta b) ns Xs → unsigned_abs (error_two delta (coefs_of g) false ns ms Xs) ≤ amount S delta (second_state_bound (gain_numbers g) b)
own_second g S delta some b ns ms Xs nb run near =
    let e2 : ℤ = error_two delta (coefs_of g) false ns ms Xs in
    elim (cases_Bool (has_one_row (gain_numbers g))) [
      | inl one ↦
          let none : unsigned_abs e2 ≡ 0 = ap unsigned_abs (one_row_keeps g delta some (amount S delta b) ns ms Xs one run near) in
          omega (arith, none)
      | inr several ↦
          subst (λ (c : OwnBound). unsigned_abs e2 ≤ amount S delta c) (sym (second_is_several g b several))
          (own_several g S delta some b ns ms Xs (several_positive g several) nb run near)
    ]

-- ---- all signals

pub natural_signals : (b : OwnBound) (gs : List Gain) → IsNaturalBound b → IsNaturalBound (signal_bounds b (map gain_numbers gs))
natural_signals b [] nb = natural_none
natural_signals b (g ∷ gs) nb =
    natural_both (both_bounds b (output_bound (gain_numbers g) b)) (signal_bounds (output_bound (gain_numbers g) b) (map gain_numbers gs))
    (natural_both b (output_bound (gain_numbers g) b) nb (natural_output g b nb)) (natural_signals (output_bound (gain_numbers g) b) gs (natural_output g b nb))

-- ---- a form, by the bounds of the states

natural_three : (u v : ℕ) (a b c : ℤ) → pos 0 ≤ℤ a → pos 0 ≤ℤ b → pos 0 ≤ℤ c → pos 0 ≤ℤ (pos u *ℤ a +ℤ pos v *ℤ b +ℤ c)
natural_three u v a b c na nb nc =
    let x : pos u *ℤ a ≡ pos (u * unsigned_abs a) = ap (λ (z : ℤ). pos u *ℤ z) (natural_is a na) in
    let y : pos v *ℤ b ≡ pos (v * unsigned_abs b) = ap (λ (z : ℤ). pos v *ℤ z) (natural_is b nb) in
    omega (arith, ints, x, y, nc)

size_three : (u v : ℕ) (a b c : ℤ) → pos 0 ≤ℤ a → pos 0 ≤ℤ b → pos 0 ≤ℤ c
    → unsigned_abs (pos u *ℤ a +ℤ pos v *ℤ b +ℤ c) ≡ u * unsigned_abs a + v * unsigned_abs b + unsigned_abs c
size_three u v a b c na nb nc =
    let x : pos u *ℤ a ≡ pos (u * unsigned_abs a) = ap (λ (z : ℤ). pos u *ℤ z) (natural_is a na) in
    let y : pos v *ℤ b ≡ pos (v * unsigned_abs b) = ap (λ (z : ℤ). pos v *ℤ z) (natural_is b nb) in
    omega (arith, ints, x, y, nc)

pub form_bound_natural : (b : OwnBound) (gs : List Gain) (fs : List FormPart) → IsNaturalBound b → IsNaturalBound (form_bound b (map gain_numbers gs) fs)
form_bound_natural b [] fs nb = natural_none
form_bound_natural b (g ∷ gs) [] nb = natural_none
form_bound_natural b (g ∷ gs) (f ∷ fs) nb =
    let one = natural_first g b nb in
    let two = natural_second g b nb in
    let rest = form_bound_natural (output_bound (gain_numbers g) b) gs fs (natural_output g b nb) in
    record {
      input = natural_three (unsigned_abs f.u) (unsigned_abs f.v) _ _ _ one.input two.input rest.input;
      rounding = natural_three (unsigned_abs f.u) (unsigned_abs f.v) _ _ _ one.rounding two.rounding rest.rounding;
    }

-- what a form of the errors comes to
pub form_amount : (S delta : ℕ) (b : OwnBound) (g : Gain) (gs : List Gain) (f : FormPart) (fs : List FormPart) → IsNaturalBound b
    → amount S delta (form_bound b (map gain_numbers (g ∷ gs)) (f ∷ fs))
    ≡ unsigned_abs f.u * amount S delta (first_state_bound (gain_numbers g) b) + unsigned_abs f.v * amount S delta (second_state_bound (gain_numbers g) b)
    + amount S delta (form_bound (output_bound (gain_numbers g) b) (map gain_numbers gs) fs)
form_amount S delta b g gs f fs nb =
    let one = natural_first g b nb in
    let two = natural_second g b nb in
    let rest = form_bound_natural (output_bound (gain_numbers g) b) gs fs (natural_output g b nb) in
    let x = ap (λ (n : ℕ). n * S) (size_three (unsigned_abs f.u) (unsigned_abs f.v) _ _ _ one.input two.input rest.input) in
    let y = ap (λ (n : ℕ). 2 ^ 32 * (n * delta)) (size_three (unsigned_abs f.u) (unsigned_abs f.v) _ _ _ one.rounding two.rounding rest.rounding) in
    omega (arith, x, y)
