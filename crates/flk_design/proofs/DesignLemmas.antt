-- A filter has one design.
use Rattle.std.proofs.Common.{◌≡◌, ◌≤◌, ◌^◌, List, ℤ, pos, neg_ℤ, ◌*ℤ◌, refl, sym, ap, ◌∙◌, subst}
use Rattle.std.specs.Int.RustNames.{unsigned_abs}
use Rattle.std.specs.Coded.{le_prop}
use Rattle.flk_exact.specs.Fraction.{Fraction}
use Rattle.flk_exact.proofs.ListLemmas.{AllZip-unique}
use Rattle.flk_cert.specs.declared.coefs.Coefs.{Coefs}
use Rattle.flk_design.specs.Lamp.{LampConstants}
use Rattle.flk_design.specs.Analog.{AnalogSection, high_pass, low_pass, band_pass, lead_lag, lag, analog_sections}
use Rattle.flk_design.specs.Design.{IsDigital, KeepsZeros, IsDesign}
use Rattle.flk_design.proofs.NearestLemmas.{nearest_unique}

-- k has these coefficients
abbrev IsOf : Coefs → ℤ → ℤ → ℤ → ℤ → ℤ → Type 0
IsOf k b0 b1 b2 a1 a2 =
    (s0 : unsigned_abs b0 ≤ 2 ^ 33) (s1 : unsigned_abs b1 ≤ 2 ^ 33) (s2 : unsigned_abs b2 ≤ 2 ^ 33) (t1 : unsigned_abs a1 ≤ 2 ^ 33) (t2 : unsigned_abs a2 ≤ 2 ^ 33)
    → k ≡ record { b0 = b0; b1 = b1; b2 = b2; a1 = a1; a2 = a2; b0_small = s0; b1_small = s1; b2_small = s2; a1_small = t1; a2_small = t2 }

of_own : (k : Coefs) → IsOf k k.b0 k.b1 k.b2 k.a1 k.a2
of_own k = λ s0 s1 s2 t1 t2. rw (le_prop s0 k.b0_small, le_prop s1 k.b1_small, le_prop s2 k.b2_small, le_prop t1 k.a1_small, le_prop t2 k.a2_small) refl

coefs_same : (k j : Coefs) → k.b0 ≡ j.b0 → k.b1 ≡ j.b1 → k.b2 ≡ j.b2 → k.a1 ≡ j.a1 → k.a2 ≡ j.a2 → k ≡ j
coefs_same k j e0 e1 e2 f1 f2 =
    let P0 : ℤ → Type 0 = λ z. IsOf k z k.b1 k.b2 k.a1 k.a2 in
    let P1 : ℤ → Type 0 = λ z. IsOf k j.b0 z k.b2 k.a1 k.a2 in
    let P2 : ℤ → Type 0 = λ z. IsOf k j.b0 j.b1 z k.a1 k.a2 in
    let Q1 : ℤ → Type 0 = λ z. IsOf k j.b0 j.b1 j.b2 z k.a2 in
    let Q2 : ℤ → Type 0 = λ z. IsOf k j.b0 j.b1 j.b2 j.a1 z in
    subst Q2 f2 (subst Q1 f1 (subst P2 e2 (subst P1 e1 (subst P0 e0 (of_own k))))) j.b0_small j.b1_small j.b2_small j.a1_small j.a2_small

-- with the same b0 sections of one kind have the same numerator
zeros_same : (a : AnalogSection) (k j : Coefs) → k.b0 ≡ j.b0 → KeepsZeros a k → KeepsZeros a j → (k.b1 ≡ j.b1) × (k.b2 ≡ j.b2)
zeros_same (high_pass w) k j e h i = (h.0 ∙ ap (λ z. neg_ℤ z) e ∙ sym i.0, h.1 ∙ sym i.1)
zeros_same (low_pass q w) k j e h i = (h.0 ∙ ap (λ z. pos 2 *ℤ z) e ∙ sym i.0, h.1 ∙ e ∙ sym i.1)
zeros_same (band_pass g l w) k j e h i = (h.0 ∙ sym i.0, h.1 ∙ ap (λ z. neg_ℤ z) e ∙ sym i.1)
zeros_same (lead_lag v w) k j e h i = (nearest_unique _ _ k.b1 j.b1 h.0 i.0, h.1 ∙ sym i.1)
zeros_same (lag w) k j e h i = (h.0 ∙ e ∙ sym i.0, h.1 ∙ sym i.1)

digital_unique : (a : AnalogSection) (k j : Coefs) → IsDigital a k → IsDigital a j → k ≡ j
digital_unique a k j h i =
    let e = nearest_unique _ _ k.b0 j.b0 h.b0 i.b0 in
    let zeros = zeros_same a k j e h.zeros i.zeros in
    coefs_same k j e zeros.0 zeros.1 (nearest_unique _ _ k.a1 j.a1 h.a1 i.a1) (nearest_unique _ _ k.a2 j.a2 h.a2 i.a2)

pub design_unique : (T : Fraction) (c : LampConstants) (ks js : List Coefs) → IsDesign T c ks → IsDesign T c js → ks ≡ js
design_unique T c ks js h i = AllZip-unique IsDigital digital_unique (analog_sections T c) ks js h i
