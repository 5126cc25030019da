-- The kinds of the sections of a design. Which coefficients follow from b0 and which are 0 is as in the design of
-- flk_design, where a section's zeros stay where they are.
use Rattle.std.specs.Prelude.{◌≡◌, ℕ, ◌<◌, List, [], ◌∷◌, slice_index_or, ℤ, pos, neg_ℤ, ◌*ℤ◌}
use Rattle.flk_cert.specs.declared.coefs.Coefs.{Coefs}
use Rattle.flk_cert.specs.declared.gain.Gain.{Gain}
use Rattle.flk_cert.specs.Gain.{coefs_of}
use Rattle.flk_section.specs.declared.kind.SectionKind.{SectionKind}
use Rattle.flk_section.specs.declared.kind.SectionKind.TheVariants.{HighPass, LowPass, BandPass, LeadAndLag, Lag, Any}

-- what is known of coefficients of this kind
abbrev pub HasKind : SectionKind → (b0 b1 b2 a2 : ℤ) → Type 0
HasKind HighPass b0 b1 b2 a2 = (b1 ≡ neg_ℤ b0) × (b2 ≡ pos 0) × (a2 ≡ pos 0)
HasKind LowPass b0 b1 b2 a2 = (b1 ≡ pos 2 *ℤ b0) × (b2 ≡ b0)
HasKind BandPass b0 b1 b2 a2 = (b1 ≡ pos 0) × (b2 ≡ neg_ℤ b0)
HasKind LeadAndLag b0 b1 b2 a2 = (b2 ≡ pos 0) × (a2 ≡ pos 0)
HasKind Lag b0 b1 b2 a2 = (b1 ≡ b0) × (b2 ≡ pos 0) × (a2 ≡ pos 0)
HasKind Any b0 b1 b2 a2 = Unit {0}

abbrev pub IsOfKind : SectionKind → Coefs → Type 0
IsOfKind kind k = HasKind kind k.b0 k.b1 k.b2 k.a2

-- the kinds of a design's sections, in their order
abbrev pub design_kinds : List SectionKind
design_kinds = HighPass ∷ LowPass ∷ LowPass ∷ LowPass ∷ BandPass ∷ LeadAndLag ∷ Lag ∷ []

abbrev pub kind_at : ℕ → SectionKind
kind_at i = slice_index_or design_kinds i Any

-- the section at i has this kind
abbrev pub IsKindAt : ℕ → SectionKind → List Gain → Type 0
IsKindAt i kind gains = (d : Gain) → IsOfKind kind (coefs_of (slice_index_or gains i d))

-- each of the seven sections has the kind that it has in a design
abbrev pub AreOfDesign : List Gain → Type 0
AreOfDesign gains = (i : ℕ) → i < 7 → IsKindAt i (kind_at i) gains
