-- One bound for the sections behind the first, in a row: what it promises, and the rule by which it is made. The rule
-- is the project's own.
--
-- The promise is that of a section's gain, with the sections in a row in place of one section. The rule follows the
-- error of the last output back through 4,097 samples. The weights of their forms bound what the input's error brings
-- in, their shares what rounding of products does. What rounding of the forms leaves, and the form before the first of
-- these samples, are bounded by the sections' own gains.
use Rattle.std.specs.Prelude.{ℕ, ◌^◌, false, List, [], ◌∷◌, map, drop, ℤ, pos, ◌+ℤ◌, ◌*ℤ◌, ◌<ℤ◌}
use Rattle.flk_exact.specs.Fraction.{Fraction, ◌≤ℚ◌, whole}
use Rattle.flk_exact.specs.Rounding.{ceil_of}
use Rattle.flk_cert.specs.declared.coefs.Coefs.{Coefs}
use Rattle.flk_cert.specs.Gain.{GainNumbers}
use Rattle.flk_cert.specs.Bound.{AllNear, IsErrorWithin}
use Rattle.flk_section.specs.Cascade.{AreSections}
use Rattle.flk_section.specs.RoundedCascade.{last_output}
use Rattle.flk_section.specs.Points.{greatest_point}
use Rattle.flk_section.specs.declared.own.OwnBound.{OwnBound}
use Rattle.flk_section.specs.OwnBounds.{first_bound, signal_bounds, AreSmallBounds}
use Rattle.flk_section.specs.Forms.{weights, shares, form_behind, form_bound, no_form, StaySmallNumbers}
use Rattle.flk_section.specs.Filter.{FilterNumbers, last_radius}

-- ---- the promise

-- Whatever the inputs and their number: where each exact input of the first of these sections is within s of the
-- rounded one's, the newest outputs of the last are within `input * s / 2^32 + rounding` units of each other. All start
-- from zeros.
abbrev pub BoundsChain : List Coefs → (input rounding : ℤ) → Type 0
BoundsChain ks input rounding =
    (s x y : Fraction) (xs ys : List Fraction) (X : ℤ) (Xs : List ℤ)
    → whole (pos 0) ≤ℚ s → AreSections ks false (x ∷ xs) (y ∷ ys) → AllNear s (x ∷ xs) (X ∷ Xs)
    → IsErrorWithin input rounding s y (last_output ks false Xs X)

-- ---- the rule

-- the samples through which an output is followed back: the one of the output, and 4,096 before it
unfoldable pub chain_samples : ℕ
chain_samples = 4097

-- what the forms of these samples, from the last output's error on, leave to the sections' own gains
abbrev pub left_bound : List GainNumbers → OwnBound
left_bound gs = form_bound first_bound gs (form_behind (pos (2 ^ 32)) gs (no_form gs) chain_samples)

abbrev pub chain_input : List GainNumbers → ℤ
chain_input gs =
    pos (weights (pos (2 ^ 32)) gs (no_form gs) chain_samples)
    +ℤ ceil_of (pos chain_samples *ℤ (signal_bounds first_bound gs).input) (pos (2 ^ 32))
    +ℤ ceil_of (left_bound gs).input (pos (2 ^ 32))

abbrev pub chain_rounding : List GainNumbers → ℤ
chain_rounding gs =
    ceil_of (pos (shares (pos (2 ^ 32)) gs (no_form gs) chain_samples)
    +ℤ pos chain_samples *ℤ (signal_bounds first_bound gs).rounding +ℤ (left_bound gs).rounding)
    (pos (2 ^ 32))

-- ---- the numbers of a cascade, from those of its sections' gains

abbrev pub first_input_in : List GainNumbers → ℤ
first_input_in [] = pos 0
first_input_in (g ∷ gs) = g.input

abbrev pub first_rounding_in : List GainNumbers → ℤ
first_rounding_in [] = pos 0
first_rounding_in (g ∷ gs) = g.rounding

abbrev pub filter_numbers : List GainNumbers → FilterNumbers
filter_numbers gs = record {
  coefs = map (λ g. g.coefs) gs;
  first_input = first_input_in gs;
  first_rounding = first_rounding_in gs;
  chain_input = chain_input (drop 1 gs);
  chain_rounding = chain_rounding (drop 1 gs);
}

-- The limits under which there is one: the own bounds and the forms' numbers are below 2^60 in size, the input below
-- 2^36, the share of rounding below 2^40, and the last radius that follows from the greatest radius of the adaptor
-- below 2^60.
pub record HasChainBound (gs : List GainNumbers) : Type 0 where
  pub bounds : AreSmallBounds first_bound (drop 1 gs)
  pub numbers : StaySmallNumbers (pos (2 ^ 32)) (drop 1 gs) (no_form (drop 1 gs)) chain_samples
  pub input : chain_input (drop 1 gs) <ℤ pos (2 ^ 36)
  pub rounding : chain_rounding (drop 1 gs) <ℤ pos (2 ^ 40)
  pub radius : last_radius (filter_numbers gs) (pos greatest_point) <ℤ pos (2 ^ 60)
