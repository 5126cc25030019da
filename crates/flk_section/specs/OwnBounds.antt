-- What the gains of sections in a row say by themselves of the errors of their inputs, outputs and states. Each bound
-- is by the error of the first section's input. The rules are the project's own.
use Rattle.std.specs.Prelude.{◌^◌, Bool, List, [], ◌∷◌, ℤ, pos, ◌+ℤ◌, ◌*ℤ◌, ◌<ℤ◌, if◌then◌else◌}
use Rattle.std.proofs.Common.{int_eq}
use Rattle.std.specs.Int.RustNames.{unsigned_abs}
use Rattle.flk_exact.specs.Rounding.{ceil_of}
use Rattle.flk_cert.specs.Gain.{GainNumbers}
use Rattle.flk_section.specs.declared.own.OwnBound.{OwnBound}

-- An `OwnBound` says: an error of at most `input * s / 2^32 + rounding` units, where that of the first section's input
-- is at most s units. This is the one of the first section's input itself.
abbrev pub first_bound : OwnBound
first_bound = record { input = pos (2 ^ 32); rounding = pos 0 }

abbrev pub no_bound : OwnBound
no_bound = record { input = pos 0; rounding = pos 0 }

abbrev pub both_bounds : OwnBound → OwnBound → OwnBound
both_bounds b c = record { input = b.input +ℤ c.input; rounding = b.rounding +ℤ c.rounding }

-- `g * n / 2^32`, rounded up
abbrev pub scaled_up : ℤ → ℤ → ℤ
scaled_up g n = ceil_of (g *ℤ n) (pos (2 ^ 32))

-- the output, by the bound of the input and the gain
abbrev pub output_bound : GainNumbers → OwnBound → OwnBound
output_bound g b = record { input = scaled_up b.input g.input; rounding = scaled_up b.rounding g.input +ℤ g.rounding }

-- a state whose error is at most `(g*r + h)/2^32` units, where that of the input is at most r units
abbrev pub state_bound : (g h : ℤ) → OwnBound → OwnBound
state_bound g h b = record {
  input = scaled_up g b.input;
  rounding = scaled_up g b.rounding
      +ℤ ceil_of h (pos (2 ^ 32));
}

abbrev pub first_state_bound : GainNumbers → OwnBound → OwnBound
first_state_bound g b = state_bound g.first_input g.first_rounding b

-- the certificate has one row: then the second state has no error
abbrev pub has_one_row : GainNumbers → Bool
has_one_row g = int_eq g.second_rounding (pos 0)

-- a bound of `s2 - a1*s1/2^32` and one of s1 give one of s2
abbrev pub second_with_first : (a1 second first : ℤ) → ℤ
second_with_first a1 second first = second +ℤ scaled_up (pos (unsigned_abs a1)) first

abbrev pub second_state_bound : GainNumbers → OwnBound → OwnBound
second_state_bound g b =
    if has_one_row g then no_bound
    else state_bound (second_with_first g.coefs.a1 g.second_input g.first_input)
    (second_with_first g.coefs.a1 g.second_rounding g.first_rounding) b

-- the bounds of all inputs and outputs of the sections, each section with both its own
abbrev pub signal_bounds : OwnBound → List GainNumbers → OwnBound
signal_bounds b [] = no_bound
signal_bounds b (g ∷ gs) = both_bounds (both_bounds b (output_bound g b)) (signal_bounds (output_bound g b) gs)

-- ---- limits

pub record IsSmallBound (b : OwnBound) : Type 0 where
  pub input : b.input <ℤ pos (2 ^ 60)
  pub rounding : b.rounding <ℤ pos (2 ^ 60)

-- the bounds of each section's input and states, and of the last output, are below 2^60
abbrev pub AreSmallBounds : OwnBound → List GainNumbers → Type 0
AreSmallBounds b [] = IsSmallBound b
AreSmallBounds b (g ∷ gs) = IsSmallBound b × IsSmallBound (first_state_bound g b)
    × IsSmallBound (second_state_bound g b) × AreSmallBounds (output_bound g b) gs
