-- What the code keeps while it sums the own bounds.
use Rattle.std.specs.Prelude.{◌≡◌, ℕ, ◌*◌, ◌^◌, List, pos, ◌+ℤ◌, ◌*ℤ◌}
use Rattle.std.specs.Int.RustNames.{unsigned_abs}
use Rattle.flk_cert.specs.Gain.{GainNumbers}
use Rattle.flk_cert.specs.Row.{IsUpTo}
use Rattle.flk_section.specs.declared.form.FormPart.{FormPart}
use Rattle.flk_section.specs.declared.own.OwnBound.{OwnBound}
use Rattle.flk_section.specs.declared.own.SectionBounds.{SectionBounds}
use Rattle.flk_section.specs.declared.own.Owned.{Owned}
use Rattle.flk_section.specs.OwnBounds.{output_bound, first_state_bound, second_state_bound, signal_bounds}
use Rattle.flk_section.specs.Forms.{form_bound}
use Rattle.flk_section.specs.declared.chain.ChainBound.{ChainBound}
use Rattle.flk_section.specs.Chain.{chain_input, chain_rounding}

-- its numbers are from 0 to this
pub record IsBoundUpTo (most : ℕ) (b : OwnBound) : Type 0 where
  pub input : IsUpTo most b.input
  pub rounding : IsUpTo most b.rounding

-- one section's part of a form, by the bounds of its states
abbrev pub part_bound : GainNumbers → OwnBound → FormPart → OwnBound
part_bound g b f = record {
  input = pos (unsigned_abs f.u) *ℤ (first_state_bound g b).input
      +ℤ pos (unsigned_abs f.v) *ℤ (second_state_bound g b).input;
  rounding = pos (unsigned_abs f.u) *ℤ (first_state_bound g b).rounding
      +ℤ pos (unsigned_abs f.v) *ℤ (second_state_bound g b).rounding;
}

pub record IsSectionBounds (g : GainNumbers) (b : OwnBound) (f : FormPart) (s : SectionBounds) : Type 0 where
  pub output : s.output ≡ output_bound g b
  pub part : s.part ≡ part_bound g b f
  pub small_output : IsBoundUpTo (2 ^ 93) s.output
  pub small_part : IsBoundUpTo (2 ^ 121) s.part

pub record IsOwned (b : OwnBound) (gs : List GainNumbers) (fs : List FormPart) (o : Owned) : Type 0 where
  pub signals : o.signals ≡ signal_bounds b gs
  pub form : o.form ≡ form_bound b gs fs
  pub small_signals : IsBoundUpTo (6 * 2 ^ 95) o.signals
  pub small_form : IsBoundUpTo (6 * 2 ^ 121) o.form

-- the bound of the sections behind the first is that of the rule
pub record IsChainBound (gs : List GainNumbers) (b : ChainBound) : Type 0 where
  pub input : b.input ≡ chain_input gs
  pub rounding : b.rounding ≡ chain_rounding gs
  pub range_input : IsUpTo (2 ^ 100) b.input
  pub range_rounding : IsUpTo (2 ^ 100) b.rounding
