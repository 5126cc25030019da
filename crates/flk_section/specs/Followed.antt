-- What the code keeps while it follows forms back.
use Rattle.std.specs.Prelude.{◌≡◌, ℕ, ◌+◌, ◌*◌, ◌^◌, ◌<◌, ◌≤◌, List, ℤ}
use Rattle.std.specs.List.{All}
use Rattle.std.specs.Int.RustNames.{unsigned_abs}
use Rattle.flk_cert.specs.Gain.{GainNumbers}
use Rattle.flk_section.specs.declared.form.FormPart.{FormPart}
use Rattle.flk_section.specs.declared.form.SectionBack.{SectionBack}
use Rattle.flk_section.specs.declared.form.SampleBack.{SampleBack}
use Rattle.flk_section.specs.declared.form.Followed.{Followed}
use Rattle.flk_section.specs.Forms.{number_at_output, number_at_input, part_before, weight_of, form_before, share_of, weights, shares, form_behind}

-- its numbers are below 2^60 in size
pub record IsSmallPart (f : FormPart) : Type 0 where
  pub u : unsigned_abs f.u < 2 ^ 60
  pub v : unsigned_abs f.v < 2 ^ 60

-- what one section makes of its part and of the number z behind it
pub record IsSectionBack (g : GainNumbers) (z : ℤ) (f : FormPart) (s : SectionBack) : Type 0 where
  pub part : s.part ≡ part_before g (number_at_output g z f) f
  pub number : s.number ≡ number_at_input g (number_at_output g z f) f
  pub share : s.share ≡ unsigned_abs (number_at_output g z f) + unsigned_abs f.u + unsigned_abs f.v
  pub small_part : IsSmallPart s.part
  pub small_number : unsigned_abs s.number < 2 ^ 60
  pub small_share : s.share ≤ 3 * 2 ^ 60

-- what all sections make of a form
pub record IsSampleBack (z : ℤ) (gs : List GainNumbers) (fs : List FormPart) (s : SampleBack) : Type 0 where
  pub form : s.form ≡ form_before z gs fs
  pub weight : s.weight ≡ weight_of z gs fs
  pub share : s.share ≡ share_of z gs fs
  pub small_form : All IsSmallPart s.form
  pub small_weight : unsigned_abs s.weight < 2 ^ 60
  pub small_share : s.share ≤ 18 * 2 ^ 60

-- what so many samples make of a form
pub record IsFollowed (z : ℤ) (gs : List GainNumbers) (fs : List FormPart) (n : ℕ) (f : Followed) : Type 0 where
  pub form : f.form ≡ form_behind z gs fs n
  pub weights : f.weights ≡ weights z gs fs n
  pub shares : f.shares ≡ shares z gs fs n
  pub small_form : All IsSmallPart f.form
  pub small_weights : f.weights ≤ n * 2 ^ 60
  pub small_shares : f.shares ≤ n * (18 * 2 ^ 60)
