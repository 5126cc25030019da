-- What is seen of a section of a cascade, and what its state stands for.
use Rattle.std.specs.Prelude.{◌≡◌, ◌^◌, Bool, List, ◌∷◌, ℤ, pos, ◌≤ℤ◌, ◌<ℤ◌}
use Rattle.std.specs.List.{All}
use Rattle.flk_cert.specs.declared.coefs.Coefs.{Coefs}
use Rattle.flk_cert.specs.declared.gain.Gain.{Gain}
use Rattle.flk_cert.specs.Gain.{coefs_of}
use Rattle.flk_cert.specs.RoundedSection.{state}
use Rattle.flk_section.specs.declared.row_section.RowSection.{RowSection}
use Rattle.flk_section.specs.Narrow.{as_state}
use Rattle.flk_section.specs.Kept.{IsNearRest}
use Rattle.flk_section.specs.Radius.{radius_after}

-- the gain that it holds
abbrev pub gain_of : RowSection → Gain
gain_of s = s.gain

-- its coefficients are those of the gain
abbrev pub coefs_in : RowSection → Coefs
coefs_in s = coefs_of s.gain

-- whether it starts from one
abbrev pub starts_from_one : RowSection → Bool
starts_from_one s = s.from_one

-- The state stands for these inputs, newest first: its two numbers are those of the rounded section after them.
abbrev pub SectionStands : RowSection → List ℤ → Type 0
SectionStands s Xs = as_state s.state ≡ state (coefs_in s) s.from_one Xs

-- The state stands for inputs that lie, with the next one, X, within r of the section's rest; and r and the radius
-- behind the section that follows from it are below 2^60. This keeps the numbers of the section within 64 bits.
pub record IsCalm (s : RowSection) (X : ℤ) : Type 0 where
  pub r : ℤ
  pub inputs : List ℤ
  pub natural : pos 0 ≤ℤ r
  pub small : r <ℤ pos (2 ^ 60)
  pub near : All (IsNearRest (starts_from_one s) r) (X ∷ inputs)
  pub stands : SectionStands s inputs
  pub radius : radius_after (gain_of s) r <ℤ pos (2 ^ 60)
