-- What is seen of a section, and what its state stands for.
use Rattle.std.specs.Prelude.{◌≡◌, Bool, List, ℤ}
use Rattle.flk_cert.specs.declared.coefs.Coefs.{Coefs}
use Rattle.flk_cert.specs.declared.gain.Gain.{Gain}
use Rattle.flk_cert.specs.Gain.{coefs_of}
use Rattle.flk_cert.specs.RoundedSection.{state}
use Rattle.flk_section.specs.declared.section.Section.{Section}
use Rattle.flk_section.specs.Kept.{as_state}

-- the gain that it holds
abbrev pub gain_of : Section → Gain
gain_of s = s.gain

-- its coefficients are those of the gain
abbrev pub coefs_in : Section → Coefs
coefs_in s = coefs_of s.gain

-- whether it starts from one
abbrev pub starts_from_one : Section → Bool
starts_from_one s = s.from_one

-- The state stands for these inputs, newest first: its two numbers are those of the rounded section after them.
abbrev pub SectionStands : Section → List ℤ → Type 0
SectionStands s Xs = as_state s.state ≡ state (coefs_in s) s.from_one Xs
