-- Samples from one to another.
use Rattle.std.specs.Prelude.{◌↔◌, ℤ, ◌+ℤ◌, ◌*ℤ◌}
use Rattle.std.specs.Prelude.{FitsSigned}
use Rattle.std.specs.Int.{w32}
use Rattle.flk_exact.specs.Rounding.{IsBetween}
use Rattle.flk_scale.specs.declared.samples.Samples.{Samples}

-- the sample is among them
abbrev pub IsAmong : Samples → ℤ → Type 0
IsAmong s x = IsBetween s.first s.last x

-- these are the samples x of 32 bits for which `a * x + b` is from low to high
abbrev pub AreSamplesBetween : (a b low high : ℤ) → Samples → Type 0
AreSamplesBetween a b low high s = (x : ℤ) → FitsSigned w32 x → IsAmong s x ↔ IsBetween low high (x *ℤ a +ℤ b)
