-- A section's step on 64 bits. A coefficient is kept over 2^61, so that its product with a value, rounded down, is the
-- upper half of one number of 128 bits: 2^64 is 2^61 times 8. The form is the project's own.
use Rattle.std.specs.Prelude.{◌^◌, ℤ, pos, ◌*ℤ◌}
use Rattle.flk_exact.specs.Rounding.{floor_of}
use Rattle.flk_cert.specs.RoundedSection.{State}
use Rattle.flk_section.specs.declared.narrow.NarrowState.{NarrowState}

-- a coefficient over 2^61 times a value, rounded down
abbrev pub fine_product : ℤ → ℤ → ℤ
fine_product k v = floor_of (k *ℤ v) (pos (2 ^ 61))

-- a coefficient over 2^61, from that over 2^32
abbrev pub fine_of : ℤ → ℤ
fine_of k = pos (2 ^ 29) *ℤ k

-- the two numbers that the code holds, as a state
abbrev pub as_state : NarrowState → State
as_state s = record { s1 = s.s1; s2 = s.s2 }
