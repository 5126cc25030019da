-- How much of the tail a line's end is. Contracts of private functions cite this file.
use Rattle.std.specs.Prelude.{ℕ, cond, eqb}
use Rattle.flk_dat.specs.declared.tail.Tail.{Tail}

-- an LF is none of the tail, and a byte 1A is its first byte
abbrev pub tail_after : ℕ → Tail
tail_after byte = cond (eqb byte 10) (record { bytes = 0; marks = 0 }) (record { bytes = 1; marks = 1 })
