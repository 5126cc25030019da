-- A quotient with the rest over its divisor.
use Rattle.std.specs.Prelude.{ℕ, ◌+◌, ◌*◌, ◌^◌, ◌<◌, ◌≤◌, ℤ, pos, ◌+ℤ◌, ◌*ℤ◌}
use Rattle.flk_scale.specs.declared.parts.Parts.{Parts}

-- the dividend: the quotient times the divisor, and the rest
abbrev pub dividend : Parts → ℕ → ℤ
dividend p divisor = p.quotient *ℤ pos divisor +ℤ pos p.rest

-- the rest is this share of the divisor, in units of 2^-64, rounded down
pub record IsShare (rest divisor share : ℕ) : Type 0 where
  pub within : share * divisor ≤ rest * 2 ^ 64
  pub greatest : rest * 2 ^ 64 < share * divisor + divisor
