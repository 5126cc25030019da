-- The numbers on which the digits of a cascade depend, and the radius behind its last section that follows from them.
use Rattle.std.specs.Prelude.{List, ℤ}
use Rattle.flk_cert.specs.declared.coefs.Coefs.{Coefs}
use Rattle.flk_section.specs.Radius.{radius_by}

-- The coefficients of the sections, the gain of the first one, and the bound of the others in a row: inputs are over
-- 2^32, shares of rounding in units.
pub record FilterNumbers : Type 0 where
  pub coefs : List Coefs
  pub first_input : ℤ
  pub first_rounding : ℤ
  pub chain_input : ℤ
  pub chain_rounding : ℤ

-- the radius behind the last section, from the radius before the first: first by the gain of the first section, then by
-- the bound of the others
abbrev pub last_radius : FilterNumbers → ℤ → ℤ
last_radius f r = radius_by f.chain_input f.chain_rounding (radius_by f.first_input f.first_rounding r)
