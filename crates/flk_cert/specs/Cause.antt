-- The number of each cause for which a certificate is refused.
use Rattle.std.specs.Prelude.{ℕ}
use Rattle.flk_cert.specs.declared.fault.Cause.{Cause}
use Rattle.flk_cert.specs.declared.fault.Cause.TheVariants.{Shape, Contraction, Identity, Input, Rounding}

-- the number that is printed
abbrev pub cause_number : Cause → ℕ
cause_number Shape = 1
cause_number Contraction = 2
cause_number Identity = 3
cause_number Input = 4
cause_number Rounding = 5
