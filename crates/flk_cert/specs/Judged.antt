-- What is known while the rows of a certificate are judged one by one.
use Rattle.std.specs.Prelude.{ℕ, List}
use Rattle.flk_cert.specs.declared.certificate.CertRow.{CertRow}
use Rattle.flk_cert.specs.declared.coefs.Coefs.{Coefs}
use Rattle.flk_cert.specs.declared.fault.Cause.{Cause}
use Rattle.flk_cert.specs.declared.fault.Cause.TheVariants.{Shape, Contraction, Identity, Input, Rounding}
use Rattle.flk_cert.specs.Certificate.{HasShape, Contracts, HasIdentity, CoversInput, CoversRounding}

-- shape and contraction hold
pub record IsJudged (k : Coefs) (rows : List CertRow) : Type 0 where
  pub shape : (i : ℕ) → HasShape k rows i
  pub contraction : Contracts rows

-- no condition fails on row i
pub record AllAreMet (k : Coefs) (rows : List CertRow) (i : ℕ) : Type 0 where
  pub identity : HasIdentity k rows i
  pub input : CoversInput k rows i
  pub rounding : CoversRounding k rows i

-- this condition is the first that fails on row i, of those that are asked row by row
abbrev pub IsFirstOnRow : Coefs → List CertRow → Cause → ℕ → Type 0
IsFirstOnRow k rows Shape i = ⊥
IsFirstOnRow k rows Contraction i = ⊥
IsFirstOnRow k rows Identity i = ¬ HasIdentity k rows i
IsFirstOnRow k rows Input i = HasIdentity k rows i × ¬ CoversInput k rows i
IsFirstOnRow k rows Rounding i = HasIdentity k rows i × CoversInput k rows i × ¬ CoversRounding k rows i
