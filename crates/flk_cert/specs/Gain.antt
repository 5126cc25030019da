-- What is seen of a gain.
use Rattle.std.specs.Prelude.{◌≡◌, List, ℤ, pos, ◌^◌, ◌+ℤ◌}
use Rattle.std.specs.Int.RustNames.{unsigned_abs}
use Rattle.flk_exact.specs.Rounding.{ceil_of}
use Rattle.flk_cert.specs.declared.certificate.CertRow.{CertRow}
use Rattle.flk_cert.specs.declared.coefs.Coefs.{Coefs}
use Rattle.flk_cert.specs.declared.gain.Gain.{Gain}
use Rattle.flk_cert.specs.Certificate.{row_at}

-- the coefficients for which the certificate was checked
abbrev pub coefs_of : Gain → Coefs
coefs_of g = g.coefs

-- the input's gain, over 2^32
abbrev pub input_of : Gain → ℤ
input_of g = g.input

-- the share of rounding, in units
abbrev pub rounding_of : Gain → ℤ
rounding_of g = g.rounding

-- what bounds the error of the first state: `g*s + h` over 2^32, where s bounds the input's error
abbrev pub first_input_of : Gain → ℤ
first_input_of g = g.first_input

abbrev pub first_rounding_of : Gain → ℤ
first_rounding_of g = g.first_rounding

-- what bounds that of `s2 - a1*s1/2^32` in the same way; both are 0 where the certificate has one row
abbrev pub second_input_of : Gain → ℤ
second_input_of g = g.second_input

abbrev pub second_rounding_of : Gain → ℤ
second_rounding_of g = g.second_rounding

-- all numbers of a gain
pub record GainNumbers : Type 0 where
  pub coefs : Coefs
  pub input : ℤ
  pub rounding : ℤ
  pub first_input : ℤ
  pub first_rounding : ℤ
  pub second_input : ℤ
  pub second_rounding : ℤ

abbrev pub gain_numbers : Gain → GainNumbers
gain_numbers g = record {
  coefs = coefs_of g;
  input = input_of g;
  rounding = rounding_of g;
  first_input = first_input_of g;
  first_rounding = first_rounding_of g;
  second_input = second_input_of g;
  second_rounding = second_rounding_of g;
}

-- The gain is that of the certificate with these rows: `|b0| + g_0`, 1 more than `h_0 / 2^32` rounded up, and the
-- bounds of rows 0 and 1.
pub record IsGainOf (k : Coefs) (rows : List CertRow) (g : Gain) : Type 0 where
  pub coefs : coefs_of g ≡ k
  pub input : input_of g ≡ pos (unsigned_abs k.b0) +ℤ (row_at rows 0).g
  pub rounding : rounding_of g ≡ pos 1 +ℤ ceil_of (row_at rows 0).h (pos (2 ^ 32))
  pub first_input : first_input_of g ≡ (row_at rows 0).g
  pub first_rounding : first_rounding_of g ≡ (row_at rows 0).h
  pub second_input : second_input_of g ≡ (row_at rows 1).g
  pub second_rounding : second_rounding_of g ≡ (row_at rows 1).h
