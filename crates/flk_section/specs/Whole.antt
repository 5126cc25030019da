-- What is seen of the bound of a whole cascade.
use Rattle.std.specs.Prelude.{◌≡◌, List, map}
use Rattle.std.specs.List.{AllZip}
use Rattle.flk_cert.specs.declared.certificate.CertRow.{CertRow}
use Rattle.flk_cert.specs.declared.coefs.Coefs.{Coefs}
use Rattle.flk_cert.specs.declared.gain.Gain.{Gain}
use Rattle.flk_cert.specs.Gain.{coefs_of, gain_numbers, IsGainOf}
use Rattle.flk_cert.specs.Make.{IsMade}
use Rattle.flk_section.specs.declared.whole.Whole.{Whole}
use Rattle.flk_section.specs.Filter.{FilterNumbers}
use Rattle.flk_section.specs.Chain.{first_input_in, first_rounding_in, filter_numbers}

-- the gains of its seven sections, in their order
abbrev pub gains_of : Whole → List Gain
gains_of w = w.gains

-- its numbers
abbrev pub numbers_of : Whole → FilterNumbers
numbers_of w = record {
  coefs = map coefs_of w.gains;
  first_input = first_input_in (map gain_numbers w.gains);
  first_rounding = first_rounding_in (map gain_numbers w.gains);
  chain_input = w.input;
  chain_rounding = w.rounding;
}

-- it is the one of the rule for these gains
pub record IsWholeOf (gains : List Gain) (w : Whole) : Type 0 where
  pub holds : gains_of w ≡ gains
  pub numbers : numbers_of w ≡ filter_numbers (map gain_numbers gains)

-- the gain is that of the certificate that is made for the section
pub record IsCertified (k : Coefs) (g : Gain) : Type 0 where
  pub rows : List CertRow
  pub made : IsMade k rows
  pub gain : IsGainOf k rows g

-- one such gain for each section
abbrev pub AreCertified : List Coefs → List Gain → Type 0
AreCertified ks gains = AllZip IsCertified ks gains
