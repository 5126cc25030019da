-- What `tables LAMP [RATE]` answers: the coefficients of the lamp's sections at a sampling rate, the gains that the
-- certificates made for them show, and the bound of the sections behind the first in a row.
use Rattle.std.specs.Prelude.{◌≡◌, ℕ, ◌+◌, List, [], ◌∷◌, ◌++◌, map, ℤ, codes}
use Rattle.std.specs.Fmt.{decimal, signed_decimal}
use Rattle.flk_num.specs.declared.lamp.Lamp.{Lamp}
use Rattle.flk_num.specs.declared.rate.Rate.{Rate}
use Rattle.flk_cert.specs.declared.coefs.Coefs.{Coefs}
use Rattle.flk_cert.specs.Gain.{coefs_of, input_of, rounding_of, gain_numbers}
use Rattle.flk_section.specs.Filter.{FilterNumbers}
use Rattle.flk_section.specs.Chain.{filter_numbers}
use Rattle.flk_top.specs.Certified.{gains_in, IsCertifiedLamp, IsRefusedLamp, lamp_fault_number}
use Rattle.flk_top.specs.Faults.{lamp_line}
use Rattle.flk_top.specs.Outcome.{Outcome, completed, refusal}
use Rattle.flk_top.specs.declared.certified.CertifiedSection.{CertifiedSection}
use Rattle.flk_top.specs.declared.certified.LampFault.{LampFault}

-- The line of section i. (Appended from the right, as a format is.)
abbrev pub section_line : (i : ℕ) → Coefs → List ℕ
section_line i k =
    codes "section " ++ (decimal i ++ (codes " " ++ (signed_decimal k.b0 ++ (codes " " ++ (signed_decimal k.b1
    ++ (codes " " ++ (signed_decimal k.b2 ++ (codes " " ++ (signed_decimal k.a1 ++ (codes " " ++ (signed_decimal k.a2
    ++ codes "\n")))))))))))

-- the line of its gain, and of how many rows its certificate has
abbrev pub gain_line : (i : ℕ) → (input rounding : ℤ) → (rows : ℕ) → List ℕ
gain_line i input rounding rows =
    codes "gain " ++ (decimal i ++ (codes " " ++ (signed_decimal input ++ (codes " " ++ (signed_decimal rounding
    ++ (codes " " ++ (decimal rows ++ codes "\n")))))))

-- the two lines of section i
abbrev pub section_lines : (i : ℕ) → CertifiedSection → List ℕ
section_lines i s = section_line i (coefs_of s.gain) ++ gain_line i (input_of s.gain) (rounding_of s.gain) s.rows

-- the lines of these sections, the first of which is section i
abbrev pub lines_from : (i : ℕ) → List CertifiedSection → List ℕ
lines_from i [] = []
lines_from i (s ∷ ss) = section_lines i s ++ lines_from (i + 1) ss

-- the line of the sections behind the first in a row
abbrev pub cascade_line : (input rounding : ℤ) → List ℕ
cascade_line input rounding =
    codes "cascade " ++ (signed_decimal input ++ (codes " " ++ (signed_decimal rounding ++ codes "\n")))

-- the bound of the whole cascade for the sections' gains
abbrev pub bound_of : List CertifiedSection → FilterNumbers
bound_of ss = filter_numbers (map gain_numbers (gains_in ss))

abbrev pub tables_text : List CertifiedSection → List ℕ
tables_text ss = lines_from 1 ss ++ cascade_line (bound_of ss).chain_input (bound_of ss).chain_rounding

-- What is due for a lamp at a rate. The premises of the two rows exclude each other.
pub data IsDueForTables (lamp : Lamp) (rate : Rate) (o : Outcome) : Type 0 where
  certified : (ss : List CertifiedSection) → IsCertifiedLamp lamp rate ss → o ≡ completed (tables_text ss)
      → IsDueForTables lamp rate o
  refused : (fault : LampFault) → IsRefusedLamp lamp rate fault → o ≡ refusal (lamp_line (lamp_fault_number fault))
      → IsDueForTables lamp rate o
