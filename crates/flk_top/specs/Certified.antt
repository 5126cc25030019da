-- Whether a lamp is certified at a sampling rate: the certificates that are made for the seven sections of its filter
-- are accepted, a cascade can be made with the gains that they show, and there is one bound of the whole cascade.
use Rattle.std.specs.Prelude.{◌≡◌, ℕ, zero, suc, ◌+◌, List, [], ◌∷◌, length, map}
use Rattle.std.specs.List.{AllZip}
use Rattle.flk_num.specs.Rate.{sampling_interval}
use Rattle.flk_num.specs.declared.lamp.Lamp.{Lamp}
use Rattle.flk_num.specs.declared.rate.Rate.{Rate}
use Rattle.flk_cert.specs.declared.coefs.Coefs.{Coefs}
use Rattle.flk_cert.specs.declared.certificate.CertRow.{CertRow}
use Rattle.flk_cert.specs.declared.gain.Gain.{Gain}
use Rattle.flk_cert.specs.Make.{IsMade}
use Rattle.flk_cert.specs.Certificate.{FitsSection}
use Rattle.flk_cert.specs.Gain.{gain_numbers}
use Rattle.flk_design.specs.Lamp.{constants_of}
use Rattle.flk_design.specs.Design.{IsDesign}
use Rattle.flk_section.specs.Radius.{FitsCascade}
use Rattle.flk_section.specs.Chain.{HasChainBound}
use Rattle.flk_section.specs.Whole.{IsCertified}
use Rattle.flk_top.specs.declared.certified.CertifiedSection.{CertifiedSection}
use Rattle.flk_top.specs.declared.certified.LampFault.{LampFault}
use Rattle.flk_top.specs.declared.certified.LampFault.TheVariants.{Section, Cascade}

-- ---- a section

-- the certificate that is made for the section is accepted, shows this gain, and has so many rows
pub record IsCertifiedSection (k : Coefs) (s : CertifiedSection) : Type 0 where
  pub certificate : IsCertified k s.gain
  pub fits : FitsSection k certificate.rows
  pub count : s.rows ≡ length certificate.rows

-- the certificate that is made for the section is refused
pub record IsRefused (k : Coefs) : Type 0 where
  pub rows : List CertRow
  pub made : IsMade k rows
  pub fails : ¬ FitsSection k rows

-- section i is refused, counted from 0, and none before it
abbrev pub IsFirstRefused : List Coefs → (i : ℕ) → Type 0
IsFirstRefused [] i = ⊥
IsFirstRefused (k ∷ ks) zero = IsRefused k
IsFirstRefused (k ∷ ks) (suc i) = (¬ IsRefused k) × IsFirstRefused ks i

-- ---- the sections in a row

abbrev pub gains_in : List CertifiedSection → List Gain
gains_in ss = map (λ s. s.gain) ss

-- a cascade can be made with the gains, and there is one bound of it as a whole
pub record IsBounded (gains : List Gain) : Type 0 where
  pub fits : FitsCascade gains
  pub bound : HasChainBound (map gain_numbers gains)

-- ---- a lamp

-- the lamp is certified at the rate, and these are its sections in the order of the signal
pub record IsCertifiedLamp (lamp : Lamp) (rate : Rate) (ss : List CertifiedSection) : Type 0 where
  pub sections : List Coefs
  pub design : IsDesign (sampling_interval rate) (constants_of lamp) sections
  pub accepted : AllZip IsCertifiedSection sections ss
  pub bounded : IsBounded (gains_in ss)

-- the first that fails for sections: the certificate of one of them, or else what is asked of all their gains
abbrev pub FailsAt : List Coefs → LampFault → Type 0
FailsAt sections (Section n) = (i : ℕ) × (n ≡ i + 1) × IsFirstRefused sections i
FailsAt sections Cascade =
    (ss : List CertifiedSection) × AllZip IsCertifiedSection sections ss × (¬ IsBounded (gains_in ss))

-- the lamp isn't certified at the rate, for this reason
pub record IsRefusedLamp (lamp : Lamp) (rate : Rate) (fault : LampFault) : Type 0 where
  pub sections : List Coefs
  pub design : IsDesign (sampling_interval rate) (constants_of lamp) sections
  pub fails : FailsAt sections fault

-- the number of the reason: that of the section, counted from 1, or 0
abbrev pub lamp_fault_number : LampFault → ℕ
lamp_fault_number (Section n) = n
lamp_fault_number Cascade = 0
