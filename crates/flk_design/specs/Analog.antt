-- The flickermeter's third block after IEC 61000-4-15 as a chain of analog sections: the high-pass and the low-pass of
-- sixth order after Butterworth, then the weighting filter.
use Rattle.std.specs.Prelude.{List, [], ◌∷◌, pos}
use Rattle.std.proofs.Common.{lit<}
use Rattle.flk_exact.specs.Fraction.{Fraction, ◌*ℚ◌}
use Rattle.flk_design.specs.Lamp.{LampConstants, high_pass_corner, butterworth_75, butterworth_45, butterworth_15}

-- A section by its transfer function. Angular frequencies and s are in units of 2/T, for samples that are T seconds
-- apart.
pub data AnalogSection : Type 0 where
  high_pass : (w : Fraction) → AnalogSection  -- s/(s + w)
  low_pass : (q w : Fraction) → AnalogSection  -- w^2/(s^2 + q w s + w^2)
  band_pass : (k l w : Fraction) → AnalogSection  -- k w s/(s^2 + 2 l s + w^2)
  lead_lag : (v w : Fraction) → AnalogSection  -- (1 + s/v)/(1 + s/w)
  lag : (w : Fraction) → AnalogSection  -- 1/(1 + s/w)

-- this profile's pi
abbrev pub pi : Fraction
pi = record { num = pos 355; den = 113; positive = lit< tt }

-- the angular frequency `2 pi f` in units of 2/T
abbrev pub angular : Fraction → Fraction → Fraction
angular T f = pi *ℚ f *ℚ T

abbrev pub analog_sections : Fraction → LampConstants → List AnalogSection
analog_sections T c =
    high_pass (angular T high_pass_corner)
    ∷ low_pass butterworth_75 (angular T c.low_pass_corner)
    ∷ low_pass butterworth_45 (angular T c.low_pass_corner)
    ∷ low_pass butterworth_15 (angular T c.low_pass_corner)
    ∷ band_pass c.k (angular T c.l) (angular T c.w1)
    ∷ lead_lag (angular T c.w2) (angular T c.w3)
    ∷ lag (angular T c.w4)
    ∷ []
