-- From the analog sections to the coefficients of digital ones: the bilinear transform, and the rounding of the
-- quotients. The transform, the order of the sections and the rounding are this profile's own.
use Rattle.std.specs.Prelude.{◌≡◌, List, pos, neg_ℤ, ◌*ℤ◌}
use Rattle.std.specs.List.{AllZip}
use Rattle.flk_exact.specs.Fraction.{Fraction, ◌+ℚ◌, ◌-ℚ◌, ◌*ℚ◌, whole}
use Rattle.flk_cert.specs.declared.coefs.Coefs.{Coefs}
use Rattle.flk_design.specs.Nearest.{IsNearestQuotient}
use Rattle.flk_design.specs.Lamp.{LampConstants}
use Rattle.flk_design.specs.Analog.{AnalogSection, high_pass, low_pass, band_pass, lead_lag, lag, analog_sections}

-- c0 + c1 z + c2 z^2, where z takes the signal back by one sample
pub record Polynomial : Type 0 where
  pub c0 : Fraction
  pub c1 : Fraction
  pub c2 : Fraction

-- The bilinear transform puts `(1 - z)/(1 + z)` for s, in units of 2/T. These are n0 + n1 s times (1 + z), and
-- n0 + n1 s + n2 s^2 times (1 + z)^2.
abbrev pub bilinear_1 : (n0 n1 : Fraction) → Polynomial
bilinear_1 n0 n1 = record { c0 = n0 +ℚ n1; c1 = n0 -ℚ n1; c2 = whole (pos 0) }

abbrev pub bilinear_2 : (n0 n1 n2 : Fraction) → Polynomial
bilinear_2 n0 n1 n2 = record { c0 = n0 +ℚ n1 +ℚ n2; c1 = whole (pos 2) *ℚ (n0 -ℚ n2); c2 = n0 -ℚ n1 +ℚ n2 }

abbrev pub zero : Fraction
zero = whole (pos 0)

abbrev pub one : Fraction
one = whole (pos 1)

-- the two polynomials of a section's quotient (those of the lead and lag times v w, those of the lag times w)
abbrev pub numerator : AnalogSection → Polynomial
numerator (high_pass w) = bilinear_1 zero one
numerator (low_pass q w) = bilinear_2 (w *ℚ w) zero zero
numerator (band_pass k l w) = bilinear_2 zero (k *ℚ w) zero
numerator (lead_lag v w) = bilinear_1 (v *ℚ w) w
numerator (lag w) = bilinear_1 w zero

abbrev pub denominator : AnalogSection → Polynomial
denominator (high_pass w) = bilinear_1 w one
denominator (low_pass q w) = bilinear_2 (w *ℚ w) (q *ℚ w) one
denominator (band_pass k l w) = bilinear_2 (w *ℚ w) (whole (pos 2) *ℚ l) one
denominator (lead_lag v w) = bilinear_1 (v *ℚ w) v
denominator (lag w) = bilinear_1 w one

-- The rest of the numerator: b1 and b2 are the multiples of the rounded b0 that they were of b0, so that the zeros of
-- the section stay where they are. In the lead and lag alone b1 is rounded by itself.
abbrev pub KeepsZeros : AnalogSection → Coefs → Type 0
KeepsZeros (high_pass w) k = (k.b1 ≡ neg_ℤ k.b0) × (k.b2 ≡ pos 0)
KeepsZeros (low_pass q w) k = (k.b1 ≡ pos 2 *ℤ k.b0) × (k.b2 ≡ k.b0)
KeepsZeros (band_pass g l w) k = (k.b1 ≡ pos 0) × (k.b2 ≡ neg_ℤ k.b0)
KeepsZeros (lead_lag v w) k =
    IsNearestQuotient (numerator (lead_lag v w)).c1 (denominator (lead_lag v w)).c0 k.b1 × (k.b2 ≡ pos 0)
KeepsZeros (lag w) k = (k.b1 ≡ k.b0) × (k.b2 ≡ pos 0)

-- k has the coefficients of the digital section, each the nearest whole number of parts of 2^-32
pub record IsDigital (a : AnalogSection) (k : Coefs) : Type 0 where
  pub b0 : IsNearestQuotient (numerator a).c0 (denominator a).c0 k.b0
  pub zeros : KeepsZeros a k
  pub a1 : IsNearestQuotient (denominator a).c1 (denominator a).c0 k.a1
  pub a2 : IsNearestQuotient (denominator a).c2 (denominator a).c0 k.a2

-- these are the digital sections of the lamp's filter, for samples that are T seconds apart
abbrev pub IsDesign : Fraction → LampConstants → List Coefs → Type 0
IsDesign T c sections = AllZip IsDigital (analog_sections T c) sections
