-- Each lamp has a design at each sampling rate.
use Rattle.std.proofs.Common.{◌≡◌, ◌≤◌, ◌^◌, leb, true, List, [], ◌∷◌, ℤ, pos, neg_ℤ, ◌*ℤ◌, refl}
use Rattle.std.specs.List.{AllZip}
use Rattle.std.specs.Int.RustNames.{unsigned_abs}
use Rattle.std.proofs.lemmas.Bool.{leb-true}
use Rattle.flk_exact.specs.Fraction.{whole}
use Rattle.flk_cert.specs.declared.coefs.Coefs.{Coefs}
use Rattle.flk_num.specs.declared.lamp.Lamp.{Lamp}
use Rattle.flk_num.specs.declared.lamp.Lamp.TheVariants.{L230, L120}
use Rattle.flk_num.specs.declared.rate.Rate.{Rate}
use Rattle.flk_num.specs.declared.rate.Rate.TheVariants.{R2400, R4800}
use Rattle.flk_num.specs.Rate.{sampling_interval}
use Rattle.flk_design.specs.Lamp.{constants_of}
use Rattle.flk_design.specs.Analog.{AnalogSection, high_pass, low_pass, band_pass, lead_lag, lag, analog_sections}
use Rattle.flk_design.specs.Design.{numerator, denominator, KeepsZeros, IsDigital, IsDesign}
use Rattle.flk_design.specs.Nearest.{◌<ℚ◌}
use Rattle.flk_design.proofs.Computed.{is_less}
use Rattle.flk_design.proofs.NearestLemmas.{nearest_of, nearest_is}

-- the coefficients of a section, rounded
abbrev b0_of : AnalogSection → ℤ
b0_of a = nearest_of (numerator a).c0 (denominator a).c0

abbrev a1_of : AnalogSection → ℤ
a1_of a = nearest_of (denominator a).c1 (denominator a).c0

abbrev a2_of : AnalogSection → ℤ
a2_of a = nearest_of (denominator a).c2 (denominator a).c0

abbrev b1_of : AnalogSection → ℤ
b1_of (high_pass w) = neg_ℤ (b0_of (high_pass w))
b1_of (low_pass q w) = pos 2 *ℤ b0_of (low_pass q w)
b1_of (band_pass k l w) = pos 0
b1_of (lead_lag v w) = nearest_of (numerator (lead_lag v w)).c1 (denominator (lead_lag v w)).c0
b1_of (lag w) = b0_of (lag w)

abbrev b2_of : AnalogSection → ℤ
b2_of (high_pass w) = pos 0
b2_of (low_pass q w) = b0_of (low_pass q w)
b2_of (band_pass k l w) = neg_ℤ (b0_of (band_pass k l w))
b2_of (lead_lag v w) = pos 0
b2_of (lag w) = pos 0

-- its divisor is above 0, and its coefficients are at most 2^33 in size: the checker computes both
abbrev is_small : ℤ → Type 0
is_small z = leb (unsigned_abs z) (2 ^ 33) ≡ true

record HasCoefficients (a : AnalogSection) : Type 0 where
  divisor : is_less (whole (pos 0)) (denominator a).c0
  b0 : is_small (b0_of a)
  b1 : is_small (b1_of a)
  b2 : is_small (b2_of a)
  a1 : is_small (a1_of a)
  a2 : is_small (a2_of a)

small : (z : ℤ) → is_small z → unsigned_abs z ≤ 2 ^ 33
small z is = leb-true (unsigned_abs z) (2 ^ 33) is

coefs_of : (a : AnalogSection) → HasCoefficients a → Coefs
coefs_of a h = record {
  b0 = b0_of a;
  b1 = b1_of a;
  b2 = b2_of a;
  a1 = a1_of a;
  a2 = a2_of a;
  b0_small = small (b0_of a) h.b0;
  b1_small = small (b1_of a) h.b1;
  b2_small = small (b2_of a) h.b2;
  a1_small = small (a1_of a) h.a1;
  a2_small = small (a2_of a) h.a2;
}

zeros_kept : (a : AnalogSection) (h : HasCoefficients a) → whole (pos 0) <ℚ (denominator a).c0 → KeepsZeros a (coefs_of a h)
unfolding coefs_of
zeros_kept (high_pass w) h more = (refl, refl)
zeros_kept (low_pass q w) h more = (refl, refl)
zeros_kept (band_pass k l w) h more = (refl, refl)
zeros_kept (lead_lag v w) h more = (nearest_is (numerator (lead_lag v w)).c1 (denominator (lead_lag v w)).c0 more, refl)
zeros_kept (lag w) h more = (refl, refl)

digital_is : (a : AnalogSection) (h : HasCoefficients a) → IsDigital a (coefs_of a h)
unfolding coefs_of
digital_is a h =
    let more : whole (pos 0) <ℚ (denominator a).c0 = record { cross = record { lt = h.divisor } } in
    record {
      b0 = nearest_is (numerator a).c0 (denominator a).c0 more;
      zeros = zeros_kept a h more;
      a1 = nearest_is (denominator a).c1 (denominator a).c0 more;
      a2 = nearest_is (denominator a).c2 (denominator a).c0 more;
    }

abbrev HaveCoefficients : List AnalogSection → Type 0
HaveCoefficients [] = Unit {0}
HaveCoefficients (a ∷ rest) = HasCoefficients a × HaveCoefficients rest

digital_exist : (rest : List AnalogSection) → HaveCoefficients rest → (ks : List Coefs) × AllZip IsDigital rest ks
digital_exist [] h = ([], tt)
digital_exist (a ∷ rest) h =
    let more = digital_exist rest h.1 in
    (coefs_of a h.0 ∷ more.0, (digital_is a h.0, more.1))

computed : {a : AnalogSection} → is_less (whole (pos 0)) (denominator a).c0 → is_small (b0_of a) → is_small (b1_of a) → is_small (b2_of a) → is_small (a1_of a) → is_small (a2_of a) → HasCoefficients a
computed d b0 b1 b2 a1 a2 = record { divisor = d; b0 = b0; b1 = b1; b2 = b2; a1 = a1; a2 = a2 }

sections_have : (lamp : Lamp) (rate : Rate) → HaveCoefficients (analog_sections (sampling_interval rate) (constants_of lamp))
sections_have L230 R2400 = (
  computed tt refl refl refl refl refl,
  (
    computed tt refl refl refl refl refl,
    (
      computed tt refl refl refl refl refl,
      (computed tt refl refl refl refl refl, (computed tt refl refl refl refl refl, (computed tt refl refl refl refl refl, (computed tt refl refl refl refl refl, tt)))),
    ),
  ),
)
sections_have L230 R4800 = (
  computed tt refl refl refl refl refl,
  (
    computed tt refl refl refl refl refl,
    (
      computed tt refl refl refl refl refl,
      (computed tt refl refl refl refl refl, (computed tt refl refl refl refl refl, (computed tt refl refl refl refl refl, (computed tt refl refl refl refl refl, tt)))),
    ),
  ),
)
sections_have L120 R2400 = (
  computed tt refl refl refl refl refl,
  (
    computed tt refl refl refl refl refl,
    (
      computed tt refl refl refl refl refl,
      (computed tt refl refl refl refl refl, (computed tt refl refl refl refl refl, (computed tt refl refl refl refl refl, (computed tt refl refl refl refl refl, tt)))),
    ),
  ),
)
sections_have L120 R4800 = (
  computed tt refl refl refl refl refl,
  (
    computed tt refl refl refl refl refl,
    (
      computed tt refl refl refl refl refl,
      (computed tt refl refl refl refl refl, (computed tt refl refl refl refl refl, (computed tt refl refl refl refl refl, (computed tt refl refl refl refl refl, tt)))),
    ),
  ),
)

pub design_exists : (lamp : Lamp) (rate : Rate) → (sections : List Coefs) × IsDesign (sampling_interval rate) (constants_of lamp) sections
design_exists lamp rate = digital_exist (analog_sections (sampling_interval rate) (constants_of lamp)) (sections_have lamp rate)
