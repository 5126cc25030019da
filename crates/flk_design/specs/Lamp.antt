-- The constants of the flickermeter's filters for the two reference lamps, IEC 61000-4-15. Frequencies are in hertz.
use Rattle.std.specs.Prelude.{ℕ, pos, ◌^◌}
use Rattle.std.proofs.Common.{lit<}
use Rattle.std.proofs.Math.Nat.{one-le-pow}
use Rattle.flk_exact.specs.Fraction.{Fraction}
use Rattle.flk_num.specs.declared.lamp.Lamp.{Lamp}
use Rattle.flk_num.specs.declared.lamp.Lamp.TheVariants.{L230, L120}

-- the decimal fraction that has these digits, the last so many of them after the point
abbrev pub decimal_fraction : (digits places : ℕ) → Fraction
decimal_fraction digits places =
    record { num = pos digits; den = 10 ^ places; positive = one-le-pow places 10 (lit< tt) }

-- What differs between the lamps: the corner of the low-pass; and of the weighting filter
-- `k w1 s/(s^2 + 2 l s + w1^2) * (1 + s/w2)/((1 + s/w3)(1 + s/w4))` the factor k, and l and w1 to w4 over 2 pi.
pub record LampConstants : Type 0 where
  pub low_pass_corner : Fraction
  pub k : Fraction
  pub l : Fraction
  pub w1 : Fraction
  pub w2 : Fraction
  pub w3 : Fraction
  pub w4 : Fraction

abbrev pub constants_of : Lamp → LampConstants
constants_of L230 = record {
  low_pass_corner = decimal_fraction 35 0;  -- 35 Hz
  k = decimal_fraction 174802 5;  -- 1.74802
  l = decimal_fraction 405981 5;  -- 4.05981
  w1 = decimal_fraction 915494 5;  -- 9.15494
  w2 = decimal_fraction 227979 5;  -- 2.27979
  w3 = decimal_fraction 122535 5;  -- 1.22535
  w4 = decimal_fraction 219 1;  -- 21.9
}
constants_of L120 = record {
  low_pass_corner = decimal_fraction 42 0;  -- 42 Hz
  k = decimal_fraction 16357 4;  -- 1.6357
  l = decimal_fraction 4167375 6;  -- 4.167375
  w1 = decimal_fraction 9077169 6;  -- 9.077169
  w2 = decimal_fraction 2939902 6;  -- 2.939902
  w3 = decimal_fraction 1394468 6;  -- 1.394468
  w4 = decimal_fraction 1731512 5;  -- 17.31512
}

-- the corner of the high-pass, 0.05 Hz
abbrev pub high_pass_corner : Fraction
high_pass_corner = decimal_fraction 5 2

-- A low-pass of sixth order after Butterworth has three sections `w^2/(s^2 + q w s + w^2)`, where q is twice the cosine
-- of 75, 45 and 15 degrees.
abbrev pub butterworth_75 : Fraction
butterworth_75 = decimal_fraction 5176380902 10  -- 0.5176380902

abbrev pub butterworth_45 : Fraction
butterworth_45 = decimal_fraction 14142135624 10  -- 1.4142135624

abbrev pub butterworth_15 : Fraction
butterworth_15 = decimal_fraction 19318516526 10  -- 1.9318516526
