-- Intervals of whole numbers: their ends, and what an interval of units, which are 2^-48 each, says of exact voltages.
use Rattle.std.specs.Prelude.{ℕ, ◌≤◌, List, map, ℤ, ◌-ℤ◌, pos}
use Rattle.std.specs.Int.RustNames.{unsigned_abs}
use Rattle.std.specs.List.{AllZip}
use Rattle.std.proofs.Common.{lit<}
use Rattle.flk_exact.specs.Fraction.{Fraction, ◌≤ℚ◌, ◌-ℚ◌, ◌*ℚ◌, size, whole, units}
use Rattle.flk_num.specs.declared.interval.Interval.{Interval}

-- the lower and the upper ends
abbrev pub lows : List Interval → List ℤ
lows vs = map (λ v. v.lo) vs

abbrev pub highs : List Interval → List ℤ
highs vs = map (λ v. v.hi) vs

-- the voltage u lies between the ends of v
pub record Holds (v : Interval) (u : Fraction) : Type 0 where
  pub above : units v.lo ≤ℚ u
  pub below : u ≤ℚ units v.hi

-- one interval for each voltage, which it holds
abbrev pub HoldEach : List Interval → List Fraction → Type 0
HoldEach vs us = AllZip Holds vs us

-- v is at most `2 * delta` wide
pub record IsNarrow (delta : Fraction) (v : Interval) : Type 0 where
  pub width : units (v.hi -ℤ v.lo) ≤ℚ (whole (pos 2) *ℚ delta)

-- both ends of v are at most w away from the voltage u
pub record IsNear (w : Fraction) (v : Interval) (u : Fraction) : Type 0 where
  pub low : size (units v.lo -ℚ u) ≤ℚ w
  pub high : size (units v.hi -ℚ u) ≤ℚ w

-- the greatest uncertainty, relative to nominal
abbrev pub hundredth : Fraction
hundredth = record { num = pos 1; den = 100; positive = lit< tt }

-- the greatest size of an end of an interval that the flickermeter takes: 4.02 times nominal, in units, rounded down
abbrev pub greatest_end : ℕ
greatest_end = 1131529406376837

-- the ends of v are not above it
pub record IsSmall (v : Interval) : Type 0 where
  pub low : unsigned_abs v.lo ≤ greatest_end
  pub high : unsigned_abs v.hi ≤ greatest_end
