-- The extremes of the half-periods of a window, and the flag of a whole window by them. No public contract speaks of
-- it.
use Rattle.std.specs.Prelude.{◌≡◌, ℕ, ◌≤◌, List, length, Option, Some, None, pos, ◌-ℤ◌, ◌<ℤ◌, ◌≤ℤ◌}
use Rattle.std.specs.Int.RustNames.{unsigned_abs}
use Rattle.circular_buffer.specs.Buffer.{keep_last}
use Rattle.flk_exact.specs.Extreme.{IsLeast, IsGreatest}
use Rattle.flk_num.specs.declared.interval.Interval.{Interval}
use Rattle.flk_num.specs.Interval.{lows, highs}
use Rattle.flk_change.specs.declared.flag.Flag.{Flag}
use Rattle.flk_change.specs.declared.flag.Flag.TheVariants.{Early, Sure, Not, Doubtful}
use Rattle.flk_change.specs.declared.extremes.Extremes.{Extremes}

-- the least and the greatest of the lower ends, and of the upper ones
pub record AreExtremes (halves : List Interval) (e : Extremes) : Type 0 where
  pub least_low : IsLeast (lows halves) e.least_low
  pub greatest_low : IsGreatest (lows halves) e.greatest_low
  pub least_high : IsLeast (highs halves) e.least_high
  pub greatest_high : IsGreatest (highs halves) e.greatest_high

-- those of the newest half-periods; none exactly where there is no half-period
abbrev pub AreExtremesOfWindow : ℕ → List Interval → Option Extremes → Type 0
AreExtremesOfWindow window halves None = length halves ≡ 0
AreExtremesOfWindow window halves (Some e) = AreExtremes (keep_last window halves) e

-- they are at most ten times nominal in size
pub record AreSmall (e : Extremes) : Type 0 where
  pub least_low : unsigned_abs e.least_low ≤ 10000000000
  pub greatest_low : unsigned_abs e.greatest_low ≤ 10000000000
  pub least_high : unsigned_abs e.least_high ≤ 10000000000
  pub greatest_high : unsigned_abs e.greatest_high ≤ 10000000000

abbrev pub IsFlagOfExtremes : Extremes → Flag → Type 0
IsFlagOfExtremes e Early = ⊥
IsFlagOfExtremes e Sure = (e.greatest_high -ℤ e.least_low) ≤ℤ pos 4000000
IsFlagOfExtremes e Not = pos 4000000 <ℤ (e.greatest_low -ℤ e.least_high)
IsFlagOfExtremes e Doubtful = (pos 4000000 <ℤ (e.greatest_high -ℤ e.least_low))
    × ((e.greatest_low -ℤ e.least_high) ≤ℤ pos 4000000)
