-- The interval of a half-period's value, and what the state of a cutter stands for.
use Rattle.std.specs.Prelude.{◌≡◌, ◌≢◌, ◌⊎◌, ℕ, ◌-◌, ◌*◌, ◌^◌, ◌<◌, ◌≤◌, Bool, false, List, [], ◌∷◌, ◌++◌, length, drop, slice_index_or, ℤ, pos, ◌-ℤ◌, ◌*ℤ◌, ◌≤ℤ◌}
use Rattle.std.specs.List.{All}
use Rattle.flk_exact.specs.Cut.{AreCuts, last_cut}
use Rattle.flk_exact.specs.Fraction.{Fraction, ◌≤ℚ◌, whole}
use Rattle.flk_exact.specs.HalfPeriod.{IsHalfPeriodValue, half_period_width}
use Rattle.flk_exact.specs.Rounding.{IsBetween}
use Rattle.flk_num.specs.declared.interval.Interval.{Interval}
use Rattle.flk_num.specs.Interval.{HoldEach, IsNarrow}
use Rattle.flk_num.specs.Square.{least_squares, greatest_squares}
use Rattle.flk_half.specs.declared.cutter.Cutter.{Cutter}

-- `w^2 * half * 2^78 <= 5^18 * sum`, which is `w^2 * half <= 10^18 * sum` for a sum in units of 2^-96
abbrev pub IsReachedBy : ℕ → ℕ → ℤ → Type 0
IsReachedBy half sum w = (w *ℤ w *ℤ pos (half * 2 ^ 78)) ≤ℤ pos (5 ^ 18 * sum)

-- w is the greatest whole number that is reached
pub record IsValueAt (half sum : ℕ) (w : ℤ) : Type 0 where
  pub reached : IsReachedBy half sum w
  pub greatest : (z : ℤ) → IsReachedBy half sum z → z ≤ℤ w

-- h runs from the value at the least squares of the voltages to the value at the greatest ones
pub record IsHalfPeriodInterval (half : ℕ) (voltages : List Interval) (h : Interval) : Type 0 where
  pub low : IsValueAt half (least_squares voltages) h.lo
  pub high : IsValueAt half (greatest_squares voltages) h.hi

-- The state stands for samples with these signs and voltages, which these are all the cuts of: it keeps how many
-- samples came since the last cut, the sums of their squares, and the sign of the last one.
pub record Stands (c : Cutter) (half : ℕ) (negative : List Bool) (voltages : List Interval)
    (cuts : List ℕ) : Type 0 where
  pub same_half : c.half ≡ half
  pub same_length : length voltages ≡ length negative
  pub are_cuts : AreCuts half negative cuts
  pub since : c.since ≡ length negative - last_cut cuts
  pub least : c.least ≡ least_squares (drop (last_cut cuts) voltages)
  pub greatest : c.greatest ≡ greatest_squares (drop (last_cut cuts) voltages)
  pub sign : 0 < length negative → c.negative ≡ slice_index_or negative (length negative - 1) false

-- the samples that half a nominal period has
abbrev pub half_of : Cutter → ℕ
half_of c = c.half

-- the samples since the last cut
abbrev pub since_cut : Cutter → ℕ
since_cut c = c.since

-- the half-period of the state ends before a sample of this sign
abbrev pub EndsBefore : Cutter → Bool → Type 0
EndsBefore c sign = (c.since ≡ 2 * c.half) ⊎ ((c.half ≤ 2 * c.since) × (sign ≢ c.negative))

-- For every list of samples for which the old state stood, the new one stands for the list with one sample more,
-- which ends no half-period.
abbrev pub Continues : Cutter → Cutter → Bool → Interval → Type 0
Continues old new sign v =
    (half : ℕ) (negative : List Bool) (voltages : List Interval) (cuts : List ℕ)
    → Stands old half negative voltages cuts
    → Stands new half (negative ++ sign ∷ []) (voltages ++ v ∷ []) cuts

-- The same with a sample before which a half-period ends, whose voltages are those since the last cut. The interval h
-- is that of its value.
pub record EndsWith (new : Cutter) (half : ℕ) (negative : List Bool) (voltages : List Interval) (cuts : List ℕ)
    (sign : Bool) (v h : Interval) : Type 0 where
  pub stands : Stands new half (negative ++ sign ∷ []) (voltages ++ v ∷ []) (cuts ++ length negative ∷ [])
  pub interval : IsHalfPeriodInterval half (drop (last_cut cuts) voltages) h

abbrev pub EndsHalfPeriod : Cutter → Cutter → Bool → Interval → Interval → Type 0
EndsHalfPeriod old new sign v h =
    (half : ℕ) (negative : List Bool) (voltages : List Interval) (cuts : List ℕ)
    → Stands old half negative voltages cuts
    → EndsWith new half negative voltages cuts sign v h

-- Every run is held: for every list of samples for which the old state stood, and every run with one exact voltage in
-- each of their intervals, h holds the value of the half-period that ended, which has the run's voltages since the
-- last cut.
abbrev pub HoldsEveryHalfPeriod : Cutter → Interval → Type 0
HoldsEveryHalfPeriod old h =
    (half : ℕ) (negative : List Bool) (voltages : List Interval) (cuts : List ℕ) (run : List Fraction) (w : ℤ)
    → Stands old half negative voltages cuts
    → HoldEach voltages run → IsHalfPeriodValue half (drop (last_cut cuts) run) w → IsBetween h.lo h.hi w

-- The width is kept: for every delta of 0 or more, h is at most `3 * 10^9 * delta + 3` wide where each voltage's
-- interval since the last cut is at most `2 * delta` wide.
abbrev pub KeepsHalfPeriodWidth : Cutter → Interval → Type 0
KeepsHalfPeriodWidth old h =
    (half : ℕ) (negative : List Bool) (voltages : List Interval) (cuts : List ℕ) (delta : Fraction)
    → Stands old half negative voltages cuts
    → pos 0 ≤ℤ delta.num → All (IsNarrow delta) (drop (last_cut cuts) voltages)
    → whole (h.hi -ℤ h.lo) ≤ℚ half_period_width delta
