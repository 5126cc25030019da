-- How wide the intervals of a result are. The bounds are the project's own. Those of severities are stated of the run
-- of the recorded voltages themselves, relative to nominal. Lists are in the order of time, and the adaptor's means
-- have the newest first.
use Rattle.std.specs.Prelude.{◌≡◌, ℕ, ◌+◌, ◌*◌, ◌^◌, ◌<◌, List, map, drop, reverse, Some, ℤ, pos, ◌-ℤ◌, ◌<ℤ◌}
use Rattle.std.specs.List.{All, AllZip}
use Rattle.flk_exact.specs.Fraction.{Fraction, ◌≤ℚ◌, ◌+ℚ◌, size, whole, units}
use Rattle.flk_exact.specs.Run.{IsAdmittedRun, CoversDoubt}
use Rattle.flk_exact.specs.Cut.{AreCuts}
use Rattle.flk_exact.specs.HalfPeriod.{AreHalfPeriodValues, half_period_width}
use Rattle.flk_num.specs.declared.interval.Interval.{Interval}
use Rattle.flk_num.specs.Interval.{hundredth}
use Rattle.flk_num.specs.Rate.{adaptor_exponent}
use Rattle.flk_num.specs.Values.{HoldValues, IsNoWider}
use Rattle.flk_scale.specs.Voltage.{is_below_zero, IsRelative}
use Rattle.flk_change.specs.declared.flag.Flag.{Flag}
use Rattle.flk_change.specs.Changes.{Dc, Dmax}
use Rattle.flk_change.specs.Resolutions.{KeepsQuantityWidth, KeepsCount, KeepsSwings, AreNearLimit}
use Rattle.flk_front.specs.Adaptor.{IsAdapted, divisor}
use Rattle.flk_front.specs.Width.{CoversOutput}
use Rattle.flk_design.specs.Nearest.{◌<ℚ◌}
use Rattle.flk_section.specs.Filter.{last_radius}
use Rattle.flk_section.specs.Radius.{units_above}
use Rattle.flk_stat.specs.Width.{severity_width}
use Rattle.flk_result.specs.declared.result.PhaseResult.{PhaseResult}
use Rattle.flk_result.specs.Conditions.{Conditions, half_in, window_in}
use Rattle.flk_result.specs.PhaseResult.{pst_at}
use Rattle.flk_result.specs.Digits.{IsPhaseResult}

-- the run of the recorded voltages themselves, whichever way its fractions are written
abbrev pub IsOwnRun : Conditions → (recorded own : List Fraction) → Type 0
IsOwnRun c recorded own = AllZip (IsRelative c.nominal) recorded own

-- ---- severities

-- What covers the width of the weighted signal. delta is at least the uncertainty relative to nominal and 2^-47; no
-- voltage is above `greatest` in size; no number by which the adaptor divides a square is below `least`; `output` is at
-- least the radius of the adaptor's outputs that follows from these; and `signal` is at least the radius behind the
-- filter that follows from it, and 2^-24 for the rounding of the smoothing. (The equations' own numbers cover it, and
-- so do any that are safer.)
pub record CoversSignal (c : Conditions) (own means : List Fraction) (delta greatest least output signal : Fraction)
    : Type 0 where
  pub doubt : CoversDoubt (1000 * c.nominal) c.uncertainty delta
  pub doubt_high : delta ≤ℚ (hundredth +ℚ units (pos 2))
  pub sizes : All (λ u. size u ≤ℚ greatest) own
  pub sizes_high : greatest ≤ℚ whole (pos 4)
  pub divisors_low : pos 0 <ℤ least.num
  pub divisors : All (λ m. least ≤ℚ divisor m) (drop 1 means)
  pub outputs : CoversOutput delta greatest least output
  pub signals : (units (last_radius c.filter (units_above output)) +ℚ units (pos (2 ^ 24))) ≤ℚ signal

-- no Pst is wider than `10^9 * 796 * signal + 1000` billionths
abbrev pub KeepsSeverityWidths : Conditions → List Fraction → PhaseResult → Type 0
KeepsSeverityWidths c recorded r =
    (own means outputs : List Fraction) (delta greatest least output signal : Fraction) (i : ℕ)
    → IsOwnRun c recorded own → IsAdapted (adaptor_exponent c.rate) (reverse own) means outputs
    → CoversSignal c own means delta greatest least output signal
    → i < c.count → whole ((pst_at r i).hi -ℤ (pst_at r i).lo) ≤ℚ severity_width signal

-- Plt is no wider than the widest of the twelve Pst
abbrev pub KeepsLongTermWidth : PhaseResult → Type 0
KeepsLongTermWidth r =
    (width : ℕ) (v : Interval) → r.plt ≡ Some v
    → ((i : ℕ) → i < 12 → IsNoWider width (pst_at r i)) → IsNoWider width v

-- ---- changes

-- `3 * 10^9 * delta + 3` billionths are below width + 1, where delta is at least the uncertainty relative to nominal
-- and 2^-47
pub record CoversHalfPeriods (c : Conditions) (width : ℕ) : Type 0 where
  pub delta : Fraction
  pub doubt : CoversDoubt (1000 * c.nominal) c.uncertainty delta
  pub covers : half_period_width delta <ℚ whole (pos (width + 1))

-- Half-periods are at most so wide. In each resolution of the doubt dc and dmax are at most twice as wide, and Tmax is
-- at most as wide as the count of half-periods in doubt in the change that has most of them; how far one is from the
-- level before a change is known to twice the width. Every exact run has its values within the half-periods, and there
-- the spread of a Doubtful window differs from the limit by at most twice the width.
pub record KeepsChangeWidths (c : Conditions) (recorded : List Fraction) (halves : List Interval) (flags : List Flag)
    : Type 0 where
  pub half_periods : (width : ℕ) → CoversHalfPeriods c width → All (IsNoWider width) halves
  pub dc : KeepsQuantityWidth Dc (window_in c) halves flags
  pub dmax : KeepsQuantityWidth Dmax (window_in c) halves flags
  pub tmax : KeepsCount (window_in c) halves flags
  pub swings : KeepsSwings (window_in c) halves flags
  pub values : (run : List Fraction) (cuts : List ℕ) (exact : List ℤ)
      → IsAdmittedRun (1000 * c.nominal) c.uncertainty recorded run
      → AreCuts (half_in c) (map is_below_zero recorded) cuts → AreHalfPeriodValues (half_in c) cuts run exact
      → HoldValues halves exact
  pub doubtful : AreNearLimit (window_in c) halves flags

-- where no flag is Doubtful, the dc and dmax of the result are at most twice as wide as the half-periods
abbrev pub KeepsSettledWidths : Conditions → PhaseResult → Type 0
KeepsSettledWidths c r =
    (width : ℕ) → CoversHalfPeriods c width → r.changes.doubtful ≡ 0
    → IsNoWider (width + width) r.changes.dc × IsNoWider (width + width) r.changes.dmax

-- ---- the result

-- The result has the digits of the recorded voltages, and its intervals keep these widths.
pub record KeepsWidths (c : Conditions) (recorded : List Fraction) (r : PhaseResult) : Type 0 where
  pub result : IsPhaseResult c recorded r
  pub changes : KeepsChangeWidths c recorded result.halves result.flags
  pub settled : KeepsSettledWidths c r
  pub severities : KeepsSeverityWidths c recorded r
  pub long_term : KeepsLongTermWidth r
