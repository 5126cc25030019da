-- From the intervals of recorded voltages to the extremes of every run.
use Rattle.std.proofs.Common.{ℕ, ◌*◌, ◌<◌, Bool, List, [], ◌∷◌, length, map, get_or, ℤ, pos, ◌-ℤ◌, ◌≤ℤ◌, Option, Some, None, arith}
use Rattle.std.specs.List.{All, AllZip, Contains}
use Rattle.std.proofs.lemmas.Int.{ints}
use Rattle.std.proofs.lemmas.List.{get_or-map, length-map}
use Rattle.std.proofs.lemmas.List.Elements.{All-nil, All-cons}
use Rattle.flk_exact.specs.Fraction.{Fraction, ◌≤ℚ◌, whole}
use Rattle.flk_exact.specs.Run.{CoversDoubt}
use Rattle.flk_exact.specs.Cut.{AreCuts, half_periods}
use Rattle.flk_exact.specs.HalfPeriod.{half_period_width}
use Rattle.flk_exact.specs.Extreme.{IsLeast, IsGreatest}
use Rattle.flk_exact.proofs.WholeLemmas.{scale_≤}
use Rattle.flk_exact.proofs.FractionLemmas.{≤ℚ-trans}
use Rattle.flk_exact.proofs.ListLemmas.{AllZip-length}
use Rattle.flk_exact.proofs.CutLemmas.{length-half_periods}
use Rattle.flk_exact.proofs.ExtremeLemmas.{least_≤, greatest_≤}
use Rattle.flk_exact.proofs.RunLemmas.{CoversDoubt-natural}
use Rattle.flk_num.specs.declared.interval.Interval.{Interval}
use Rattle.flk_num.specs.Interval.{lows, highs, IsNarrow}
use Rattle.flk_num.specs.Values.{HoldValues}
use Rattle.flk_num.specs.Square.{least_squares}
use Rattle.flk_scale.specs.Voltage.{IsVoltageInterval, is_below_zero}
use Rattle.flk_half.specs.Cutter.{IsHalfPeriodInterval}
use Rattle.flk_half.specs.Intervals.{AreHalfPeriodIntervals, IsNarrowHalfPeriod}
use Rattle.flk_top.specs.Levels.{HoldsEveryExtreme, KeepsWidth, IsExtremeInterval, AreExtremeIntervals, AreExtremeIntervalsIfAny, AreExtremes, AreExtremesIfAny}
use Rattle.flk_top.specs.declared.measure.Extremes.{Extremes}
use Rattle.flk_scale.proofs.VoltageLemmas.{voltage_narrow, voltages_hold}
use Rattle.flk_half.proofs.EnclosureLemmas.{IsValueAt-natural}
use Rattle.flk_half.proofs.IntervalsLemmas.{intervals_hold, intervals_narrow}

-- ---- every run

lows_≤ : (intervals : List Interval) (values : List ℤ) → HoldValues intervals values → AllZip ◌≤ℤ◌ (lows intervals) values
lows_≤ [] [] h = tt
lows_≤ [] (w ∷ ws) h = absurd h
lows_≤ (v ∷ vs) [] h = absurd h
lows_≤ (v ∷ vs) (w ∷ ws) h = (h.0.above, lows_≤ vs ws h.1)

highs_≤ : (intervals : List Interval) (values : List ℤ) → HoldValues intervals values → AllZip ◌≤ℤ◌ values (highs intervals)
highs_≤ [] [] h = tt
highs_≤ [] (w ∷ ws) h = absurd h
highs_≤ (v ∷ vs) [] h = absurd h
highs_≤ (v ∷ vs) (w ∷ ws) h = (h.0.below, highs_≤ vs ws h.1)

pub least_holds : (half nominal uncertainty : ℕ) (recorded : List Fraction) (voltages : List Interval) (cuts : List ℕ) (intervals : List Interval) (v : Interval) → 0 < nominal → AllZip (IsVoltageInterval nominal uncertainty) recorded voltages
    → AreHalfPeriodIntervals half cuts voltages intervals → IsExtremeInterval IsLeast intervals v → HoldsEveryExtreme IsLeast half nominal uncertainty recorded cuts v
least_holds half nominal uncertainty recorded voltages cuts intervals v some are_voltages are_intervals is run values m admitted those least =
    let held = intervals_hold half cuts voltages run intervals values (voltages_hold nominal uncertainty recorded voltages run some are_voltages admitted) are_intervals those in
    record {
      above = least_≤ (lows intervals) values v.lo m (lows_≤ intervals values held) is.low least;
      below = least_≤ values (highs intervals) m v.hi (highs_≤ intervals values held) least is.high;
    }

pub greatest_holds : (half nominal uncertainty : ℕ) (recorded : List Fraction) (voltages : List Interval) (cuts : List ℕ) (intervals : List Interval) (v : Interval) → 0 < nominal → AllZip (IsVoltageInterval nominal uncertainty) recorded voltages
    → AreHalfPeriodIntervals half cuts voltages intervals → IsExtremeInterval IsGreatest intervals v → HoldsEveryExtreme IsGreatest half nominal uncertainty recorded cuts v
greatest_holds half nominal uncertainty recorded voltages cuts intervals v some are_voltages are_intervals is run values m admitted those greatest =
    let held = intervals_hold half cuts voltages run intervals values (voltages_hold nominal uncertainty recorded voltages run some are_voltages admitted) are_intervals those in
    record {
      above = greatest_≤ (lows intervals) values v.lo m (lows_≤ intervals values held) is.low greatest;
      below = greatest_≤ values (highs intervals) m v.hi (highs_≤ intervals values held) greatest is.high;
    }

-- ---- widths

voltages_narrow : (nominal uncertainty : ℕ) (recorded : List Fraction) (voltages : List Interval) (delta : Fraction) → 0 < nominal → AllZip (IsVoltageInterval nominal uncertainty) recorded voltages → CoversDoubt (1000 * nominal) uncertainty delta → All (IsNarrow delta) voltages
voltages_narrow nominal uncertainty [] [] delta some are covers = All-nil (IsNarrow delta)
voltages_narrow nominal uncertainty [] (v ∷ vs) delta some are covers = absurd are
voltages_narrow nominal uncertainty (x ∷ xs) [] delta some are covers = absurd are
voltages_narrow nominal uncertainty (x ∷ xs) (v ∷ vs) delta some are covers =
    All-cons (IsNarrow delta) v vs (voltage_narrow nominal uncertainty x v delta some are.0 covers) (voltages_narrow nominal uncertainty xs vs delta some are.1 covers)

-- an interval within the width of a narrow one is narrow
narrower : (a b : ℤ) (w : Fraction) → a ≤ℤ b → whole b ≤ℚ w → whole a ≤ℚ w
narrower a b w less h = ≤ℚ-trans (whole a) (whole b) w record { cross = scale_≤ a b 1 less } h

least_narrow : (delta : Fraction) (intervals : List Interval) (v : Interval) → All (IsNarrowHalfPeriod delta) intervals → IsExtremeInterval IsLeast intervals v → IsNarrowHalfPeriod delta v
least_narrow delta intervals v narrow is =
    let k = is.low.among.0 in
    let less : k < length intervals = omega (arith, is.low.among.1, length-map intervals (λ h. h.lo)) in
    let there : k < length (highs intervals) = omega (arith, less, length-map intervals (λ h. h.hi)) in
    let h = get_or intervals k v in
    let lo = get_or-map (λ h. h.lo) intervals k v v.lo less in
    let hi = get_or-map (λ h. h.hi) intervals k v v.hi less in
    narrower (v.hi -ℤ v.lo) (h.hi -ℤ h.lo) (half_period_width delta) (omega (arith, ints, lo, hi, is.low.among.2, is.high.at_most k v.hi there)) (narrow k v less)

greatest_narrow : (delta : Fraction) (intervals : List Interval) (v : Interval) → All (IsNarrowHalfPeriod delta) intervals → IsExtremeInterval IsGreatest intervals v → IsNarrowHalfPeriod delta v
greatest_narrow delta intervals v narrow is =
    let k = is.high.among.0 in
    let less : k < length intervals = omega (arith, is.high.among.1, length-map intervals (λ h. h.hi)) in
    let there : k < length (lows intervals) = omega (arith, less, length-map intervals (λ h. h.lo)) in
    let h = get_or intervals k v in
    let lo = get_or-map (λ h. h.lo) intervals k v v.lo less in
    let hi = get_or-map (λ h. h.hi) intervals k v v.hi less in
    narrower (v.hi -ℤ v.lo) (h.hi -ℤ h.lo) (half_period_width delta) (omega (arith, ints, lo, hi, is.high.among.2, is.low.at_least k v.lo there)) (narrow k v less)

all_narrow : (half nominal uncertainty : ℕ) (negative : List Bool) (recorded : List Fraction) (voltages : List Interval) (cuts : List ℕ) (intervals : List Interval) (delta : Fraction) → 0 < half → 0 < nominal → AreCuts half negative cuts
    → AllZip (IsVoltageInterval nominal uncertainty) recorded voltages → AreHalfPeriodIntervals half cuts voltages intervals → CoversDoubt (1000 * nominal) uncertainty delta → All (IsNarrowHalfPeriod delta) intervals
all_narrow half nominal uncertainty negative recorded voltages cuts intervals delta some high are_cuts are_voltages are_intervals covers =
    let thousand : 0 < 1000 * nominal = omega arith in
    intervals_narrow half negative cuts voltages intervals delta some are_cuts (CoversDoubt-natural (1000 * nominal) uncertainty delta thousand covers)
    (voltages_narrow nominal uncertainty recorded voltages delta high are_voltages covers) are_intervals

pub least_keeps_width : (half nominal uncertainty : ℕ) (negative : List Bool) (recorded : List Fraction) (voltages : List Interval) (cuts : List ℕ) (intervals : List Interval) (v : Interval) → 0 < half → 0 < nominal → AreCuts half negative cuts
    → AllZip (IsVoltageInterval nominal uncertainty) recorded voltages → AreHalfPeriodIntervals half cuts voltages intervals → IsExtremeInterval IsLeast intervals v → KeepsWidth nominal uncertainty v
least_keeps_width half nominal uncertainty negative recorded voltages cuts intervals v some high are_cuts are_voltages are_intervals is delta covers =
    least_narrow delta intervals v (all_narrow half nominal uncertainty negative recorded voltages cuts intervals delta some high are_cuts are_voltages are_intervals covers) is

pub greatest_keeps_width : (half nominal uncertainty : ℕ) (negative : List Bool) (recorded : List Fraction) (voltages : List Interval) (cuts : List ℕ) (intervals : List Interval) (v : Interval) → 0 < half → 0 < nominal → AreCuts half negative cuts
    → AllZip (IsVoltageInterval nominal uncertainty) recorded voltages → AreHalfPeriodIntervals half cuts voltages intervals → IsExtremeInterval IsGreatest intervals v → KeepsWidth nominal uncertainty v
greatest_keeps_width half nominal uncertainty negative recorded voltages cuts intervals v some high are_cuts are_voltages are_intervals is delta covers =
    greatest_narrow delta intervals v (all_narrow half nominal uncertainty negative recorded voltages cuts intervals delta some high are_cuts are_voltages are_intervals covers) is

-- ---- no interval reaches below 0

natural_lows : (half : ℕ) (parts : List (List Interval)) (intervals : List Interval) → AllZip (IsHalfPeriodInterval half) parts intervals → All (λ z. pos 0 ≤ℤ z) (lows intervals)
natural_lows half [] [] are = All-nil (λ z. pos 0 ≤ℤ z)
natural_lows half [] (h ∷ hs) are = absurd are
natural_lows half (vs ∷ parts) [] are = absurd are
natural_lows half (vs ∷ parts) (h ∷ hs) are =
    All-cons (λ z. pos 0 ≤ℤ z) h.lo (map (λ h. h.lo) hs) (IsValueAt-natural half (least_squares vs) h.lo are.0.low) (natural_lows half parts hs are.1)

natural_among : (xs : List ℤ) (m : ℤ) → All (λ z. pos 0 ≤ℤ z) xs → Contains xs m → pos 0 ≤ℤ m
natural_among xs m h among = omega (arith, ints, h among.0 m among.1, among.2)

pub least_natural : (half : ℕ) (parts : List (List Interval)) (intervals : List Interval) (v : Interval) → AllZip (IsHalfPeriodInterval half) parts intervals → IsExtremeInterval IsLeast intervals v → pos 0 ≤ℤ v.lo
least_natural half parts intervals v are is = natural_among (lows intervals) v.lo (natural_lows half parts intervals are) is.low.among

pub greatest_natural : (half : ℕ) (parts : List (List Interval)) (intervals : List Interval) (v : Interval) → AllZip (IsHalfPeriodInterval half) parts intervals → IsExtremeInterval IsGreatest intervals v → pos 0 ≤ℤ v.lo
greatest_natural half parts intervals v are is = natural_among (lows intervals) v.lo (natural_lows half parts intervals are) is.low.among

-- ---- the levels

pub are_extremes : (half nominal uncertainty : ℕ) (recorded : List Fraction) (voltages : List Interval) (cuts : List ℕ) (intervals : List Interval) (e : Extremes) → 0 < half → 0 < nominal → AreCuts half (map is_below_zero recorded) cuts
    → AllZip (IsVoltageInterval nominal uncertainty) recorded voltages → AreHalfPeriodIntervals half cuts voltages intervals → AreExtremeIntervals intervals e → AreExtremes half nominal uncertainty recorded cuts e
are_extremes half nominal uncertainty recorded voltages cuts intervals e some high are_cuts are_voltages are_intervals are = record {
  least_holds = least_holds half nominal uncertainty recorded voltages cuts intervals e.least high are_voltages are_intervals are.least_is;
  greatest_holds = greatest_holds half nominal uncertainty recorded voltages cuts intervals e.greatest high are_voltages are_intervals are.greatest_is;
  least_width = least_keeps_width half nominal uncertainty (map is_below_zero recorded) recorded voltages cuts intervals e.least some high are_cuts are_voltages are_intervals are.least_is;
  greatest_width = greatest_keeps_width half nominal uncertainty (map is_below_zero recorded) recorded voltages cuts intervals e.greatest some high are_cuts are_voltages are_intervals are.greatest_is;
  least_natural = least_natural half (half_periods cuts voltages) intervals e.least are_intervals are.least_is;
  greatest_natural = greatest_natural half (half_periods cuts voltages) intervals e.greatest are_intervals are.greatest_is;
  voltages = voltages;
  intervals = intervals;
  are_voltages = are_voltages;
  are_intervals = are_intervals;
  least_is = are.least_is;
  greatest_is = are.greatest_is;
}

pub are_extremes_if_any : (half nominal uncertainty : ℕ) (recorded : List Fraction) (voltages : List Interval) (cuts : List ℕ) (intervals : List Interval) (e : Option Extremes) → 0 < half → 0 < nominal → AreCuts half (map is_below_zero recorded) cuts
    → AllZip (IsVoltageInterval nominal uncertainty) recorded voltages → AreHalfPeriodIntervals half cuts voltages intervals → AreExtremeIntervalsIfAny intervals e → AreExtremesIfAny half nominal uncertainty recorded cuts e
are_extremes_if_any half nominal uncertainty recorded voltages cuts intervals None some high are_cuts are_voltages are_intervals are =
    omega (arith, are, AllZip-length (IsHalfPeriodInterval half) (half_periods cuts voltages) intervals are_intervals, length-half_periods cuts voltages)
are_extremes_if_any half nominal uncertainty recorded voltages cuts intervals (Some e) some high are_cuts are_voltages are_intervals are =
    are_extremes half nominal uncertainty recorded voltages cuts intervals e some high are_cuts are_voltages are_intervals are
