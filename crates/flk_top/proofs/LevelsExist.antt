-- Recorded voltages have levels.
use Rattle.std.proofs.Common.{ℕ, ◌<◌, List, [], ◌∷◌, length, map, Option, Some, None, refl, arith}
use Rattle.flk_exact.specs.Fraction.{Fraction}
use Rattle.flk_exact.proofs.ListLemmas.{AllZip-exists}
use Rattle.flk_exact.proofs.CutLemmas.{cuts_exist}
use Rattle.flk_exact.proofs.ExtremeLemmas.{least_exists, greatest_exists, least_≤, greatest_≤}
use Rattle.flk_num.specs.declared.interval.Interval.{Interval}
use Rattle.flk_num.specs.Interval.{lows, highs}
use Rattle.flk_num.proofs.IntervalLemmas.{ends_ordered}
use Rattle.flk_scale.specs.Voltage.{is_below_zero, IsVoltageInterval}
use Rattle.flk_scale.proofs.VoltageLemmas.{voltage_exists}
use Rattle.flk_half.proofs.IntervalsLemmas.{intervals_exist}
use Rattle.flk_top.specs.Levels.{AreExtremeIntervalsIfAny, AreHalfPeriodLevels}
use Rattle.flk_top.specs.declared.measure.Levels.{Levels}
use Rattle.flk_top.specs.declared.measure.Extremes.{Extremes}
use Rattle.flk_top.proofs.LevelsLemmas.{are_extremes_if_any}

-- ---- extremes

extremes_exist : (intervals : List Interval) → (e : Option Extremes) × AreExtremeIntervalsIfAny intervals e
extremes_exist [] = (None, refl)
extremes_exist (h ∷ hs) =
    let low = lows (h ∷ hs) in
    let high = highs (h ∷ hs) in
    let order = ends_ordered (h ∷ hs) in
    let least_low = least_exists low (omega arith) in
    let least_high = least_exists high (omega arith) in
    let greatest_low = greatest_exists low (omega arith) in
    let greatest_high = greatest_exists high (omega arith) in
    let least : Interval = record { lo = least_low.0; hi = least_high.0; ordered = least_≤ low high least_low.0 least_high.0 order least_low.1 least_high.1 } in
    let greatest : Interval = record { lo = greatest_low.0; hi = greatest_high.0; ordered = greatest_≤ low high greatest_low.0 greatest_high.0 order greatest_low.1 greatest_high.1 } in
    let e : Extremes = record { least = least; greatest = greatest } in
    (Some e, record { least_is = record { low = least_low.1; high = least_high.1 }; greatest_is = record { low = greatest_low.1; high = greatest_high.1 } })

-- ---- the levels

pub levels_exist : (half nominal uncertainty : ℕ) (recorded : List Fraction) → 0 < half → 0 < nominal → (levels : Levels) × AreHalfPeriodLevels half nominal uncertainty recorded levels
levels_exist half nominal uncertainty recorded some high =
    let cuts = cuts_exist half (map is_below_zero recorded) in
    let voltages = AllZip-exists (IsVoltageInterval nominal uncertainty) (voltage_exists nominal uncertainty high) recorded in
    let intervals = intervals_exist half cuts.0 voltages.0 some in
    let e = extremes_exist intervals.0 in
    let levels : Levels = record { count = length cuts.0; extremes = e.0 } in (
      levels,
      record {
        cuts = cuts.0;
        are_cuts = cuts.1;
        count = refl;
        extremes = are_extremes_if_any half nominal uncertainty recorded voltages.0 cuts.0 intervals.0 e.0 some high cuts.1 voltages.1 intervals.1 e.1;
      },
    )
