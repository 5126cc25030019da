-- The levels of recorded voltages have one text, and the promise on every run speaks of some run.
use Rattle.std.proofs.Common.{◌≡◌, ℕ, ◌*◌, ◌<◌, List, length, map, ℤ, Option, Some, None, refl, sym, ap, ◌∙◌, subst, arith}
use Rattle.std.specs.List.{AllZip}
use Rattle.std.proofs.lemmas.List.{length-map}
use Rattle.flk_exact.specs.Fraction.{Fraction}
use Rattle.flk_exact.specs.Run.{IsAdmittedRun, relative_to}
use Rattle.flk_exact.specs.Cut.{half_periods}
use Rattle.flk_exact.specs.HalfPeriod.{AreHalfPeriodValues}
use Rattle.flk_exact.specs.Extreme.{IsLeast, IsGreatest}
use Rattle.flk_exact.proofs.ListLemmas.{AllZip-length, AllZip-unique}
use Rattle.flk_exact.proofs.CutLemmas.{length-half_periods, cuts_unique}
use Rattle.flk_exact.proofs.RunLemmas.{recorded_run_is_admitted}
use Rattle.flk_exact.proofs.HalfPeriodLemmas.{values_exist, values_length}
use Rattle.flk_exact.proofs.ExtremeLemmas.{least_unique, greatest_unique, least_exists, greatest_exists}
use Rattle.flk_num.specs.declared.interval.Interval.{Interval}
use Rattle.flk_num.specs.Interval.{lows, highs}
use Rattle.flk_num.proofs.IntervalLemmas.{same_ends}
use Rattle.flk_scale.specs.Voltage.{is_below_zero, IsVoltageInterval}
use Rattle.flk_scale.proofs.VoltageLemmas.{voltage_same}
use Rattle.flk_half.specs.Cutter.{IsHalfPeriodInterval}
use Rattle.flk_half.specs.Intervals.{AreHalfPeriodIntervals}
use Rattle.flk_half.proofs.IntervalsLemmas.{intervals_unique}
use Rattle.flk_top.specs.Levels.{IsExtremeInterval, AreExtremes, AreExtremesIfAny, AreHalfPeriodLevels}
use Rattle.flk_top.specs.Text.{extremes_text, levels_text}
use Rattle.flk_top.specs.declared.measure.Levels.{Levels}
use Rattle.flk_top.specs.declared.measure.Extremes.{Extremes}

-- ---- one list of intervals, and one pair of extremes

voltages_unique : (nominal uncertainty : ℕ) (recorded : List Fraction) (vs ws : List Interval) → AllZip (IsVoltageInterval nominal uncertainty) recorded vs → AllZip (IsVoltageInterval nominal uncertainty) recorded ws → vs ≡ ws
voltages_unique nominal uncertainty recorded vs ws h k =
    AllZip-unique (IsVoltageInterval nominal uncertainty)
    (λ x v w one other. let same = voltage_same nominal uncertainty x v w one other in same_ends v w same.0 same.1) recorded vs ws h k

extreme_unique : (IsExtreme : List ℤ → ℤ → Type 0) → ((xs : List ℤ) (m n : ℤ) → IsExtreme xs m → IsExtreme xs n → m ≡ n)
    → (hs : List Interval) (v w : Interval) → IsExtremeInterval IsExtreme hs v → IsExtremeInterval IsExtreme hs w → v ≡ w
extreme_unique IsExtreme unique hs v w one other =
    same_ends v w (unique (lows hs) v.lo w.lo one.low other.low) (unique (highs hs) v.hi w.hi one.high other.high)

-- ---- the text of the levels

extremes_unique : (half nominal uncertainty : ℕ) (recorded : List Fraction) (cuts : List ℕ) (e f : Extremes) → AreExtremes half nominal uncertainty recorded cuts e → AreExtremes half nominal uncertainty recorded cuts f
    → (e.least ≡ f.least) × (e.greatest ≡ f.greatest)
extremes_unique half nominal uncertainty recorded cuts e f h k =
    let voltages = voltages_unique nominal uncertainty recorded h.voltages k.voltages h.are_voltages k.are_voltages in
    let are = subst (λ (vs : List Interval). AreHalfPeriodIntervals half cuts vs h.intervals) voltages h.are_intervals in
    let intervals = intervals_unique half cuts k.voltages h.intervals k.intervals are k.are_intervals in (
      extreme_unique IsLeast least_unique k.intervals e.least f.least (subst (λ (hs : List Interval). IsExtremeInterval IsLeast hs e.least) intervals h.least_is) k.least_is,
      extreme_unique IsGreatest greatest_unique k.intervals e.greatest f.greatest (subst (λ (hs : List Interval). IsExtremeInterval IsGreatest hs e.greatest) intervals h.greatest_is) k.greatest_is,
    )

-- where there are extremes there is a half-period
some_cut : (half nominal uncertainty : ℕ) (recorded : List Fraction) (cuts : List ℕ) (e : Extremes) → AreExtremes half nominal uncertainty recorded cuts e → 0 < length cuts
some_cut half nominal uncertainty recorded cuts e h =
    omega (arith, h.least_is.low.among.1, length-map h.intervals (λ v. v.lo), AllZip-length (IsHalfPeriodInterval half) (half_periods cuts h.voltages) h.intervals h.are_intervals, length-half_periods cuts h.voltages)

extremes_text_same : (half nominal uncertainty : ℕ) (recorded : List Fraction) (cuts : List ℕ) (e f : Option Extremes) → AreExtremesIfAny half nominal uncertainty recorded cuts e
    → AreExtremesIfAny half nominal uncertainty recorded cuts f → extremes_text e ≡ extremes_text f
extremes_text_same half nominal uncertainty recorded cuts None None h k = refl
extremes_text_same half nominal uncertainty recorded cuts None (Some f) h k = absurd (omega (arith, h, some_cut half nominal uncertainty recorded cuts f k))
extremes_text_same half nominal uncertainty recorded cuts (Some e) None h k = absurd (omega (arith, k, some_cut half nominal uncertainty recorded cuts e h))
extremes_text_same half nominal uncertainty recorded cuts (Some e) (Some f) h k =
    let same = extremes_unique half nominal uncertainty recorded cuts e f h k in
    rw (same.0, same.1) refl

pub levels_text_same : (channel half nominal uncertainty : ℕ) (recorded : List Fraction) (a b : Levels) → AreHalfPeriodLevels half nominal uncertainty recorded a → AreHalfPeriodLevels half nominal uncertainty recorded b
    → levels_text channel a ≡ levels_text channel b
levels_text_same channel half nominal uncertainty recorded a b h k =
    let cuts : h.cuts ≡ k.cuts = cuts_unique half (map is_below_zero recorded) h.cuts k.cuts h.are_cuts k.are_cuts in
    let count : a.count ≡ b.count = h.count ∙ ap length cuts ∙ sym k.count in
    let P : List ℕ → Type 0 = λ cs. AreExtremesIfAny half nominal uncertainty recorded cs a.extremes in
    rw (count, extremes_text_same half nominal uncertainty recorded k.cuts a.extremes b.extremes (subst P cuts h.extremes) k.extremes) refl

-- ---- the promise

-- where there is a half-period there are an admitted run, its values, the least and the greatest of them
pub some_run : (half nominal uncertainty : ℕ) (recorded : List Fraction) (cuts : List ℕ) → 0 < half → 0 < nominal → 0 < length cuts
    → (run : List Fraction) × (values : List ℤ) × (least : ℤ) × (greatest : ℤ) × IsAdmittedRun (1000 * nominal) uncertainty recorded run × AreHalfPeriodValues half cuts run values × IsLeast values least × IsGreatest values greatest
some_run half nominal uncertainty recorded cuts some high any =
    let positive : 0 < 1000 * nominal = omega arith in
    let run = map (relative_to (1000 * nominal) positive) recorded in
    let values = values_exist half cuts run some in
    let there : 0 < length values.0 = omega (arith, values_length half cuts run values.0 values.1) in
    let least = least_exists values.0 there in
    let greatest = greatest_exists values.0 there in
    (run, values.0, least.0, greatest.0, recorded_run_is_admitted (1000 * nominal) uncertainty positive recorded, values.1, least.1, greatest.1)
