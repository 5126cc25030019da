-- Recorded voltages that are enough have a result.
use Rattle.std.proofs.Common.{◌≡◌, ℕ, ◌<◌, ◌≤◌, List, length, map, Option, Some, None, refl, sym, subst, arith, ⊎_elim}
use Rattle.std.specs.Prelude.{reverse}
use Rattle.std.proofs.lemmas.Bool.{cases_lt}
use Rattle.std.proofs.lemmas.List.{reverse-reverse, length-map, length-reverse}
use Rattle.flk_exact.specs.Fraction.{Fraction, units}
use Rattle.flk_exact.proofs.ListLemmas.{AllZip-exists, AllZip-length}
use Rattle.flk_exact.proofs.CutLemmas.{cuts_exist}
use Rattle.flk_num.specs.declared.interval.Interval.{Interval}
use Rattle.flk_num.specs.Interval.{lows, highs}
use Rattle.flk_num.specs.Rate.{adaptor_exponent, smoothing_number}
use Rattle.flk_num.proofs.RateLemmas.{half_some}
use Rattle.flk_num.proofs.IntervalLemmas.{ends_ordered}
use Rattle.flk_scale.specs.Voltage.{is_below_zero, IsVoltageInterval}
use Rattle.flk_scale.proofs.VoltageLemmas.{voltage_exists}
use Rattle.flk_half.proofs.IntervalsLemmas.{intervals_exist}
use Rattle.flk_change.specs.declared.flag.Flag.{Flag}
use Rattle.flk_change.proofs.FlagsLemmas.{flags_exist}
use Rattle.flk_change.proofs.SummaryLemmas.{summary_exists}
use Rattle.flk_front.proofs.AdaptorLaws.{ArePoints-exists}
use Rattle.flk_section.proofs.CascadeLemmas.{answers_exist}
use Rattle.flk_stat.specs.Rounded.{AreLevelIntervals}
use Rattle.flk_stat.proofs.SmoothingLaws.{AreLevelIntervals-exists}
use Rattle.flk_stat.proofs.SeverityLemmas.{severity_exists}
use Rattle.flk_stat.proofs.LevelLemmas.{severity_of_ends_≤}
use Rattle.flk_stat.proofs.LongTermLemmas.{long_term_exists, long_term_≤}
use Rattle.flk_result.specs.declared.result.PhaseResult.{PhaseResult}
use Rattle.flk_result.specs.Conditions.{Conditions, half_in, window_in, of_interval, AreEnough, AreSensible}
use Rattle.flk_result.specs.PhaseResult.{zero_interval}
use Rattle.flk_result.specs.Digits.{AreSteps, IsSeverityInterval, IsLongTermEnds, IsPhaseResult}
use Rattle.flk_result.proofs.LengthLemmas.{points_length, answers_length, intervals_length, interval_some, list_by_index}
use Rattle.flk_result.proofs.HoldLemmas.{window_some}

-- ---- the steps

pub record Steps (c : Conditions) (recorded : List Fraction) : Type 0 where
  pub halves : List Interval
  pub flags : List Flag
  pub levels : List Interval
  pub are : AreSteps c recorded halves flags levels

pub steps_exist : (c : Conditions) (recorded : List Fraction) → 0 < c.nominal → Steps c recorded
steps_exist c recorded some =
    let voltages = AllZip-exists (IsVoltageInterval c.nominal c.uncertainty) (voltage_exists c.nominal c.uncertainty some) recorded in
    let cuts = cuts_exist (half_in c) (map is_below_zero recorded) in
    let halves = intervals_exist (half_in c) cuts.0 voltages.0 (half_some c.lamp c.rate) in
    let flags = flags_exist (window_in c) halves.0 (window_some c.lamp) in
    let points = ArePoints-exists (adaptor_exponent c.rate) (reverse voltages.0) in
    let answers = answers_exist c.filter points.0 in
    let levels = AreLevelIntervals-exists (smoothing_number c.rate) answers.0 in
    record {
      halves = halves.0;
      flags = flags.0;
      levels = reverse levels.0;
      are = record {
        voltages = voltages.0;
        cuts = cuts.0;
        points = points.0;
        answers = answers.0;
        are_voltages = voltages.1;
        are_cuts = cuts.1;
        are_halves = halves.1;
        are_flags = flags.1;
        are_points = points.1;
        are_answers = answers.1;
        are_levels = subst (AreLevelIntervals (smoothing_number c.rate) answers.0) (sym (reverse-reverse levels.0)) levels.1;
      };
    }

-- one level for each sample
pub steps_length : (c : Conditions) (recorded : List Fraction) (halves : List Interval) (flags : List Flag) (levels : List Interval) → AreSteps c recorded halves flags levels
    → length levels ≡ length recorded
steps_length c recorded halves flags levels steps =
    let voltages = AllZip-length (IsVoltageInterval c.nominal c.uncertainty) recorded steps.voltages steps.are_voltages in
    let points = points_length (adaptor_exponent c.rate) (reverse steps.voltages) steps.points steps.are_points in
    let answers = answers_length c.filter steps.points steps.answers steps.are_answers in
    let turned = intervals_length (smoothing_number c.rate) steps.answers (reverse levels) steps.are_levels in
    omega (arith, voltages, points, answers, turned, length-reverse levels, length-reverse steps.voltages)

-- ---- severities

severity_interval_exists : (levels : List Interval) → 0 < length levels → (v : Interval) × IsSeverityInterval levels v
severity_interval_exists levels some =
    let low = severity_exists (map units (lows levels)) (omega (arith, some, length-map (lows levels) units, length-map levels (λ v. v.lo))) in
    let high = severity_exists (map units (highs levels)) (omega (arith, some, length-map (highs levels) units, length-map levels (λ v. v.hi))) in
    let v : Interval = record { lo = low.0; hi = high.0; ordered = severity_of_ends_≤ (lows levels) (highs levels) low.0 high.0 (ends_ordered levels) low.1 high.1 } in
    (v, record { low = low.1; high = high.1 })

-- the severity of an interval that is judged, and 0 to 0 for the others
record IsJudged (c : Conditions) (levels : List Interval) (i : ℕ) (v : Interval) : Type 0 where
  severity : i < c.count → IsSeverityInterval (of_interval c i levels) v
  none : c.count ≤ i → v ≡ zero_interval

judged_exists : (c : Conditions) (levels : List Interval) (i : ℕ) → AreSensible c → AreEnough c (length levels) → (v : Interval) × IsJudged c levels i v
judged_exists c levels i sensible enough =
    ⊎_elim
    (λ low.
    let v = severity_interval_exists (of_interval c i levels) (interval_some c i levels sensible enough low) in
    (v.0, record { severity = λ h. v.1; none = λ h. absurd (omega (arith, h, low)) }))
    (λ high. (zero_interval, record { severity = λ h. absurd (omega (arith, h, high)); none = λ h. refl }))
    (cases_lt i c.count)

long_term_ends_exist : (count : ℕ) (severities : List Interval) → count ≤ 12 → (plt : Option Interval) × IsLongTermEnds count severities plt
long_term_ends_exist count severities few =
    ⊎_elim
    (λ less. (None, less))
    (λ most.
    let low = long_term_exists (lows severities) in
    let high = long_term_exists (highs severities) in
    let v : Interval = record { lo = low.0; hi = high.0; ordered = long_term_≤ (lows severities) (highs severities) low.0 high.0 (ends_ordered severities) low.1 high.1 } in
    let twelve : count ≡ 12 = omega (arith, few, most) in
    (Some v, (twelve, record { low = low.1; high = high.1 })))
    (cases_lt count 12)

-- ---- the result

pub result_exists : (c : Conditions) (recorded : List Fraction) → AreSensible c → AreEnough c (length recorded) → (r : PhaseResult) × IsPhaseResult c recorded r
result_exists c recorded sensible enough =
    let steps = steps_exist c recorded sensible.nominal in
    let long : AreEnough c (length steps.levels) = omega (arith, enough, steps_length c recorded steps.halves steps.flags steps.levels steps.are) in
    let summary = summary_exists (window_in c) steps.halves steps.flags (window_some c.lamp) steps.are.are_flags.same_length in
    let pst = list_by_index (IsJudged c steps.levels) zero_interval 12 (λ i low. judged_exists c steps.levels i sensible long) in
    let plt = long_term_ends_exist c.count pst.0 sensible.few in
    let r : PhaseResult = record { halves = length steps.halves; changes = summary.0; pst = pst.0; count = c.count; plt = plt.0; twelve = pst.1 } in (
      r,
      record {
        halves = steps.halves;
        flags = steps.flags;
        levels = steps.levels;
        steps = steps.are;
        halves_is = refl;
        changes_are = summary.1;
        count_is = refl;
        severities_are = λ i low. (pst.2 i (omega (arith, low, sensible.few))).severity low;
        none_after = λ i high low. (pst.2 i low).none high;
        long_term_is = plt.1;
      },
    )
