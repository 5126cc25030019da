-- A result holds the quantities of every exact run.
use Rattle.std.proofs.Common.{◌≡◌, ℕ, ◌+◌, ◌*◌, ◌<◌, ◌≤◌, List, length, map, get_or, ℤ, pos, Option, Some, None, sym, subst, arith, ⊎_elim}
use Rattle.std.specs.Prelude.{reverse}
use Rattle.std.proofs.lemmas.Bool.{cases_lt}
use Rattle.std.proofs.lemmas.List.{reverse-reverse, get_or_default}
use Rattle.flk_exact.specs.Fraction.{Fraction}
use Rattle.flk_exact.specs.Rounding.{IsBetween}
use Rattle.flk_exact.specs.HalfPeriod.{AreHalfPeriodValues}
use Rattle.flk_exact.specs.Run.{IsAdmittedRun}
use Rattle.flk_exact.proofs.ListLemmas.{AllZip-reverse, AllZip-slice_range, AllZip-from_get_or}
use Rattle.flk_exact.proofs.CutLemmas.{cuts_unique}
use Rattle.flk_num.specs.declared.interval.Interval.{Interval}
use Rattle.flk_num.specs.declared.lamp.Lamp.{Lamp}
use Rattle.flk_num.specs.declared.lamp.Lamp.TheVariants.{L230, L120}
use Rattle.flk_num.specs.declared.rate.Rate.{Rate}
use Rattle.flk_num.specs.declared.rate.Rate.TheVariants.{R2400, R4800}
use Rattle.flk_num.specs.Interval.{Holds, HoldEach, lows, highs}
use Rattle.flk_num.specs.Values.{HoldValues}
use Rattle.flk_num.specs.Lamp.{window_of}
use Rattle.flk_num.specs.Rate.{sampling_interval, adaptor_exponent, smoothing_number}
use Rattle.flk_scale.specs.Voltage.{is_below_zero}
use Rattle.flk_scale.proofs.VoltageLemmas.{voltages_hold}
use Rattle.flk_half.proofs.IntervalsLemmas.{intervals_hold}
use Rattle.flk_change.specs.declared.flag.Flag.{Flag}
use Rattle.flk_change.specs.declared.summary.ChangeSummary.{ChangeSummary}
use Rattle.flk_change.specs.Steady.{AreFlags}
use Rattle.flk_change.specs.Changes.{Quantity, Dc, Dmax, Tmax}
use Rattle.flk_change.specs.Resolutions.{IsSummary, HoldsEachList, interval_of}
use Rattle.flk_change.proofs.ValueLemmas.{held_above, held_below}
use Rattle.flk_change.proofs.EnclosureLemmas.{hull_holds, wide_dc, wide_dmax, wide_t}
use Rattle.flk_front.proofs.RunLemmas.{points_enclose}
use Rattle.flk_design.specs.Lamp.{constants_of}
use Rattle.flk_design.specs.Design.{IsDesign}
use Rattle.flk_section.specs.declared.whole.Whole.{Whole}
use Rattle.flk_section.specs.Answer.{AreAnswers}
use Rattle.flk_section.specs.Filter.{FilterNumbers}
use Rattle.flk_section.specs.Whole.{numbers_of}
use Rattle.flk_section.proofs.CascadeLemmas.{answers_hold_signal}
use Rattle.flk_stat.specs.Severity.{IsSeverity}
use Rattle.flk_stat.proofs.SmoothingLaws.{number_in}
use Rattle.flk_stat.proofs.SmoothingLemmas.{levels_held}
use Rattle.flk_stat.proofs.LevelLemmas.{severity_between}
use Rattle.flk_stat.proofs.LongTermLemmas.{long_term_≤}
use Rattle.flk_result.specs.declared.result.PhaseResult.{PhaseResult}
use Rattle.flk_result.specs.Conditions.{Conditions, half_in, window_in, of_interval}
use Rattle.flk_result.specs.RunQuantities.{AreSmoothedLevels, IsLongTermOfTwelve}
use Rattle.flk_result.specs.PhaseResult.{zero_interval, pst_at, LongTermIsHeld}
use Rattle.flk_result.specs.Digits.{AreSteps, IsSeverityInterval, IsLongTermEnds, IsPhaseResult}
use Rattle.flk_result.specs.Promise.{IsFilterOf, HoldsEveryRun, KeepsPromise}

-- ---- what goes with the lamp and the rate

pub window_some : (lamp : Lamp) → 0 < window_of lamp
window_some L230 = omega arith
window_some L120 = omega arith

pub exponent_high : (rate : Rate) → 16 ≤ adaptor_exponent rate
exponent_high R2400 = omega arith
exponent_high R4800 = omega arith

-- ---- voltages, half-periods and changes

wide_holds : (window : ℕ) (halves : List Interval) (flags : List Flag) (s : ChangeSummary) → 0 < window → IsSummary window halves flags s → 6 < s.doubtful
    → (quantity : Quantity) → HoldsEachList quantity window halves (interval_of quantity s)
wide_holds window halves flags s some is far Dc = wide_dc window halves s.dc s.dmax s.t some (is.wide far)
wide_holds window halves flags s some is far Dmax = wide_dmax window halves s.dc s.dmax s.t some (is.wide far)
wide_holds window halves flags s some is far Tmax = wide_t window halves s.dc s.dmax s.t (is.wide far)

pub summary_holds : (window : ℕ) (halves : List Interval) (flags : List Flag) (s : ChangeSummary) → 0 < window → AreFlags window halves flags → IsSummary window halves flags s
    → (quantity : Quantity) → HoldsEachList quantity window halves (interval_of quantity s)
summary_holds window halves flags s some are is quantity =
    ⊎_elim
    (λ far. wide_holds window halves flags s some is far quantity)
    (λ few. hull_holds quantity window halves flags (interval_of quantity s) some are (is.resolved quantity few))
    (cases_lt 6 s.doubtful)

-- ---- levels and severities

pub levels_hold : (c : Conditions) (w : Whole) (recorded run : List Fraction) (halves : List Interval) (flags : List Flag) (levels : List Interval) (exact : List Fraction) → 0 < c.nominal → IsFilterOf c w
    → AreSteps c recorded halves flags levels → IsAdmittedRun (1000 * c.nominal) c.uncertainty recorded run → AreSmoothedLevels c.lamp c.rate run exact → HoldEach levels exact
levels_hold c w recorded run halves flags levels exact some filter steps admitted are =
    let held = voltages_hold c.nominal c.uncertainty recorded steps.voltages run some steps.are_voltages admitted in
    let points = points_enclose (adaptor_exponent c.rate) (reverse steps.voltages) (reverse run) are.means are.outputs steps.points (exponent_high c.rate)
    (AllZip-reverse Holds steps.voltages run held) are.adapted steps.are_points in
    let answers : AreAnswers (numbers_of w) steps.points steps.answers = subst (λ (f : FilterNumbers). AreAnswers f steps.points steps.answers) (sym filter.numbers) steps.are_answers in
    let design : IsDesign (sampling_interval c.rate) (constants_of c.lamp) (numbers_of w).coefs =
    subst (λ (f : FilterNumbers). IsDesign (sampling_interval c.rate) (constants_of c.lamp) f.coefs) (sym filter.numbers) filter.design in
    let inside = answers_hold_signal w steps.points steps.answers (sampling_interval c.rate) (constants_of c.lamp) are.outputs are.signal answers points design are.weighted in
    let turned = levels_held (smoothing_number c.rate) steps.answers (reverse levels) are.signal (reverse exact) (number_in c.rate).0 steps.are_levels inside are.smoothed in
    let back = AllZip-reverse Holds (reverse levels) (reverse exact) turned in
    subst (λ (vs : List Interval). HoldEach vs exact) (reverse-reverse levels) (subst (λ (us : List Fraction). HoldEach (reverse (reverse levels)) us) (reverse-reverse exact) back)

pub severity_lies : (c : Conditions) (i : ℕ) (levels : List Interval) (exact : List Fraction) (v : Interval) (w : ℤ) → HoldEach levels exact → IsSeverityInterval (of_interval c i levels) v
    → IsSeverity (of_interval c i exact) w → IsBetween v.lo v.hi w
severity_lies c i levels exact v w held is those =
    severity_between (of_interval c i levels) (of_interval c i exact) v.lo v.hi w (AllZip-slice_range Holds (c.run_in + i * c.interval) (c.run_in + (i + 1) * c.interval) levels exact held) is.low is.high those

-- Plt lies between those of the ends where each Pst lies in its interval
long_term_lies : (count : ℕ) (pst : List Interval) (values : List ℤ) (plt : Option Interval) (exact : Option ℤ) → length pst ≡ 12 → length values ≡ count
    → ((i : ℕ) → i < count → IsBetween (get_or pst i zero_interval).lo (get_or pst i zero_interval).hi (get_or values i (pos 0)))
    → IsLongTermEnds count pst plt → IsLongTermOfTwelve count values exact → LongTermIsHeld plt exact
long_term_lies count pst values None None twelve same each ends is = tt
long_term_lies count pst values None (Some w) twelve same each ends is = absurd (omega (arith, ends, is.0))
long_term_lies count pst values (Some v) None twelve same each ends is = absurd (omega (arith, is, ends.0))
long_term_lies count pst values (Some v) (Some w) twelve same each ends is =
    let LiesIn : Interval → ℤ → Type 0 = λ h x. IsBetween h.lo h.hi x in
    let held : HoldValues pst values =
    AllZip-from_get_or LiesIn pst values (omega (arith, twelve, same, is.0))
    (λ i d e low.
    let lies = each i (omega (arith, low, twelve, is.0)) in
    let first = subst (λ (h : Interval). LiesIn h (get_or values i (pos 0))) (get_or_default pst i zero_interval d low) lies in
    subst (LiesIn (get_or pst i d)) (get_or_default values i (pos 0) e (omega (arith, low, twelve, same, is.0))) first)
    in
    record {
      above = long_term_≤ (lows pst) values v.lo w (held_above pst values held) ends.1.low is.1;
      below = long_term_≤ values (highs pst) w v.hi (held_below pst values held) is.1 ends.1.high;
    }

-- ---- the result

every_run_held : (c : Conditions) (w : Whole) (recorded : List Fraction) (r : PhaseResult) → 0 < c.nominal → IsFilterOf c w → IsPhaseResult c recorded r → HoldsEveryRun c recorded r
every_run_held c w recorded r some filter is run q admitted those =
    let steps = is.steps in
    let same : those.cuts ≡ steps.cuts = cuts_unique (half_in c) (map is_below_zero recorded) those.cuts steps.cuts those.are_cuts steps.are_cuts in
    let held = voltages_hold c.nominal c.uncertainty recorded steps.voltages run some steps.are_voltages admitted in
    let values = intervals_hold (half_in c) steps.cuts steps.voltages run is.halves those.values held steps.are_halves
    (subst (λ (cuts : List ℕ). AreHalfPeriodValues (half_in c) cuts run those.values) same those.are_values) in
    let changes = summary_holds (window_in c) is.halves is.flags r.changes (window_some c.lamp) steps.are_flags is.changes_are in
    let levels = levels_hold c w recorded run is.halves is.flags is.levels those.levels some filter steps admitted those.are_levels in
    let severities : (i : ℕ) → i < c.count → IsBetween (pst_at r i).lo (pst_at r i).hi (get_or q.severities i (pos 0)) =
    λ i low. severity_lies c i is.levels those.levels (pst_at r i) (get_or q.severities i (pos 0)) levels (is.severities_are i low) (those.severities_are i low) in
    record {
      dc = changes Dc those.values q.dc values those.dc_is;
      dmax = changes Dmax those.values q.dmax values those.dmax_is;
      tmax = changes Tmax those.values q.tmax values those.tmax_is;
      count = omega (arith, those.count_is, is.count_is);
      severities = λ i low. severities i (omega (arith, low, is.count_is));
      long_term = long_term_lies c.count r.pst q.severities r.plt q.long_term r.twelve those.count_is severities is.long_term_is those.long_term_is;
    }

pub result_keeps : (c : Conditions) (w : Whole) (recorded : List Fraction) (r : PhaseResult) → 0 < c.nominal → IsFilterOf c w → IsPhaseResult c recorded r → KeepsPromise c recorded r
result_keeps c w recorded r some filter is = record { result = is; holds = every_run_held c w recorded r some filter is }
