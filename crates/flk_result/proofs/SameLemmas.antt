-- Recorded voltages have one result.
use Rattle.std.proofs.Common.{◌≡◌, ℕ, ◌<◌, List, length, map, get_or, Option, Some, None, refl, sym, ap, subst, ◌∙◌, arith, ⊎_elim}
use Rattle.std.specs.Prelude.{reverse}
use Rattle.std.proofs.Math.Nat.{ℕ_set}
use Rattle.std.proofs.lemmas.Bool.{cases_lt}
use Rattle.std.proofs.lemmas.List.{reverse-reverse, ext_get_or}
use Rattle.flk_exact.specs.Fraction.{Fraction, units}
use Rattle.flk_exact.proofs.ListLemmas.{AllZip-unique}
use Rattle.flk_exact.proofs.CutLemmas.{cuts_unique}
use Rattle.flk_num.specs.declared.interval.Interval.{Interval}
use Rattle.flk_num.specs.Interval.{lows, highs}
use Rattle.flk_num.specs.Rate.{adaptor_exponent, smoothing_number}
use Rattle.flk_num.proofs.IntervalLemmas.{same_ends}
use Rattle.flk_scale.specs.Voltage.{is_below_zero, IsVoltageInterval}
use Rattle.flk_scale.proofs.VoltageLemmas.{voltage_same}
use Rattle.flk_half.specs.Intervals.{AreHalfPeriodIntervals}
use Rattle.flk_half.proofs.IntervalsLemmas.{intervals_unique}
use Rattle.flk_change.specs.declared.flag.Flag.{Flag}
use Rattle.flk_change.specs.declared.summary.ChangeSummary.{ChangeSummary}
use Rattle.flk_change.specs.Steady.{AreFlags}
use Rattle.flk_change.specs.Resolutions.{IsSummary}
use Rattle.flk_change.proofs.FlagsLemmas.{flags_unique}
use Rattle.flk_change.proofs.SummaryLemmas.{summary_unique}
use Rattle.flk_front.specs.declared.point.Point.{Point}
use Rattle.flk_front.specs.Rounded.{ArePoints}
use Rattle.flk_front.proofs.AdaptorLaws.{ArePoints-unique}
use Rattle.flk_section.specs.Answer.{AreAnswers}
use Rattle.flk_section.proofs.CascadeLemmas.{answers_unique}
use Rattle.flk_stat.specs.Rounded.{AreLevelIntervals}
use Rattle.flk_stat.proofs.SmoothingLaws.{AreLevelIntervals-unique}
use Rattle.flk_stat.proofs.SeverityLemmas.{severity_unique}
use Rattle.flk_stat.proofs.LongTermLemmas.{long_term_unique}
use Rattle.flk_result.specs.declared.result.PhaseResult.{PhaseResult}
use Rattle.flk_result.specs.Conditions.{Conditions, half_in, window_in, of_interval}
use Rattle.flk_result.specs.PhaseResult.{zero_interval, pst_at}
use Rattle.flk_result.specs.Digits.{AreSteps, IsSeverityInterval, IsLongTermEnds, IsPhaseResult}

-- ---- the steps

record AreSame (halves ks : List Interval) (flags gs : List Flag) (levels ms : List Interval) : Type 0 where
  halves_same : halves ≡ ks
  flags_same : flags ≡ gs
  levels_same : levels ≡ ms

reverse_same : {A : Type 0} (xs ys : List A) → reverse xs ≡ reverse ys → xs ≡ ys
reverse_same xs ys h = sym (reverse-reverse xs) ∙ ap reverse h ∙ reverse-reverse ys

steps_unique : (c : Conditions) (recorded : List Fraction) (halves ks : List Interval) (flags gs : List Flag) (levels ms : List Interval) → AreSteps c recorded halves flags levels
    → AreSteps c recorded ks gs ms → AreSame halves ks flags gs levels ms
steps_unique c recorded halves ks flags gs levels ms a b =
    let voltages : b.voltages ≡ a.voltages =
    AllZip-unique (IsVoltageInterval c.nominal c.uncertainty)
    (λ r v w i j. let same = voltage_same c.nominal c.uncertainty r v w i j in same_ends v w same.0 same.1) recorded b.voltages a.voltages b.are_voltages a.are_voltages in
    let cuts : b.cuts ≡ a.cuts = cuts_unique (half_in c) (map is_below_zero recorded) b.cuts a.cuts b.are_cuts a.are_cuts in
    let there : AreHalfPeriodIntervals (half_in c) a.cuts a.voltages ks =
    subst (λ (ps : List ℕ). AreHalfPeriodIntervals (half_in c) ps a.voltages ks) cuts
    (subst (λ (vs : List Interval). AreHalfPeriodIntervals (half_in c) b.cuts vs ks) voltages b.are_halves) in
    let same_halves : ks ≡ halves = intervals_unique (half_in c) a.cuts a.voltages ks halves there a.are_halves in
    let points : b.points ≡ a.points =
    ArePoints-unique (adaptor_exponent c.rate) (reverse a.voltages) b.points a.points
    (subst (λ (vs : List Interval). ArePoints (adaptor_exponent c.rate) (reverse vs) b.points) voltages b.are_points) a.are_points in
    let answers : b.answers ≡ a.answers =
    answers_unique c.filter a.points b.answers a.answers (subst (λ (ps : List Point). AreAnswers c.filter ps b.answers) points b.are_answers) a.are_answers in
    let turned : reverse levels ≡ reverse ms =
    AreLevelIntervals-unique (smoothing_number c.rate) a.answers (reverse levels) (reverse ms) a.are_levels
    (subst (λ (qs : List Point). AreLevelIntervals (smoothing_number c.rate) qs (reverse ms)) answers b.are_levels) in
    record {
      halves_same = sym same_halves;
      flags_same = flags_unique (window_in c) halves flags gs a.are_flags (subst (λ (hs : List Interval). AreFlags (window_in c) hs gs) same_halves b.are_flags);
      levels_same = reverse_same levels ms turned;
    }

-- ---- severities

severity_same : (levels : List Interval) (v w : Interval) → IsSeverityInterval levels v → IsSeverityInterval levels w → v ≡ w
severity_same levels v w a b =
    same_ends v w (severity_unique (map units (lows levels)) v.lo w.lo a.low b.low) (severity_unique (map units (highs levels)) v.hi w.hi a.high b.high)

long_term_same : (count : ℕ) (severities : List Interval) (p q : Option Interval) → IsLongTermEnds count severities p → IsLongTermEnds count severities q → p ≡ q
long_term_same count severities None None a b = refl
long_term_same count severities None (Some w) a b = absurd (omega (arith, a, b.0))
long_term_same count severities (Some v) None a b = absurd (omega (arith, b, a.0))
long_term_same count severities (Some v) (Some w) a b =
    ap Some (same_ends v w (long_term_unique (lows severities) v.lo w.lo a.1.low b.1.low) (long_term_unique (highs severities) v.hi w.hi a.1.high b.1.high))

-- ---- the result

abbrev made : ℕ → ChangeSummary → (pst : List Interval) → length pst ≡ 12 → ℕ → Option Interval → PhaseResult
made halves changes pst twelve count plt = record { halves = halves; changes = changes; pst = pst; count = count; plt = plt; twelve = twelve }

pst_same : (halves : ℕ) (changes : ChangeSummary) (p q : List Interval) (a : length p ≡ 12) (b : length q ≡ 12) (count : ℕ) (plt : Option Interval) → p ≡ q
    → made halves changes p a count plt ≡ made halves changes q b count plt
pst_same halves changes p q a b count plt same =
    let here : (t : length p ≡ 12) → made halves changes p a count plt ≡ made halves changes p t count plt =
    λ t. ap (λ (u : length p ≡ 12). made halves changes p u count plt) (ℕ_set (length p) 12 a t) in
    subst (λ (z : List Interval). (t : length z ≡ 12) → made halves changes p a count plt ≡ made halves changes z t count plt) same here b

result_same : (r s : PhaseResult) → r.halves ≡ s.halves → r.changes ≡ s.changes → r.pst ≡ s.pst → r.count ≡ s.count → r.plt ≡ s.plt → r ≡ s
result_same r s halves changes pst count plt =
    ap (λ (n : ℕ). made n r.changes r.pst r.twelve r.count r.plt) halves
    ∙ ap (λ (t : ChangeSummary). made s.halves t r.pst r.twelve r.count r.plt) changes
    ∙ ap (λ (n : ℕ). made s.halves s.changes r.pst r.twelve n r.plt) count
    ∙ ap (λ (v : Option Interval). made s.halves s.changes r.pst r.twelve s.count v) plt
    ∙ pst_same s.halves s.changes r.pst s.pst r.twelve s.twelve s.count s.plt pst

pub result_unique : (c : Conditions) (recorded : List Fraction) (r s : PhaseResult) → IsPhaseResult c recorded r → IsPhaseResult c recorded s → r ≡ s
result_unique c recorded r s a b =
    let same = steps_unique c recorded a.halves b.halves a.flags b.flags a.levels b.levels a.steps b.steps in
    let summary : IsSummary (window_in c) a.halves a.flags s.changes =
    subst (λ (fs : List Flag). IsSummary (window_in c) a.halves fs s.changes) (sym same.flags_same)
    (subst (λ (hs : List Interval). IsSummary (window_in c) hs b.flags s.changes) (sym same.halves_same) b.changes_are) in
    let each : (i : ℕ) → i < length r.pst → get_or r.pst i zero_interval ≡ get_or s.pst i zero_interval =
    λ i low.
    ⊎_elim
    (λ judged.
    severity_same (of_interval c i a.levels) (pst_at r i) (pst_at s i) (a.severities_are i judged)
    (subst (λ (vs : List Interval). IsSeverityInterval (of_interval c i vs) (pst_at s i)) (sym same.levels_same) (b.severities_are i judged)))
    (λ after.
    let within : i < 12 = omega (arith, low, r.twelve) in
    a.none_after i after within ∙ sym (b.none_after i after within))
    (cases_lt i c.count)
    in
    let pst : r.pst ≡ s.pst = ext_get_or zero_interval r.pst s.pst (r.twelve ∙ sym s.twelve) each in
    result_same r s
    (a.halves_is ∙ ap (λ (hs : List Interval). length hs) same.halves_same ∙ sym b.halves_is)
    (summary_unique (window_in c) a.halves a.flags r.changes s.changes a.changes_are summary)
    pst
    (a.count_is ∙ sym b.count_is)
    (long_term_same c.count r.pst r.plt s.plt a.long_term_is (subst (λ (vs : List Interval). IsLongTermEnds c.count vs s.plt) (sym pst) b.long_term_is))
