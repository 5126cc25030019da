-- The intervals of a result are no wider than stated.
use Rattle.std.proofs.Common.{◌≡◌, ℕ, ◌+◌, ◌-◌, ◌*◌, ◌^◌, ◌<◌, ◌≤◌, List, [], ◌∷◌, length, map, drop, ℤ, pos, ◌+ℤ◌, ◌-ℤ◌, ◌≤ℤ◌, Some, sym, subst, arith, length-drop}
use Rattle.std.specs.Prelude.{reverse}
use Rattle.std.specs.List.{All, AllZip}
use Rattle.std.proofs.lemmas.Int.{ints, by_lt_z}
use Rattle.std.proofs.lemmas.List.{reverse-reverse, length-map, length-reverse, length-take, get_or_default}
use Rattle.std.proofs.lemmas.List.Elements.{All-nil, All-cons, All-head, All-tail, All-take, All-drop, All-map}
use Rattle.flk_exact.specs.Fraction.{Fraction, ◌≤ℚ◌, ◌+ℚ◌, ◌-ℚ◌, size, whole, units}
use Rattle.flk_exact.specs.HalfPeriod.{AreHalfPeriodValues, half_period_width}
use Rattle.flk_exact.proofs.WholeLemmas.{scale_≤, ≤ℤ_trans}
use Rattle.flk_exact.proofs.FractionLemmas.{≤ℚ-trans}
use Rattle.flk_exact.proofs.ListLemmas.{AllZip-joined, AllZip-reverse, All-reverse, All-beside}
use Rattle.flk_exact.proofs.CutLemmas.{cuts_unique}
use Rattle.flk_exact.proofs.RunLemmas.{CoversDoubt-natural}
use Rattle.flk_num.specs.declared.interval.Interval.{Interval}
use Rattle.flk_num.specs.Interval.{IsNarrow, IsNear, lows, highs}
use Rattle.flk_num.specs.Rate.{adaptor_exponent, smoothing_number}
use Rattle.flk_num.specs.Values.{IsNoWider}
use Rattle.flk_num.specs.declared.rate.Rate.{Rate}
use Rattle.flk_num.specs.declared.rate.Rate.TheVariants.{R2400, R4800}
use Rattle.flk_scale.specs.Voltage.{is_below_zero, IsVoltageInterval, IsRelative}
use Rattle.flk_scale.proofs.VoltageLemmas.{voltage_narrow, voltage_near, doubt_least, voltages_hold}
use Rattle.flk_half.specs.Intervals.{IsNarrowHalfPeriod}
use Rattle.flk_half.proofs.IntervalsLemmas.{intervals_hold, intervals_narrow}
use Rattle.flk_change.specs.declared.flag.Flag.{Flag}
use Rattle.flk_change.specs.Changes.{Dc, Dmax}
use Rattle.flk_change.specs.Resolutions.{doubtful_count}
use Rattle.flk_change.proofs.WidthLemmas.{ends_narrow, dc_keeps_width, dmax_keeps_width, t_keeps_count, swings_keep_width, near_limit}
use Rattle.flk_front.specs.declared.point.Point.{Point}
use Rattle.flk_front.specs.Adaptor.{IsAdapted}
use Rattle.flk_front.specs.Width.{AreClose}
use Rattle.flk_design.specs.Nearest.{◌<ℚ◌}
use Rattle.flk_section.specs.declared.whole.Whole.{Whole}
use Rattle.flk_section.specs.Points.{greatest_radius}
use Rattle.flk_section.specs.Filter.{FilterNumbers, last_radius}
use Rattle.flk_section.specs.Radius.{units_above}
use Rattle.flk_section.specs.Answer.{AreAnswers}
use Rattle.flk_section.specs.Whole.{numbers_of}
use Rattle.flk_section.proofs.RadiusLemmas.{last_radius_natural, greatest_natural}
use Rattle.flk_section.proofs.WidthLemmas.{answers_narrow_by_adaptor}
use Rattle.flk_stat.specs.Rounded.{AreLevelIntervals}
use Rattle.flk_stat.specs.Severity.{shares, ArePercentiles, IsSeverityOfEnds}
use Rattle.flk_stat.specs.Width.{BoundsRadius, IsSpread}
use Rattle.flk_stat.proofs.SmoothingLaws.{number_in}
use Rattle.flk_stat.proofs.WidthLemmas.{levels_spread}
use Rattle.flk_stat.proofs.SeverityWidth.{severity_narrow}
use Rattle.flk_stat.proofs.LongTermLemmas.{long_term_no_wider}
use Rattle.flk_result.specs.declared.result.PhaseResult.{PhaseResult}
use Rattle.flk_result.specs.Conditions.{Conditions, half_in, window_in, of_interval}
use Rattle.flk_result.specs.PhaseResult.{zero_interval, pst_at}
use Rattle.flk_result.specs.Digits.{AreSteps, IsLongTermEnds, IsPhaseResult}
use Rattle.flk_result.specs.Promise.{IsFilterOf}
use Rattle.flk_result.specs.Widths.{IsOwnRun, CoversSignal, KeepsSeverityWidths, KeepsLongTermWidth, CoversHalfPeriods, KeepsChangeWidths, KeepsSettledWidths, KeepsWidths}
use Rattle.flk_result.proofs.LengthLemmas.{intervals_length}
use Rattle.flk_result.proofs.HoldLemmas.{window_some, exponent_high}
use Rattle.flk_num.proofs.RateLemmas.{half_some}
use Rattle.flk_result.proofs.SettledLemmas.{settled_hull}

exponent_low : (rate : Rate) → adaptor_exponent rate ≤ 17
exponent_low R2400 = omega arith
exponent_low R4800 = omega arith

-- ---- half-periods and changes

no_wider : (delta : Fraction) (width : ℕ) (h : Interval) → half_period_width delta <ℚ whole (pos (width + 1)) → IsNarrowHalfPeriod delta h → IsNoWider width h
no_wider delta width h below narrow =
    let d = (half_period_width delta).den in
    by_lt_z (h.hi -ℤ h.lo) (pos (width + 1))
    (λ less. record { within = omega (arith, ints, less) })
    (λ more. absurd (omega (arith, ints, below.cross, narrow.cross, scale_≤ (pos (width + 1)) (h.hi -ℤ h.lo) d more)))

half_periods_narrow : (c : Conditions) (recorded : List Fraction) (halves : List Interval) (flags : List Flag) (levels : List Interval) → 0 < c.nominal → AreSteps c recorded halves flags levels
    → (width : ℕ) → CoversHalfPeriods c width → All (IsNoWider width) halves
half_periods_narrow c recorded halves flags levels some steps width covers =
    let delta = covers.delta in
    let positive : 0 < 1000 * c.nominal = omega (arith, some) in
    let narrow : (r : Fraction) (v : Interval) → IsVoltageInterval c.nominal c.uncertainty r v → IsNarrow delta v =
    λ r v is. voltage_narrow c.nominal c.uncertainty r v delta some is covers.doubt in
    let voltages : All (IsNarrow delta) steps.voltages =
    All-beside (λ (r : Fraction). Unit {0}) (IsVoltageInterval c.nominal c.uncertainty) (IsNarrow delta) (λ r v _ is. narrow r v is) recorded steps.voltages (λ k d low. tt) steps.are_voltages in
    let each = intervals_narrow (half_in c) (map is_below_zero recorded) steps.cuts steps.voltages halves delta (half_some c.lamp c.rate) steps.are_cuts
    (CoversDoubt-natural (1000 * c.nominal) c.uncertainty delta positive covers.doubt) voltages steps.are_halves in
    λ k d low. no_wider delta width _ covers.covers (each k d low)

changes_narrow : (c : Conditions) (recorded : List Fraction) (halves : List Interval) (flags : List Flag) (levels : List Interval) → 0 < c.nominal → AreSteps c recorded halves flags levels
    → KeepsChangeWidths c recorded halves flags
changes_narrow c recorded halves flags levels some steps =
    let window = window_in c in
    let positive = window_some c.lamp in
    record {
      half_periods = half_periods_narrow c recorded halves flags levels some steps;
      dc = dc_keeps_width window halves flags positive steps.are_flags;
      dmax = dmax_keeps_width window halves flags positive steps.are_flags;
      tmax = t_keeps_count window halves flags;
      swings = swings_keep_width window halves flags positive steps.are_flags;
      values = λ run cuts exact admitted are those.
          let same : cuts ≡ steps.cuts = cuts_unique (half_in c) (map is_below_zero recorded) cuts steps.cuts are steps.are_cuts in
          intervals_hold (half_in c) steps.cuts steps.voltages run halves exact
          (voltages_hold c.nominal c.uncertainty recorded steps.voltages run some steps.are_voltages admitted) steps.are_halves
          (subst (λ (ps : List ℕ). AreHalfPeriodValues (half_in c) ps run exact) same those);
      doubtful = near_limit window halves flags steps.are_flags;
    }

settled_narrow : (c : Conditions) (recorded : List Fraction) (r : PhaseResult) → 0 < c.nominal → IsPhaseResult c recorded r → KeepsSettledWidths c r
settled_narrow c recorded r some is width covers none =
    let window = window_in c in
    let positive = window_some c.lamp in
    let few : r.changes.doubtful ≤ 6 = omega (arith, none) in
    let settled : doubtful_count is.flags ≡ 0 = omega (arith, none, is.changes_are.doubtful) in
    let narrow = half_periods_narrow c recorded is.halves is.flags is.levels some is.steps width covers in (
      settled_hull Dc window is.halves is.flags r.changes.dc width settled (dc_keeps_width window is.halves is.flags positive is.steps.are_flags) narrow (is.changes_are.resolved Dc few),
      settled_hull Dmax window is.halves is.flags r.changes.dmax width settled (dmax_keeps_width window is.halves is.flags positive is.steps.are_flags) narrow (is.changes_are.resolved Dmax few),
    )

-- ---- levels

answers_natural : (w : Whole) (ps qs : List Point) → AreAnswers (numbers_of w) ps qs → All (λ q. pos 0 ≤ℤ q.radius) qs
answers_natural w [] [] h = All-nil (λ (q : Point). pos 0 ≤ℤ q.radius)
answers_natural w [] (q ∷ qs) h = absurd h
answers_natural w (p ∷ ps) [] h = absurd h
answers_natural w (p ∷ ps) (q ∷ qs) h =
    let first : pos 0 ≤ℤ q.radius = subst (λ (z : ℤ). pos 0 ≤ℤ z) (sym h.0.radius) (last_radius_natural w (greatest_radius (p ∷ ps)) (greatest_natural (p ∷ ps))) in
    All-cons (λ (z : Point). pos 0 ≤ℤ z.radius) q qs first (answers_natural w ps qs h.1)

sums_rise : (a b c d : ℤ) → a ≤ℤ b → c ≤ℤ d → (units a +ℚ units c) ≤ℚ (units b +ℚ units d)
sums_rise a b c d h k = record { cross = omega (arith, ints, h, k) }

room_taken : (b : ℤ) → pos 0 ≤ℤ b → units (pos (2 ^ 24)) ≤ℚ (units b +ℚ units (pos (2 ^ 24)))
room_taken b h = record { cross = omega (arith, ints, h) }

lows_natural : (c : ℕ) (ws : List Point) (vs : List Interval) → AreLevelIntervals c ws vs → All (λ v. pos 0 ≤ℤ v.lo) vs
lows_natural c [] [] h = All-nil (λ (v : Interval). pos 0 ≤ℤ v.lo)
lows_natural c [] (v ∷ vs) h = absurd h
lows_natural c (w ∷ ws) [] h = absurd h
lows_natural c (w ∷ ws) (v ∷ vs) h = All-cons (λ (z : Interval). pos 0 ≤ℤ z.lo) v vs (omega (arith, ints, h.0.lo)) (lows_natural c ws vs h.1)

-- the levels of a result keep the form of the width, and are not below 0
record AreNarrowLevels (signal : Fraction) (levels : List Interval) : Type 0 where
  least : units (pos (2 ^ 24)) ≤ℚ signal
  spread : All (IsSpread signal) levels
  natural : All (λ v. pos 0 ≤ℤ v.lo) levels

levels_narrow : (c : Conditions) (w : Whole) (recorded : List Fraction) (halves : List Interval) (flags : List Flag) (levels : List Interval) (own means outputs : List Fraction) (delta a b output signal : Fraction)
    → 0 < c.nominal → 0 < length levels → IsFilterOf c w → AreSteps c recorded halves flags levels → IsOwnRun c recorded own → IsAdapted (adaptor_exponent c.rate) (reverse own) means outputs
    → CoversSignal c own means delta a b output signal → AreNarrowLevels signal levels
levels_narrow c w recorded halves flags levels own means outputs delta a b output signal some more filter steps is adapted covers =
    let e = adaptor_exponent c.rate in
    let smoothing = smoothing_number c.rate in
    let Near : Interval → Fraction → Type 0 = IsNear (delta -ℚ units (pos 1)) in
    let near : AllZip Near steps.voltages own =
    AllZip-joined (IsVoltageInterval c.nominal c.uncertainty) (IsRelative c.nominal) Near
    (λ r v u i j. voltage_near c.nominal c.uncertainty r v u delta some i j covers.doubt) recorded steps.voltages own steps.are_voltages is in
    let close : AreClose delta a b (reverse steps.voltages) (reverse own) means = record {
      delta_low = doubt_least c.nominal c.uncertainty delta some covers.doubt;
      delta_high = covers.doubt_high;
      near = AllZip-reverse Near steps.voltages own near;
      sizes = All-reverse (λ (u : Fraction). size u ≤ℚ a) own covers.sizes;
      a_high = covers.sizes_high;
      r_low = covers.divisors_low;
      divisors = covers.divisors;
    } in
    let answers : AreAnswers (numbers_of w) steps.points steps.answers = subst (λ (f : FilterNumbers). AreAnswers f steps.points steps.answers) (sym filter.numbers) steps.are_answers in
    let most = last_radius (numbers_of w) (units_above output) in
    let small = answers_narrow_by_adaptor e (reverse steps.voltages) (reverse own) means outputs w steps.points steps.answers delta a b output (exponent_high c.rate) (exponent_low c.rate)
    adapted close covers.outputs steps.are_points answers in
    let natural = answers_natural w steps.points steps.answers answers in
    let fits : (units most +ℚ units (pos (2 ^ 24))) ≤ℚ signal =
    subst (λ (f : FilterNumbers). (units (last_radius f (units_above output)) +ℚ units (pos (2 ^ 24))) ≤ℚ signal) (sym filter.numbers) covers.signals in
    let bounds : All (BoundsRadius signal) steps.answers =
    λ k d low. record {
      natural = natural k d low;
      within = ≤ℚ-trans _ _ _ (sums_rise _ most (pos (2 ^ 23)) (pos (2 ^ 24)) (small k d low) (omega (arith, ints))) fits;
    } in
    let answered : length steps.answers ≡ length (reverse levels) = sym (intervals_length smoothing steps.answers (reverse levels) steps.are_levels) in
    let there : 0 < length steps.answers = omega (arith, more, answered, length-reverse levels) in
    let none : Point = record { mid = pos 0; radius = pos 0 } in
    let most_natural : pos 0 ≤ℤ most = ≤ℤ_trans (natural 0 none there) (small 0 none there) in
    let least = ≤ℚ-trans _ _ _ (room_taken most most_natural) fits in
    let spread = levels_spread smoothing steps.answers (reverse levels) signal (number_in c.rate).0 (number_in c.rate).1 steps.are_levels least bounds in
    let lows = lows_natural smoothing steps.answers (reverse levels) steps.are_levels in
    record {
      least = least;
      spread = subst (All (IsSpread signal)) (reverse-reverse levels) (All-reverse (IsSpread signal) (reverse levels) spread);
      natural = subst (All (λ (v : Interval). pos 0 ≤ℤ v.lo)) (reverse-reverse levels) (All-reverse (λ (v : Interval). pos 0 ≤ℤ v.lo) (reverse levels) lows);
    }

-- ---- severities

some_ranked : (levels vs : List Fraction) → ArePercentiles shares levels vs → 0 < length levels
some_ranked levels [] h = absurd h
some_ranked levels (v ∷ vs) h = omega (arith, h.0.member.1)

-- there are levels where there is a severity of some of them
levels_some : (c : Conditions) (i : ℕ) (levels : List Interval) (w : ℤ) → IsSeverityOfEnds (lows (of_interval c i levels)) w → 0 < length levels
levels_some c i levels w h =
    let part = of_interval c i levels in
    let s = c.run_in + i * c.interval in
    let ranked = some_ranked (map units (lows part)) h.percentiles h.are_percentiles in
    omega (arith, ranked, length-map (lows part) units, length-map part (λ v. v.lo), length-take (c.run_in + (i + 1) * c.interval - s) (drop s levels), length-drop s levels)

severities_narrow : (c : Conditions) (w : Whole) (recorded : List Fraction) (r : PhaseResult) → 0 < c.nominal → IsFilterOf c w → IsPhaseResult c recorded r → KeepsSeverityWidths c recorded r
severities_narrow c w recorded r some filter is own means outputs delta a b output signal i run adapted covers judged =
    let severity = is.severities_are i judged in
    let more = levels_some c i is.levels (pst_at r i).lo severity.low in
    let narrow = levels_narrow c w recorded is.halves is.flags is.levels own means outputs delta a b output signal some more filter is.steps run adapted covers in
    let s = c.run_in + i * c.interval in
    let n = c.run_in + (i + 1) * c.interval - s in
    let spread = All-take (IsSpread signal) n (drop s is.levels) (All-drop (IsSpread signal) s is.levels narrow.spread) in
    let Low : Interval → Type 0 = λ v. pos 0 ≤ℤ v.lo in
    let natural = All-take Low n (drop s is.levels) (All-drop Low s is.levels narrow.natural) in
    severity_narrow (of_interval c i is.levels) signal (pst_at r i).lo (pst_at r i).hi narrow.least (All-map (λ z. pos 0 ≤ℤ z) (λ v. v.lo) (of_interval c i is.levels) natural) spread severity.low severity.high

-- ---- the long-term severity

long_term_narrow : (c : Conditions) (recorded : List Fraction) (r : PhaseResult) → IsPhaseResult c recorded r → KeepsLongTermWidth r
long_term_narrow c recorded r is width v there narrow =
    let ends : IsLongTermEnds c.count r.pst (Some v) = subst (IsLongTermEnds c.count r.pst) there is.long_term_is in
    let natural : All (λ (h : Interval). pos 0 ≤ℤ h.lo) r.pst =
    λ k d low.
    let judged : k < c.count = omega (arith, low, r.twelve, ends.0) in
    subst (λ (h : Interval). pos 0 ≤ℤ h.lo) (get_or_default r.pst k zero_interval d low) (is.severities_are k judged).low.is_least.natural
    in
    let each : All (IsNoWider width) r.pst =
    λ k d low. subst (IsNoWider width) (get_or_default r.pst k zero_interval d low) (narrow k (omega (arith, low, r.twelve))) in
    record {
      within =
          long_term_no_wider width (lows r.pst) (highs r.pst) v.lo v.hi (omega (arith, r.twelve, length-map r.pst (λ h. h.lo)))
          (All-map (λ z. pos 0 ≤ℤ z) (λ h. h.lo) r.pst natural) (ends_narrow width r.pst each) ends.1.low ends.1.high;
    }

-- ---- the result

pub widths_kept : (c : Conditions) (w : Whole) (recorded : List Fraction) (r : PhaseResult) → 0 < c.nominal → IsFilterOf c w → IsPhaseResult c recorded r → KeepsWidths c recorded r
widths_kept c w recorded r some filter is = record {
  result = is;
  changes = changes_narrow c recorded is.halves is.flags is.levels some is.steps;
  settled = settled_narrow c recorded r some is;
  severities = severities_narrow c w recorded r some filter is;
  long_term = long_term_narrow c recorded r is;
}
