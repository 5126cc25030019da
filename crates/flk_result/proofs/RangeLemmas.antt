-- The values of a result are from 0 to 10^12.
use Rattle.std.proofs.Common.{◌↔◌, ◌≡◌, ℕ, ◌*◌, ◌^◌, ◌<◌, ◌≤◌, List, [], ◌∷◌, ◌++◌, length, map, get_or, ℤ, pos, ◌-ℤ◌, ◌≤ℤ◌, Option, Some, None, inl, inr, refl, sym, subst, ◌∙◌, arith, ⊎_elim}
use Rattle.std.specs.List.{All, AllZip}
use Rattle.std.proofs.lemmas.Bool.{cases_lt}
use Rattle.std.proofs.lemmas.Int.{ints, clamps}
use Rattle.std.proofs.lemmas.List.{length-map, get_or_default}
use Rattle.std.proofs.lemmas.List.Elements.{All-cons, All-head, All-tail, All-map, All-append, All-contains}
use Rattle.flk_exact.specs.Fraction.{Fraction, whole}
use Rattle.flk_exact.specs.Rounding.{IsBetween}
use Rattle.flk_exact.proofs.ListLemmas.{All-beside}
use Rattle.flk_num.specs.declared.interval.Interval.{Interval}
use Rattle.flk_num.specs.Interval.{lows, highs}
use Rattle.flk_num.specs.Values.{IsHalfPeriodRange}
use Rattle.flk_num.proofs.RateLemmas.{half_some}
use Rattle.flk_scale.specs.Voltage.{is_below_zero, IsOverRange, IsVoltageInterval}
use Rattle.flk_scale.specs.Range.{IsWithinRange}
use Rattle.flk_scale.proofs.VoltageLemmas.{voltage_ends}
use Rattle.flk_half.specs.Intervals.{IsWithinFive}
use Rattle.flk_half.proofs.IntervalsLemmas.{intervals_in_range}
use Rattle.flk_change.specs.declared.flag.Flag.{Flag}
use Rattle.flk_change.specs.declared.summary.ChangeSummary.{ChangeSummary}
use Rattle.flk_change.specs.Steady.{AreFlags}
use Rattle.flk_change.specs.Changes.{Change, between, after, whole as unsettled, IsChange, first, stop, level, before, distance, IsStep, Quantity, Dc, Dmax, Tmax, Gives}
use Rattle.flk_change.specs.Resolutions.{IsTaken, greatest_distance, greatest_readings, IsHull, AreWide, IsSummary, interval_of}
use Rattle.flk_change.proofs.GreatestLemmas.{greatest_at_most}
use Rattle.flk_change.proofs.LevelLemmas.{level-above, level-below}
use Rattle.flk_change.proofs.QuantityLemmas.{stop_within}
use Rattle.flk_change.proofs.SwingLemmas.{excesses_few}
use Rattle.flk_change.proofs.WidthLemmas.{taken_window}
use Rattle.flk_change.proofs.SumLemmas.{lows-natural}
use Rattle.flk_stat.specs.Severity.{cap}
use Rattle.flk_stat.specs.LongTerm.{sum_of_cubes}
use Rattle.flk_stat.proofs.LongTermLemmas.{powers, long_term_high}
use Rattle.flk_result.specs.declared.result.PhaseResult.{PhaseResult}
use Rattle.flk_result.specs.Conditions.{Conditions, half_in, window_in, of_interval, AreSensible}
use Rattle.flk_result.specs.PhaseResult.{zero_interval, pst_at, IsJudgeable, IsProper}
use Rattle.flk_result.specs.Digits.{AreSteps, IsSeverityInterval, IsLongTermInterval, IsLongTermEnds, IsPhaseResult}
use Rattle.flk_result.proofs.HoldLemmas.{window_some}

-- ---- half-periods

voltages_small : (c : Conditions) (recorded : List Fraction) (voltages : List Interval) → 0 < c.nominal → c.uncertainty ≤ 10 * c.nominal → IsWithinRange c.nominal recorded
    → AllZip (IsVoltageInterval c.nominal c.uncertainty) recorded voltages → All IsWithinFive voltages
voltages_small c recorded voltages some few within are =
    let Kept : Fraction → Type 0 = λ r. ¬ IsOverRange c.nominal r in
    let kept : All Kept recorded = λ k d low. subst Kept (get_or_default recorded k (whole (pos 0)) d low) (within k low) in
    All-beside Kept (IsVoltageInterval c.nominal c.uncertainty) IsWithinFive
    (λ r v inside is.
    let ends = voltage_ends c.nominal c.uncertainty r v some few inside is in
    record { low = omega (arith, ends.0); high = omega (arith, ends.1) })
    recorded voltages kept are

pub halves_in_range : (c : Conditions) (recorded : List Fraction) (halves : List Interval) (flags : List Flag) (levels : List Interval) → 0 < c.nominal → c.uncertainty ≤ 10 * c.nominal
    → IsWithinRange c.nominal recorded → AreSteps c recorded halves flags levels → All IsHalfPeriodRange halves
halves_in_range c recorded halves flags levels some few within steps =
    intervals_in_range (half_in c) (map is_below_zero recorded) steps.cuts steps.voltages halves (half_some c.lamp c.rate) steps.are_cuts
    (voltages_small c recorded steps.voltages some few within steps.are_voltages) steps.are_halves

-- ---- changes

-- ten times nominal, in billionths
abbrev ten : ℤ
ten = pos 10000000000

highs_in : (halves : List Interval) → All IsHalfPeriodRange halves → All (λ z. z ≤ℤ ten) (highs halves)
highs_in halves h = All-map (λ z. z ≤ℤ ten) (λ v. v.hi) halves (λ k d low. (h k d low).high)

level_low : (window : ℕ) (halves : List Interval) (j : ℕ) → 0 < window → All IsHalfPeriodRange halves → (window ≤ j) × (j ≤ length halves) → pos 0 ≤ℤ level window (lows halves) j
level_low window halves j some h fits = level-above (pos 0) window (lows halves) j some fits.0 (omega (arith, fits.1, length-map halves (λ (v : Interval). v.lo))) (lows-natural halves h)

level_high : (window : ℕ) (halves : List Interval) (j : ℕ) → 0 < window → All IsHalfPeriodRange halves → (window ≤ j) × (j ≤ length halves) → level window (highs halves) j ≤ℤ ten
level_high window halves j some h fits = level-below ten window (highs halves) j some fits.0 (omega (arith, fits.1, length-map halves (λ (v : Interval). v.hi))) (highs_in halves h)

apart : (p ph q qh : ℤ) → pos 0 ≤ℤ p → ph ≤ℤ ten → pos 0 ≤ℤ q → qh ≤ℤ ten → greatest_distance p ph q qh ≤ℤ ten
apart p ph q qh a b c d = omega (arith, ints, clamps)

-- the greatest value of a quantity of n half-periods
abbrev greatest_in : ℕ → Quantity → ℤ
greatest_in n Dc = ten
greatest_in n Dmax = ten
greatest_in n Tmax = pos n

greatest_natural : (n : ℕ) (q : Quantity) → pos 0 ≤ℤ greatest_in n q
greatest_natural n Dc = omega (arith, ints)
greatest_natural n Dmax = omega (arith, ints)
greatest_natural n Tmax = omega (arith, ints)

-- the changes of windows that are whole, over half-periods in the range
module _ (window : ℕ) (halves : List Interval) (steady : ℕ → Type 0) (some : 0 < window) (h : All IsHalfPeriodRange halves) (fits : (j : ℕ) → steady j → (window ≤ j) × (j ≤ length halves)) where
  step_small : (c : Change) (x : ℤ) → IsChange steady (length halves) c → IsStep (greatest_readings window halves) c x → x ≤ℤ ten
  step_small (between j k) x is e =
      let j_fits = fits j is.0 in
      let k_fits = fits k is.1 in
      omega (arith, ints, e, apart _ _ _ _ (level_low window halves k some h k_fits) (level_high window halves k some h k_fits) (level_low window halves j some h j_fits) (level_high window halves j some h j_fits))
  step_small (after j) x is e = absurd e
  step_small unsettled x is e = absurd e

  before_small : (c : Change) → IsChange steady (length halves) c → (pos 0 ≤ℤ before window (lows halves) c) × (before window (highs halves) c ≤ℤ ten)
  before_small (between j k) is = (level_low window halves j some h (fits j is.0), level_high window halves j some h (fits j is.0))
  before_small (after j) is = (level_low window halves j some h (fits j is.0), level_high window halves j some h (fits j is.0))
  before_small unsettled is = (omega (arith, ints), omega (arith, ints))

  swing_small : (c : Change) (i : ℕ) → IsChange steady (length halves) c → i < length halves → (greatest_readings window halves).swing c i ≤ℤ ten
  swing_small c i is low =
      let b = before_small c is in
      apart _ _ _ _
      (lows-natural halves h i (pos 0) (omega (arith, low, length-map halves (λ (v : Interval). v.lo)))) (highs_in halves h i (pos 0) (omega (arith, low, length-map halves (λ (v : Interval). v.hi)))) b.0 b.1

  gives_small : (q : Quantity) (c : Change) (x : ℤ) → IsChange steady (length halves) c → Gives q window (length halves) (greatest_readings window halves) c x → x ≤ℤ greatest_in (length halves) q
  gives_small Dc c x is e = step_small c x is e
  gives_small Dmax c x is e = elim e [
    | inl step ↦ step_small c x is step
    | inr (i, from, to, same) ↦ omega (arith, ints, same, swing_small c i is (omega (arith, to, stop_within steady window (length halves) c is)))
  ]
  gives_small Tmax c x is e =
      omega (arith, ints, e, excesses_few ((greatest_readings window halves).swing c) (first c) (stop window (length halves) c), stop_within steady window (length halves) c is)

distance_small : (z : ℤ) → pos 0 ≤ℤ z → z ≤ℤ ten → distance z (pos 1000000000) ≤ℤ ten
distance_small z low high = omega (arith, ints, clamps)

-- from 0 to this
record IsUpTo (most : ℤ) (v : Interval) : Type 0 where
  low : pos 0 ≤ℤ v.lo
  high : v.hi ≤ℤ most

hull_in : (q : Quantity) (window : ℕ) (halves : List Interval) (flags : List Flag) (v : Interval) → 0 < window → All IsHalfPeriodRange halves → AreFlags window halves flags
    → IsHull q window halves flags v → IsUpTo (greatest_in (length halves) q) v
hull_in q window halves flags v some h are hull =
    let low = hull.low_reached in
    let high = hull.high_reached in
    let steady : ℕ → Type 0 = IsTaken high.0 in
    let n = length halves in
    let fits : (j : ℕ) → steady j → (window ≤ j) × (j ≤ n) = λ j t. taken_window window halves flags high.0 j are high.2 t in
    record {
      low = low.3.low.natural;
      high = greatest_at_most (λ x. (c : Change) × IsChange steady n c × Gives q window n (greatest_readings window halves) c x) v.hi (greatest_in n q) (greatest_natural n q)
          (λ x (c, change, e). gives_small window halves steady some h fits q c x change e) high.3.high;
    }

wide_in : (halves : List Interval) (s : ChangeSummary) (q : Quantity) → All IsHalfPeriodRange halves → AreWide halves s.dc s.dmax s.t → IsUpTo (greatest_in (length halves) q) (interval_of q s)
wide_in halves s Dc h wide =
    let least = All-contains (λ z. pos 0 ≤ℤ z) (lows halves) wide.least (lows-natural halves h) wide.is_least.among in
    let greatest = All-contains (λ z. z ≤ℤ ten) (highs halves) wide.greatest (highs_in halves h) wide.is_greatest.among in
    record { low = omega (arith, ints, wide.dc_low); high = omega (arith, ints, wide.dc_high, least, greatest) }
wide_in halves s Dmax h wide =
    let Below : ℤ → Type 0 = λ z. z ≤ℤ ten in
    let away : ℤ → ℤ = λ z. distance z (pos 1000000000) in
    let least = All-contains (λ z. pos 0 ≤ℤ z) (lows halves) wide.least (lows-natural halves h) wide.is_least.among in
    let greatest = All-contains Below (highs halves) wide.greatest (highs_in halves h) wide.is_greatest.among in
    let Inside : ℤ → Type 0 = λ z. (pos 0 ≤ℤ z) × (z ≤ℤ ten) in
    let low_inside : All Inside (lows halves) =
    All-map Inside (λ v. v.lo) halves (λ k d low. let r = h k d low in ((r.low), omega (arith, ints, r.high, (get_or halves k d).ordered))) in
    let high_inside : All Inside (highs halves) =
    All-map Inside (λ v. v.hi) halves (λ k d low. let r = h k d low in (omega (arith, ints, r.low, (get_or halves k d).ordered), r.high)) in
    let inside = All-append Inside (lows halves) (highs halves) low_inside high_inside in
    let far = All-map Below away (lows halves ++ highs halves) (λ k d low. distance_small _ (inside k d low).0 (inside k d low).1) in
    let all = All-cons Below (wide.greatest -ℤ wide.least) (map away (lows halves ++ highs halves)) (omega (arith, ints, least, greatest)) far in
    record { low = omega (arith, ints, wide.dmax_low); high = All-contains Below ((wide.greatest -ℤ wide.least) ∷ map away (lows halves ++ highs halves)) s.dmax.hi all wide.dmax_high.among }
wide_in halves s Tmax h wide = record { low = omega (arith, ints, wide.t_low); high = omega (arith, ints, wide.t_high) }

changes_in : (window : ℕ) (halves : List Interval) (flags : List Flag) (s : ChangeSummary) (q : Quantity) → 0 < window → All IsHalfPeriodRange halves → AreFlags window halves flags
    → IsSummary window halves flags s → IsUpTo (greatest_in (length halves) q) (interval_of q s)
changes_in window halves flags s q some h are is =
    ⊎_elim (λ far. wide_in halves s q h (is.wide far)) (λ few. hull_in q window halves flags (interval_of q s) some h are (is.resolved q few)) (cases_lt 6 s.doubtful)

judgeable_change : (n : ℕ) (q : Quantity) (v : Interval) → n < 2 ^ 32 → IsUpTo (greatest_in n q) v → IsJudgeable v
judgeable_change n Dc v few h = record { low = h.low; high = omega (arith, ints, h.high) }
judgeable_change n Dmax v few h = record { low = h.low; high = omega (arith, ints, h.high) }
judgeable_change n Tmax v few h = record { low = h.low; high = omega (arith, ints, h.high) }

-- ---- severities

judgeable_severity : (levels : List Interval) (v : Interval) → IsSeverityInterval levels v → IsJudgeable v
judgeable_severity levels v h = record { low = h.low.is_least.natural; high = omega (arith, ints, h.high.is_least.capped) }

judgeable_pst : (c : Conditions) (recorded : List Fraction) (r : PhaseResult) (i : ℕ) → IsPhaseResult c recorded r → i < 12 → IsJudgeable (pst_at r i)
judgeable_pst c recorded r i is low =
    ⊎_elim
    (λ judged. judgeable_severity (of_interval c i is.levels) (pst_at r i) (is.severities_are i judged))
    (λ after. subst IsJudgeable (sym (is.none_after i after low)) record { low = omega (arith, ints); high = omega (arith, ints) })
    (cases_lt i c.count)

cubes_small : (zs : List ℤ) → All (λ z. IsBetween (pos 0) cap z) zs → sum_of_cubes zs ≤ℤ pos (length zs * 1000000000000000000000000000000000000)
cubes_small [] h = omega (arith, ints)
cubes_small (z ∷ zs) h =
    let Inside : ℤ → Type 0 = λ y. IsBetween (pos 0) cap y in
    omega (arith, ints, (powers z (All-head Inside z zs h)).cube_high, cubes_small zs (All-tail Inside z zs h))

judgeable_long_term : (severities : List Interval) (v : Interval) → length severities ≡ 12 → All IsJudgeable severities → IsLongTermInterval severities v → IsJudgeable v
judgeable_long_term severities v twelve each h =
    let Inside : ℤ → Type 0 = λ z. IsBetween (pos 0) cap z in
    let inside : All Inside (highs severities) =
    All-map Inside (λ w. w.hi) severities
    (λ k d low.
    let j = each k d low in
    record { above = omega (arith, ints, j.low, (get_or severities k d).ordered); below = omega (arith, ints, j.high) })
    in
    let sum = cubes_small (highs severities) inside in
    let high = long_term_high (highs severities) (sum_of_cubes (highs severities)) v.hi refl (omega (arith, ints, sum, twelve, length-map severities (λ (w : Interval). w.hi))) h.high in
    record { low = h.low.natural; high = omega (arith, ints, high) }

-- ---- the result

none_is_some : (v : Interval) → None ≡ Some v → ⊥
none_is_some v h = cc

there_at_twelve : (count : ℕ) (severities : List Interval) (plt : Option Interval) → IsLongTermEnds count severities plt → (count ≡ 12) ↔ ((v : Interval) × (plt ≡ Some v))
there_at_twelve count severities None h = (λ twelve. absurd (omega (arith, twelve, h)), λ there. absurd (none_is_some there.0 there.1))
there_at_twelve count severities (Some v) h = (λ twelve. (v, refl), λ there. h.0)

pub result_proper : (c : Conditions) (recorded : List Fraction) (r : PhaseResult) → AreSensible c → c.uncertainty ≤ 10 * c.nominal → IsWithinRange c.nominal recorded → r.halves < 2 ^ 32
    → IsPhaseResult c recorded r → IsProper r
result_proper c recorded r sensible few within short is =
    let window = window_in c in
    let range = halves_in_range c recorded is.halves is.flags is.levels sensible.nominal few within is.steps in
    let there = there_at_twelve c.count r.pst r.plt is.long_term_is in
    record {
      some = omega (arith, is.count_is, sensible.some);
      few = omega (arith, is.count_is, sensible.few);
      long_term = (λ twelve. there.0 (sym is.count_is ∙ twelve), λ v. is.count_is ∙ there.1 v);
      changes = λ q. judgeable_change (length is.halves) q (interval_of q r.changes) (omega (arith, short, is.halves_is))
          (changes_in window is.halves is.flags r.changes q (window_some c.lamp) range is.steps.are_flags is.changes_are);
      severities = λ i low. judgeable_pst c recorded r i is low;
      long_term_value = λ v same.
          let ends : IsLongTermEnds c.count r.pst (Some v) = subst (IsLongTermEnds c.count r.pst) same is.long_term_is in
          let each : All IsJudgeable r.pst =
          λ k d low. subst IsJudgeable (get_or_default r.pst k zero_interval d low) (judgeable_pst c recorded r k is (omega (arith, low, r.twelve))) in
          judgeable_long_term r.pst v r.twelve each ends.1;
    }
