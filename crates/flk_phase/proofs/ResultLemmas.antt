-- The result of a phase is that of its samples.
use Rattle.std.proofs.Common.{◌≡◌, ℕ, List, length, map, ℤ, reverse, sym, subst, arith}
use Rattle.std.specs.Prelude.{slice_index_or}
use Rattle.flk_exact.specs.Cut.{AreCuts}
use Rattle.flk_num.specs.declared.interval.Interval.{Interval}
use Rattle.flk_num.specs.declared.rate.Rate.{Rate}
use Rattle.flk_num.specs.Rate.{adaptor_exponent, smoothing_number}
use Rattle.flk_scale.specs.Voltage.{is_below_zero}
use Rattle.flk_half.specs.Intervals.{AreHalfPeriodIntervals}
use Rattle.flk_change.specs.Steady.{AreFlags}
use Rattle.flk_change.specs.Resolutions.{IsSummary}
use Rattle.flk_front.specs.Rounded.{ArePoints}
use Rattle.flk_stat.specs.Rounded.{AreLevelIntervals}
use Rattle.flk_result.specs.declared.result.PhaseResult.{PhaseResult}
use Rattle.flk_result.specs.Conditions.{AreSensible, AreEnough, of_interval}
use Rattle.flk_result.specs.PhaseResult.{zero_interval}
use Rattle.flk_result.specs.Digits.{AreSteps, IsPhaseResult, IsSeverityInterval, IsLongTermEnds}
use Rattle.flk_phase.specs.declared.phase.Phase.{Phase}
use Rattle.flk_phase.specs.Halves.{window_of as window_of_halves, count_of as count_of_halves, halves_in, flags_in}
use Rattle.flk_phase.specs.Severities.{count_of as count_of_severities, severities_in}
use Rattle.flk_phase.specs.Phase.{scale_of, conditions_of, told_by, Stands}
use Rattle.flk_phase.proofs.SeveritiesLemmas.{all_done}

-- the steps that the parts of a phase stand for
steps_of : (p : Phase) (samples : List ℤ) → (h : Stands p samples) → AreSteps (conditions_of p) (told_by (scale_of p) samples) (halves_in p.halves) (flags_in p.halves) h.levels
steps_of p samples h =
    let signs = map is_below_zero (told_by (scale_of p) samples) in
    let cut = h.halves.cut in
    record {
      voltages = h.voltages;
      cuts = cut.cuts;
      points = h.meter.points;
      answers = h.meter.answers;
      are_voltages = h.are_voltages;
      are_cuts = subst (λ (n : ℕ). AreCuts n signs cut.cuts) p.half cut.stands.are_cuts;
      are_halves = subst (λ (n : ℕ). AreHalfPeriodIntervals n cut.cuts h.voltages (halves_in p.halves)) p.half cut.are_intervals;
      are_flags = subst (λ (n : ℕ). AreFlags n (halves_in p.halves) (flags_in p.halves)) p.window h.halves.are_flags;
      are_points = subst (λ (e : Rate). ArePoints (adaptor_exponent e) (reverse h.voltages) h.meter.points) p.rate h.meter.are_points;
      are_answers = h.meter.are_answers;
      are_levels = subst (λ (e : Rate). AreLevelIntervals (smoothing_number e) h.meter.answers (reverse h.levels)) p.rate h.meter.are_levels;
    }

-- the parts of a result are those of a phase
pub record IsMadeOf (p : Phase) (r : PhaseResult) : Type 0 where
  pub halves : r.halves ≡ count_of_halves p.halves
  pub changes : IsSummary (window_of_halves p.halves) (halves_in p.halves) (flags_in p.halves) r.changes
  pub severities : r.pst ≡ severities_in p.severities
  pub count : r.count ≡ p.setup.count
  pub long_term : IsLongTermEnds (count_of_severities p.severities) (severities_in p.severities) r.plt

pub result_of : (p : Phase) (samples : List ℤ) (r : PhaseResult) → IsMadeOf p r → AreEnough (conditions_of p) (length samples) → Stands p samples
    → IsPhaseResult (conditions_of p) (told_by (scale_of p) samples) r
result_of p samples r m enough h =
    let s = p.severities in
    let setup = p.setup in
    let done : s.done ≡ setup.count = all_done s setup.run_in setup.interval setup.count h.levels h.severities (omega (arith, enough, h.level_each)) in
    record {
      halves = halves_in p.halves;
      flags = flags_in p.halves;
      levels = h.levels;
      steps = steps_of p samples h;
      halves_is = m.halves;
      changes_are = subst (λ (n : ℕ). IsSummary n (halves_in p.halves) (flags_in p.halves) r.changes) p.window m.changes;
      count_is = m.count;
      severities_are = λ i low.
          subst (λ (all : List Interval). IsSeverityInterval (of_interval (conditions_of p) i h.levels) (slice_index_or all i zero_interval)) (sym m.severities)
          (h.severities.severities i (omega (arith, low, done)));
      none_after = λ i late low.
          subst (λ (all : List Interval). slice_index_or all i zero_interval ≡ zero_interval) (sym m.severities) (h.severities.none_after i (omega (arith, late, done)) low);
      long_term_is = subst (λ (n : ℕ). IsLongTermEnds n r.pst r.plt) h.severities.count_is (subst (λ (all : List Interval). IsLongTermEnds (count_of_severities s) all r.plt) (sym m.severities) m.long_term);
    }

-- the phase's conditions are sensible
pub sensible : (p : Phase) → AreSensible (conditions_of p)
sensible p = record {
  interval = omega (arith, p.interval);
  some = omega (arith, p.some);
  few = p.few;
  nominal = omega (arith, p.scale.supply.nominal_low);
}
