-- What a sample does to a phase: first as far as the adaptor, and then behind it.
use Rattle.std.proofs.Common.{◌≡◌, ℕ, ◌+◌, Bool, List, [], ◌∷◌, ◌++◌, map, ℤ, reverse, sym, subst, ap, ◌∙◌, arith, length-append}
use Rattle.std.proofs.lemmas.List.{map-append}
use Rattle.flk_exact.proofs.ListLemmas.{AllZip-push, reverse-push}
use Rattle.flk_num.specs.declared.interval.Interval.{Interval}
use Rattle.flk_scale.specs.declared.scale.Scale.{Scale}
use Rattle.flk_scale.specs.Scale.{voltage_of, nominal_of, uncertainty_of}
use Rattle.flk_scale.specs.Voltage.{is_below_zero, IsVoltageInterval, IsOverRange}
use Rattle.flk_scale.proofs.RangeLemmas.{within_more}
use Rattle.flk_front.specs.declared.point.Point.{Point}
use Rattle.flk_section.specs.declared.whole.Whole.{Whole}
use Rattle.flk_section.specs.Whole.{numbers_of}
use Rattle.flk_result.specs.Conditions.{Conditions, conditions_for}
use Rattle.flk_result.specs.declared.result.Setup.{Setup}
use Rattle.flk_result.specs.Promise.{IsFilterOf}
use Rattle.flk_phase.specs.declared.halves.Halves.{Halves}
use Rattle.flk_phase.specs.declared.severities.Severities.{Severities}
use Rattle.flk_phase.specs.declared.phase.Phase.{Phase}
use Rattle.flk_phase.specs.Halves.{StandsFor as HalvesStandFor}
use Rattle.flk_phase.specs.Meter.{StandsAhead as MeterStandsAhead}
use Rattle.flk_phase.specs.Severities.{StandsFor as SeveritiesStandFor}
use Rattle.flk_phase.specs.Phase.{whole_of, conditions_of, told_by, StandsAhead}

-- ---- one sample more

pub moved_filter : (c d : Conditions) (w v : Whole) → d ≡ c → v ≡ w → IsFilterOf c w → IsFilterOf d v
moved_filter c d w v same alike h = subst (λ (b : Whole). IsFilterOf d b) (sym alike) (subst (λ (b : Conditions). IsFilterOf b w) (sym same) h)

same_conditions : (s t : Setup) (w v : Whole) (a b : Scale) → t ≡ s → v ≡ w → b ≡ a
    → conditions_for t (numbers_of v) (nominal_of b) (uncertainty_of b) ≡ conditions_for s (numbers_of w) (nominal_of a) (uncertainty_of a)
same_conditions s t w v a b setup bound scale =
    ap (λ (x : Setup). conditions_for x (numbers_of v) (nominal_of b) (uncertainty_of b)) setup
    ∙ (ap (λ (x : Whole). conditions_for s (numbers_of x) (nominal_of b) (uncertainty_of b)) bound ∙ ap (λ (x : Scale). conditions_for s (numbers_of w) (nominal_of x) (uncertainty_of x)) scale)

pub conditions_stay : (old new : Phase) → new.scale ≡ old.scale → new.setup ≡ old.setup → whole_of new ≡ whole_of old → conditions_of new ≡ conditions_of old
conditions_stay old new scale setup bound = same_conditions old.setup new.setup (whole_of old) (whole_of new) old.scale new.scale setup bound scale

told_push : (scale : Scale) (samples : List ℤ) (x : ℤ) → told_by scale (samples ++ x ∷ []) ≡ told_by scale samples ++ voltage_of scale x ∷ []
told_push scale samples x = map-append (voltage_of scale) samples (x ∷ [])

signs_push : (scale : Scale) (samples : List ℤ) (x : ℤ) → map is_below_zero (told_by scale (samples ++ x ∷ [])) ≡ map is_below_zero (told_by scale samples) ++ is_below_zero (voltage_of scale x) ∷ []
signs_push scale samples x = ap (map is_below_zero) (told_push scale samples x) ∙ map-append is_below_zero (told_by scale samples) (voltage_of scale x ∷ [])

-- The parts of the new phase are those of the old one after the sample came as far as the adaptor.
pub record HasAdapted (old new : Phase) (x : ℤ) (v : Interval) (p : Point) : Type 0 where
  pub scale : new.scale ≡ old.scale
  pub setup : new.setup ≡ old.setup
  pub whole_is : whole_of new ≡ whole_of old
  pub taken : new.taken ≡ old.taken + 1
  pub fine : ¬ IsOverRange (nominal_of old.scale) (voltage_of old.scale x)
  pub interval : IsVoltageInterval (nominal_of old.scale) (uncertainty_of old.scale) (voltage_of old.scale x) v
  pub halves : (signs : List Bool) (vs : List Interval) → HalvesStandFor old.halves signs vs → HalvesStandFor new.halves (signs ++ is_below_zero (voltage_of old.scale x) ∷ []) (vs ++ v ∷ [])
  pub meter : (vs ls : List Interval) (waiting : List Point) → MeterStandsAhead old.meter vs waiting ls → MeterStandsAhead new.meter (v ∷ vs) (p ∷ waiting) ls
  pub severities : new.severities ≡ old.severities

pub stands_adapted : (old new : Phase) (samples : List ℤ) (waiting : List Point) (x : ℤ) (v : Interval) (p : Point) → HasAdapted old new x v p → StandsAhead old samples waiting → StandsAhead new (samples ++ x ∷ []) (p ∷ waiting)
stands_adapted old new samples waiting x v p s h =
    let told = told_push old.scale samples x in
    let setup = old.setup in
    let halves = s.halves (map is_below_zero (told_by old.scale samples)) h.voltages h.halves in
    record {
      filter = moved_filter (conditions_of old) (conditions_of new) (whole_of old) (whole_of new) (conditions_stay old new s.scale s.setup s.whole_is) s.whole_is h.filter;
      within = rw (s.scale, told) (within_more (nominal_of old.scale) (told_by old.scale samples) (voltage_of old.scale x) h.within s.fine);
      voltages = h.voltages ++ v ∷ [];
      levels = h.levels;
      are_voltages = rw (s.scale, told)
          (AllZip-push (IsVoltageInterval (nominal_of old.scale) (uncertainty_of old.scale)) (told_by old.scale samples) h.voltages (voltage_of old.scale x) v h.are_voltages s.interval);
      halves = rw (s.scale, signs_push old.scale samples x) halves;
      meter = subst (λ (vs : List Interval). MeterStandsAhead new.meter vs (p ∷ waiting) (reverse h.levels)) (sym (reverse-push h.voltages v)) (s.meter (reverse h.voltages) (reverse h.levels) waiting h.meter);
      severities = rw s.setup (subst (λ (t : Severities). SeveritiesStandFor t setup.run_in setup.interval setup.count h.levels) (sym s.severities) h.severities);
      level_each = omega (arith, h.level_each, length-append samples (x ∷ []));
      taken = omega (arith, s.taken, h.taken, length-append samples (x ∷ []));
    }

-- The parts of the new phase are those of the old one after the oldest point that waits came through the weighting
-- filter and the smoothing.
pub record HasWeighed (old new : Phase) (p : Point) (level : Interval) : Type 0 where
  pub scale : new.scale ≡ old.scale
  pub setup : new.setup ≡ old.setup
  pub whole_is : whole_of new ≡ whole_of old
  pub taken : new.taken ≡ old.taken
  pub halves : new.halves ≡ old.halves
  pub meter : (vs ls : List Interval) (waiting : List Point) → MeterStandsAhead old.meter vs (waiting ++ p ∷ []) ls → MeterStandsAhead new.meter vs waiting (level ∷ ls)
  pub severities : (run_in interval count : ℕ) (ls : List Interval) → SeveritiesStandFor old.severities run_in interval count ls
      → SeveritiesStandFor new.severities run_in interval count (ls ++ level ∷ [])

pub stands_weighed : (old new : Phase) (samples : List ℤ) (waiting : List Point) (p : Point) (level : Interval) → HasWeighed old new p level → StandsAhead old samples (waiting ++ p ∷ []) → StandsAhead new samples waiting
stands_weighed old new samples waiting p level s h =
    let setup = old.setup in
    record {
      filter = moved_filter (conditions_of old) (conditions_of new) (whole_of old) (whole_of new) (conditions_stay old new s.scale s.setup s.whole_is) s.whole_is h.filter;
      within = rw s.scale h.within;
      voltages = h.voltages;
      levels = h.levels ++ level ∷ [];
      are_voltages = rw s.scale h.are_voltages;
      halves = rw s.scale (subst (λ (t : Halves). HalvesStandFor t (map is_below_zero (told_by old.scale samples)) h.voltages) (sym s.halves) h.halves);
      meter = subst (λ (ls : List Interval). MeterStandsAhead new.meter (reverse h.voltages) waiting ls) (sym (reverse-push h.levels level)) (s.meter (reverse h.voltages) (reverse h.levels) waiting h.meter);
      severities = rw s.setup (s.severities setup.run_in setup.interval setup.count h.levels h.severities);
      level_each = omega (arith, h.level_each, length-append h.levels (level ∷ []), length-append waiting (p ∷ []));
      taken = s.taken ∙ h.taken;
    }
