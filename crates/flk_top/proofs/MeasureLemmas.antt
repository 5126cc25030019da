-- What one more sample does to a measurement.
use Rattle.std.proofs.Common.{◌≡◌, ℕ, ◌+◌, ◌<◌, List, [], ◌∷◌, ◌++◌, length, map, take, drop, ℤ, pos, Option, Some, None, IfSome, IfNone, sym, subst, ap, ◌∙◌, refl, arith, length-append, append_assoc}
use Rattle.std.specs.Prelude.{slice_index_or}
use Rattle.std.proofs.lemmas.List.{map-append, take_all, take_more, take-append-drop, get_or_append_left}
use Rattle.flk_exact.specs.Fraction.{Fraction, whole}
use Rattle.flk_exact.specs.Cut.{half_periods}
use Rattle.flk_exact.proofs.ListLemmas.{AllZip-length, AllZip-push}
use Rattle.flk_exact.proofs.CutLemmas.{length-half_periods}
use Rattle.flk_num.specs.declared.interval.Interval.{Interval}
use Rattle.flk_num.proofs.RateLemmas.{half_some}
use Rattle.flk_scale.specs.Voltage.{is_below_zero, IsVoltageInterval, IsOverRange}
use Rattle.flk_scale.specs.Scale.{nominal_of, uncertainty_of, voltage_of}
use Rattle.flk_half.specs.Cutter.{IsHalfPeriodInterval, Continues, EndsHalfPeriod}
use Rattle.flk_half.proofs.IntervalsLemmas.{HasCut-continues, HasCut-ends}
use Rattle.flk_dat.specs.Records.{DataRecord, record_at, no_record}
use Rattle.flk_scale.specs.Range.{IsFirstOver, IsWithinRange, voltage_at}
use Rattle.flk_scale.proofs.RangeLemmas.{voltage_before, voltage_last, within_more}
use Rattle.flk_top.specs.Levels.{AreExtremeIntervalsIfAny, Gains, AreHalfPeriodLevels}
use Rattle.flk_top.specs.Measuring.{half_of, told_voltage, HasMeasured, IsSameMeasurement}
use Rattle.flk_top.specs.declared.measure.Levels.{Levels}
use Rattle.flk_top.specs.declared.measure.Measure.{Measure}
use Rattle.flk_top.specs.declared.matching.Matched.{Matched}
use Rattle.flk_top.proofs.LevelsLemmas.{are_extremes_if_any}

-- ---- no voltage over range

-- ---- one sample more

-- a sample before which no half-period ends
measured_continues : (old new : Measure) (recorded : List Fraction) (x : Fraction) (v : Interval) → HasMeasured old recorded → new.matched ≡ old.matched
    → new.taken ≡ old.taken + 1 → new.levels ≡ old.levels → ¬ IsOverRange (nominal_of old.matched.scale) x
    → IsVoltageInterval (nominal_of old.matched.scale) (uncertainty_of old.matched.scale) x v → Continues old.cutter new.cutter (is_below_zero x) v → HasMeasured new (recorded ++ x ∷ [])
measured_continues old new recorded x v h matched taken levels fine is step =
    let signs = map-append is_below_zero recorded (x ∷ []) in
    let m = old.matched in
    record {
      voltages = h.voltages ++ v ∷ [];
      intervals = h.intervals;
      are_voltages = rw matched (AllZip-push (IsVoltageInterval (nominal_of m.scale) (uncertainty_of m.scale)) recorded h.voltages x v h.are_voltages is);
      cut = rw (matched, signs) (HasCut-continues old.cutter new.cutter (half_of m) (map is_below_zero recorded) h.voltages h.intervals (is_below_zero x) v h.cut step);
      count = ap (λ (l : Levels). l.count) levels ∙ h.count;
      extremes = subst (λ (l : Levels). AreExtremeIntervalsIfAny h.intervals l.extremes) (sym levels) h.extremes;
      within = rw matched (within_more (nominal_of m.scale) recorded x h.within fine);
      taken = omega (arith, taken, h.taken, length-append recorded (x ∷ []));
    }

-- and one before which a half-period ends
measured_ends : (old new : Measure) (recorded : List Fraction) (x : Fraction) (v value : Interval) → HasMeasured old recorded → new.matched ≡ old.matched
    → new.taken ≡ old.taken + 1 → Gains old.levels (Some value) new.levels → ¬ IsOverRange (nominal_of old.matched.scale) x
    → IsVoltageInterval (nominal_of old.matched.scale) (uncertainty_of old.matched.scale) x v → EndsHalfPeriod old.cutter new.cutter (is_below_zero x) v value → HasMeasured new (recorded ++ x ∷ [])
measured_ends old new recorded x v value h matched taken gains fine is step =
    let signs = map-append is_below_zero recorded (x ∷ []) in
    let m = old.matched in
    record {
      voltages = h.voltages ++ v ∷ [];
      intervals = h.intervals ++ value ∷ [];
      are_voltages = rw matched (AllZip-push (IsVoltageInterval (nominal_of m.scale) (uncertainty_of m.scale)) recorded h.voltages x v h.are_voltages is);
      cut = rw (matched, signs) (HasCut-ends old.cutter new.cutter (half_of m) (map is_below_zero recorded) h.voltages h.intervals (is_below_zero x) v value h.cut step);
      count = omega (arith, gains.0, h.count, length-append h.intervals (value ∷ []));
      extremes = subst (AreExtremeIntervalsIfAny (h.intervals ++ value ∷ [])) (sym gains.2) (gains.3 h.intervals h.extremes);
      within = rw matched (within_more (nominal_of m.scale) recorded x h.within fine);
      taken = omega (arith, taken, h.taken, length-append recorded (x ∷ []));
    }

pub measured_more : (old new : Measure) (recorded : List Fraction) (x : Fraction) (v : Interval) (o : Option Interval) → HasMeasured old recorded → new.matched ≡ old.matched
    → new.taken ≡ old.taken + 1 → Gains old.levels o new.levels → ¬ IsOverRange (nominal_of old.matched.scale) x
    → IsVoltageInterval (nominal_of old.matched.scale) (uncertainty_of old.matched.scale) x v
    → IfNone o (Continues old.cutter new.cutter (is_below_zero x) v) → IfSome o (EndsHalfPeriod old.cutter new.cutter (is_below_zero x) v) → HasMeasured new (recorded ++ x ∷ [])
measured_more old new recorded x v None h matched taken gains fine is continues ends = measured_continues old new recorded x v h matched taken gains fine is continues
measured_more old new recorded x v (Some value) h matched taken gains fine is continues ends = measured_ends old new recorded x v value h matched taken gains fine is ends

-- at the end these are the levels
pub measured_levels : (m : Measure) (recorded : List Fraction) → 0 < nominal_of m.matched.scale → HasMeasured m recorded
    → AreHalfPeriodLevels (half_of m.matched) (nominal_of m.matched.scale) (uncertainty_of m.matched.scale) recorded m.levels
measured_levels m recorded high h =
    let half = half_of m.matched in
    let cuts = h.cut.cuts in
    let same : length (half_periods cuts h.voltages) ≡ length h.intervals = AllZip-length (IsHalfPeriodInterval half) (half_periods cuts h.voltages) h.intervals h.cut.are_intervals in
    record {
      cuts = cuts;
      are_cuts = h.cut.stands.are_cuts;
      count = h.count ∙ sym same ∙ length-half_periods cuts h.voltages;
      extremes = are_extremes_if_any half (nominal_of m.matched.scale) (uncertainty_of m.matched.scale) recorded h.voltages cuts h.intervals m.levels.extremes (half_some m.matched.lamp m.matched.rate) high h.cut.stands.are_cuts h.are_voltages h.cut.are_intervals h.extremes;
    }

-- ---- the records of a block

-- the voltage of a sample is the one that its record tells
pub told_of : (m now : Measure) (r : DataRecord) (x : ℤ) → IsSameMeasurement m now → x ≡ slice_index_or r.analog now.channel (pos 0) → voltage_of now.matched.scale x ≡ told_voltage m r
told_of m now r x same is = rw (is, same.matched, same.channel) refl

-- the voltages of one record more
told_more : (f : DataRecord → Fraction) (recorded : List Fraction) (rs : List DataRecord) (k : ℕ) → k < length rs
    → (recorded ++ map f (take k rs)) ++ f (record_at rs k) ∷ [] ≡ recorded ++ map f (take (k + 1) rs)
told_more f recorded rs k less =
    rw (take_more rs k no_record less, map-append f (take k rs) (record_at rs k ∷ [])) (append_assoc recorded (map f (take k rs)) (f (record_at rs k) ∷ []))

pub measured_record : (m now next : Measure) (recorded : List Fraction) (rs : List DataRecord) (k : ℕ) (x : ℤ) → IsSameMeasurement m now → k < length rs → x ≡ slice_index_or (record_at rs k).analog now.channel (pos 0)
    → HasMeasured next ((recorded ++ map (told_voltage m) (take k rs)) ++ voltage_of now.matched.scale x ∷ []) → HasMeasured next (recorded ++ map (told_voltage m) (take (k + 1) rs))
measured_record m now next recorded rs k x same less is h =
    let P : Fraction → Type 0 = λ v. HasMeasured next ((recorded ++ map (told_voltage m) (take k rs)) ++ v ∷ []) in
    subst (HasMeasured next) (told_more (told_voltage m) recorded rs k less) (subst P (told_of m now (record_at rs k) x same is) h)

-- a voltage over range behind voltages within range is the first
first_over : (nominal : ℕ) (front : List Fraction) (v : Fraction) (back : List Fraction) → IsWithinRange nominal front → IsOverRange nominal v → IsFirstOver nominal ((front ++ v ∷ []) ++ back) (length front)
first_over nominal front v back within over =
    let few : length (front ++ v ∷ []) ≡ length front + 1 = omega (arith, length-append front (v ∷ [])) in
    let here : voltage_at ((front ++ v ∷ []) ++ back) (length front) ≡ v = get_or_append_left (front ++ v ∷ []) back (whole (pos 0)) (length front) (omega (arith, few)) ∙ voltage_last front v in
    record {
      there = omega (arith, few, length-append (front ++ v ∷ []) back);
      over = subst (IsOverRange nominal) (sym here) over;
      first = λ k less again.
          within k less
          (subst (IsOverRange nominal) (get_or_append_left (front ++ v ∷ []) back (whole (pos 0)) k (omega (arith, few, less)) ∙ voltage_before front v k less) again);
    }

told_split : (f : DataRecord → Fraction) (recorded : List Fraction) (rs : List DataRecord) (k : ℕ) → k < length rs
    → ((recorded ++ map f (take k rs)) ++ f (record_at rs k) ∷ []) ++ map f (drop (k + 1) rs) ≡ recorded ++ map f rs
told_split f recorded rs k less =
    let joined : map f (take (k + 1) rs) ++ map f (drop (k + 1) rs) ≡ map f rs = sym (map-append f (take (k + 1) rs) (drop (k + 1) rs)) ∙ ap (map f) (take-append-drop (k + 1) rs) in
    rw (told_more f recorded rs k less) (append_assoc recorded (map f (take (k + 1) rs)) (map f (drop (k + 1) rs)) ∙ ap (λ ys. recorded ++ ys) joined)

-- a record over range is the first
pub over_record : (m now : Measure) (recorded : List Fraction) (rs : List DataRecord) (k i : ℕ) (x : ℤ) → IsSameMeasurement m now → HasMeasured now (recorded ++ map (told_voltage m) (take k rs))
    → k < length rs → x ≡ slice_index_or (record_at rs k).analog now.channel (pos 0) → IsOverRange (nominal_of now.matched.scale) (voltage_of now.matched.scale x) → i ≡ now.taken
    → IsFirstOver (nominal_of m.matched.scale) (recorded ++ map (told_voltage m) rs) i
over_record m now recorded rs k i x same h less is over place =
    let f = told_voltage m in
    let nominal = nominal_of m.matched.scale in
    let front = recorded ++ map f (take k rs) in
    let P : Matched → Type 0 = λ a. IsWithinRange (nominal_of a.scale) front in
    let Q : Matched → Type 0 = λ a. IsOverRange (nominal_of a.scale) (voltage_of now.matched.scale x) in
    let there = subst (IsOverRange nominal) (told_of m now (record_at rs k) x same is) (subst Q same.matched over) in
    let first = first_over nominal front (f (record_at rs k)) (map f (drop (k + 1) rs)) (subst P same.matched h.within) there in
    let R : ℕ → Type 0 = λ n. IsFirstOver nominal (recorded ++ map f rs) n in
    subst R (sym (place ∙ h.taken)) (subst (λ vs. IsFirstOver nominal vs (length front)) (told_split f recorded rs k less) first)

-- all records of a block
pub measured_block : (m now : Measure) (recorded : List Fraction) (rs : List DataRecord) (k : ℕ) → k ≡ length rs
    → HasMeasured now (recorded ++ map (told_voltage m) (take k rs)) → HasMeasured now (recorded ++ map (told_voltage m) rs)
measured_block m now recorded rs k all h =
    let whole_block : take k rs ≡ rs = take_all k rs (omega (arith, all)) in
    rw whole_block at h

pub still_same : (m now next : Measure) → IsSameMeasurement m now → IsSameMeasurement now next → IsSameMeasurement m next
still_same m now next a b = record { matched = b.matched ∙ a.matched; channel = b.channel ∙ a.channel }
