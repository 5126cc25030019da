-- From the samples that phases take to the records of a job's channels.
use Rattle.std.proofs.Common.{◌≡◌, ◌⊎◌, ℕ, ◌+◌, ◌-◌, ◌^◌, ◌<◌, ◌≤◌, List, [], ◌∷◌, ◌++◌, length, map, take, drop, set, get_or, pos, ℤ, Option, Some, None, refl, sym, ap, ◌∙◌, subst, arith, ⊎_elim, inl, inr, length-append}
use Rattle.std.specs.Prelude.{slice_index_or}
use Rattle.std.specs.List.{AllZip}
use Rattle.std.proofs.lemmas.Bool.{cases_lt}
use Rattle.std.proofs.lemmas.List.{length-map, map-append, get_or_append_left, get_or-append-add, get_or_default, take_more, take_all, drop_all, append-nil, get_or-set_same, get_or-set_other}
use Rattle.flk_exact.specs.Fraction.{Fraction, whole}
use Rattle.flk_exact.proofs.ListLemmas.{AllZip-length, AllZip-get_or, AllZip-from_get_or, AllZip-push}
use Rattle.flk_cfg.specs.declared.config.Analog.{Analog}
use Rattle.flk_cfg.specs.declared.config.Config.{Config}
use Rattle.flk_scale.specs.Channel.{IsChannel}
use Rattle.flk_scale.specs.Range.{voltage_at, IsFirstOver, IsWithinRange}
use Rattle.flk_scale.specs.Scale.{nominal_of, uncertainty_of, voltage_of, IsScaleOf}
use Rattle.flk_scale.specs.declared.scale.Scale.{Scale}
use Rattle.flk_scale.specs.Voltage.{IsOverRange, recorded_voltage}
use Rattle.flk_scale.proofs.MatchingLemmas.{one_channel}
use Rattle.flk_scale.proofs.RangeLemmas.{over_cases}
use Rattle.flk_job.specs.declared.job.Job.{Job}
use Rattle.flk_dat.specs.Records.{DataRecord, Rows}
use Rattle.flk_section.specs.Filter.{FilterNumbers}
use Rattle.flk_result.specs.Conditions.{Conditions, conditions_for}
use Rattle.flk_result.specs.declared.result.Setup.{Setup}
use Rattle.flk_result.specs.Promise.{KeepsPromise}
use Rattle.flk_result.specs.declared.result.PhaseResult.{PhaseResult}
use Rattle.flk_result.specs.Widths.{KeepsWidths}
use Rattle.flk_section.specs.declared.whole.Whole.{Whole}
use Rattle.flk_section.specs.Whole.{numbers_of}
use Rattle.flk_phase.specs.Phase.{conditions_of, scale_of, channel_of, over_of, taken_of, column_of as column, told_by, IsMadeFor, Stands}
use Rattle.flk_phase.specs.Taking.{Takes, MayTake}
use Rattle.flk_phase.specs.declared.phase.Phase.{Phase}
use Rattle.flk_top.specs.Matching.{sample_of, recorded_voltages}
use Rattle.flk_top.specs.ReportDue.{setup_of, IsOverAt, AreWithinRangeBefore, AreWithinRange, IsFirstOverOf, IsResultOf, AreResults}
use Rattle.flk_top.specs.Working.{IsFirstOverOfPhases, IsPhaseOf, HasColumn, TakesSamples, IsEndOf, ArePhasesOf, HaveWorked, AreReserved, IsReserved, TakeRecords, NoneIsOver, IsFirstPhaseOver, CanWork, AreWorked, IsOverTold}

-- ---- the voltages of a channel

-- what a phase takes for the voltages of records are those that its channel records
pub told_recorded : (j : Job) (c : Config) (filter : FilterNumbers) (channel : ℕ) (p : Phase) (h : IsPhaseOf j c filter channel p) (rs : List DataRecord)
    → told_by (scale_of p) (column (channel_of p) rs) ≡ recorded_voltages h.analog channel rs
told_recorded j c filter channel p h [] = refl
told_recorded j c filter channel p h (r ∷ rs) =
    let x = slice_index_or r.analog (channel_of p) (pos 0) in
    let one : voltage_of (scale_of p) x ≡ recorded_voltage h.analog (sample_of channel r) =
    h.scale.voltage x ∙ ap (λ (n : ℕ). recorded_voltage h.analog (slice_index_or r.analog n (pos 0))) h.channel_is in
    ap (λ (v : Fraction). v ∷ told_by (scale_of p) (column (channel_of p) rs)) one
    ∙ ap (λ (vs : List Fraction). recorded_voltage h.analog (sample_of channel r) ∷ vs) (told_recorded j c filter channel p h rs)

pub voltages_length : (a : Analog) (channel : ℕ) (rs : List DataRecord) → length (recorded_voltages a channel rs) ≡ length rs
voltages_length a channel rs = length-map rs (λ r. recorded_voltage a (sample_of channel r))

-- a voltage of the first records is the same where more follow
voltage_before : (a : Analog) (channel : ℕ) (rs more : List DataRecord) (i : ℕ) → i < length rs
    → voltage_at (recorded_voltages a channel (rs ++ more)) i ≡ voltage_at (recorded_voltages a channel rs) i
voltage_before a channel rs more i less =
    let f : DataRecord → Fraction = λ r. recorded_voltage a (sample_of channel r) in
    let there : i < length (map f rs) = omega (arith, less, voltages_length a channel rs) in
    ap (λ vs. voltage_at vs i) (map-append f rs more) ∙ get_or_append_left (map f rs) (map f more) (whole (pos 0)) i there

-- and one of those that follow
voltage_behind : (a : Analog) (channel : ℕ) (rs more : List DataRecord) (m : ℕ)
    → voltage_at (recorded_voltages a channel (rs ++ more)) (length rs + m) ≡ voltage_at (recorded_voltages a channel more) m
voltage_behind a channel rs more m =
    let f : DataRecord → Fraction = λ r. recorded_voltage a (sample_of channel r) in
    let vs = map f (rs ++ more) in
    ap (λ (n : ℕ). voltage_at vs (n + m)) (sym (voltages_length a channel rs))
    ∙ ap (λ xs. voltage_at xs (length (map f rs) + m)) (map-append f rs more)
    ∙ get_or-append-add (map f rs) (map f more) m (whole (pos 0))

over_before : (j : Job) (c : Config) (rs more : List DataRecord) (i channel : ℕ) → i < length rs → IsOverAt j c (rs ++ more) i channel → IsOverAt j c rs i channel
over_before j c rs more i channel less h = record {
  there = less;
  analog = h.analog;
  is = h.is;
  over = subst (IsOverRange j.supply.nominal_mv) (voltage_before h.analog channel rs more i less) h.over;
}

-- ---- one phase and more records

-- all samples more are within range, or one is the first over range
abbrev TookMore : Job → Config → Phase → Phase → ℕ → List DataRecord → List DataRecord → Type 0
TookMore j c old new channel rs more =
    ((m : ℕ) → m < length more → ¬ IsOverAt j c (rs ++ more) (length rs + m) channel)
    × (over_of new ≡ None) × HasColumn new (rs ++ more)

record FoundOver (j : Job) (c : Config) (new : Phase) (channel : ℕ) (rs more : List DataRecord) : Type 0 where
  pub place : ℕ
  pub told : over_of new ≡ Some (length rs + place + 1)
  pub over : IsOverAt j c (rs ++ more) (length rs + place) channel
  pub first : (m : ℕ) → m < place → ¬ IsOverAt j c (rs ++ more) (length rs + m) channel

-- the voltage behind the first records is over range exactly where the one told by the phase is
over_told : (j : Job) (c : Config) (filter : FilterNumbers) (channel : ℕ) (p : Phase) (rs more : List DataRecord) (m : ℕ) → IsPhaseOf j c filter channel p
    → IsOverAt j c (rs ++ more) (length rs + m) channel
    → IsOverRange (nominal_of (scale_of p)) (voltage_at (told_by (scale_of p) (column (channel_of p) more)) m)
over_told j c filter channel p rs more m h over =
    let same : over.analog ≡ h.analog = one_channel c channel over.analog h.analog over.is h.is in
    let here = subst (λ (a : Analog). IsOverRange j.supply.nominal_mv (voltage_at (recorded_voltages a channel (rs ++ more)) (length rs + m))) same over.over in
    let behind = subst (IsOverRange j.supply.nominal_mv) (voltage_behind h.analog channel rs more m) here in
    subst (λ (n : ℕ). IsOverRange n (voltage_at (told_by (scale_of p) (column (channel_of p) more)) m)) (sym h.scale.nominal)
    (subst (λ (vs : List Fraction). IsOverRange j.supply.nominal_mv (voltage_at vs m)) (sym (told_recorded j c filter channel p h more)) behind)

told_over : (j : Job) (c : Config) (filter : FilterNumbers) (channel : ℕ) (p : Phase) (rs more : List DataRecord) (m : ℕ) → IsPhaseOf j c filter channel p
    → m < length more → IsOverRange (nominal_of (scale_of p)) (voltage_at (told_by (scale_of p) (column (channel_of p) more)) m)
    → IsOverAt j c (rs ++ more) (length rs + m) channel
told_over j c filter channel p rs more m h less over =
    let told = subst (λ (vs : List Fraction). IsOverRange (nominal_of (scale_of p)) (voltage_at vs m)) (told_recorded j c filter channel p h more) over in
    let here = subst (λ (n : ℕ). IsOverRange n (voltage_at (recorded_voltages h.analog channel more) m)) h.scale.nominal told in
    record {
      there = omega (arith, less, length-append rs more);
      analog = h.analog;
      is = h.is;
      over = subst (IsOverRange j.supply.nominal_mv) (sym (voltage_behind h.analog channel rs more m)) here;
    }

told_length : (j : Job) (c : Config) (filter : FilterNumbers) (channel : ℕ) (p : Phase) (more : List DataRecord) → IsPhaseOf j c filter channel p
    → length (told_by (scale_of p) (column (channel_of p) more)) ≡ length more
told_length j c filter channel p more h =
    ap (λ (vs : List Fraction). length vs) (told_recorded j c filter channel p h more) ∙ voltages_length h.analog channel more

more_taken : (j : Job) (c : Config) (filter : FilterNumbers) (channel : ℕ) (old new : Phase) (rs more : List DataRecord) → IsPhaseOf j c filter channel old → HasColumn old rs
    → TakesSamples old new (column (channel_of old) more) → TookMore j c old new channel rs more ⊎ FoundOver j c new channel rs more
more_taken j c filter channel old new rs more h had takes =
    let xs = column (channel_of old) more in
    let vs = told_by (scale_of old) xs in
    let long : length vs ≡ length more = told_length j c filter channel old more h in
    elim (over_cases (nominal_of (scale_of old)) vs) [
      | inl within ↦
          let after = takes.within had.not_over within in
          let P : ℕ → Type 0 = λ n. Stands new (column n (rs ++ more)) in
          let joined : column (channel_of old) (rs ++ more) ≡ column (channel_of old) rs ++ xs = map-append (λ (r : DataRecord). slice_index_or r.analog (channel_of old) (pos 0)) rs more in
          inl (
            (λ m less over. within m (omega (arith, less, long)) (over_told j c filter channel old rs more m h over)),
            after.0,
            record {
              stands = subst P (sym takes.alike.channel) (subst (Stands new) (sym joined) (after.2 (column (channel_of old) rs) had.stands));
              not_over = after.0;
              taken = omega (arith, after.1, had.taken, length-append rs more, length-map more (λ (r : DataRecord). slice_index_or r.analog (channel_of old) (pos 0)));
            },
          )
      | inr found ↦
          let k = found.0 in
          let first = found.1 in
          inr (record {
            place = k;
            told = takes.over had.not_over k first ∙ ap (λ (n : ℕ). Some (n + k + 1)) had.taken;
            over = told_over j c filter channel old rs more k h (omega (arith, first.there, long)) first.over;
            first = λ m less over. first.first m less (over_told j c filter channel old rs more m h over);
          })
    ]

-- it is still made for its channel
same_phase : (j : Job) (c : Config) (filter : FilterNumbers) (channel : ℕ) (old new : Phase) (xs : List ℤ) → IsPhaseOf j c filter channel old → TakesSamples old new xs → IsPhaseOf j c filter channel new
same_phase j c filter channel old new xs h takes = record {
  analog = h.analog;
  is = h.is;
  scale = rw takes.alike.scale h.scale;
  channel_is = takes.alike.channel ∙ h.channel_is;
  conditions_are = takes.alike.conditions ∙ h.conditions_are;
}

-- ---- all phases and more records

pub phases_more : (j : Job) (c : Config) (filter : FilterNumbers) (old new : List Phase) (more : List DataRecord) → ArePhasesOf j c filter old → TakeRecords old new more → ArePhasesOf j c filter new
phases_more j c filter old new more h takes = record {
  count = takes.count ∙ h.count;
  each = λ i none d less.
      let there : i < length old = omega (arith, less, takes.count) in
      same_phase j c filter (slice_index_or j.channels i none) (slice_index_or old i d) (slice_index_or new i d) (column (channel_of (slice_index_or old i d)) more) (h.each i none d there) (takes.each i d there);
}

-- the channel at this turn was over range nowhere before
before_more : (j : Job) (c : Config) (rs more : List DataRecord) (place : ℕ) → AreWithinRange j c rs
    → ((m turn none : ℕ) → length rs + m < place → turn < length j.channels → ¬ IsOverAt j c (rs ++ more) (length rs + m) (slice_index_or j.channels turn none))
    → AreWithinRangeBefore j c (rs ++ more) place
before_more j c rs more place within behind = λ i turn none less there over.
    ⊎_elim
    (λ before. within i turn none before there (over_before j c rs more i (slice_index_or j.channels turn none) before over))
    (λ most.
    let at : i ≡ length rs + (i - length rs) = omega (arith, most) in
    let P : ℕ → Type 0 = λ n. IsOverAt j c (rs ++ more) n (slice_index_or j.channels turn none) in
    behind (i - length rs) turn none (omega (arith, less, at)) there (subst P at over))
    (cases_lt i (length rs))

any_phase : (phases : List Phase) → 0 < length phases → Phase
any_phase [] some = absurd (omega (arith, some))
any_phase (p ∷ phases) some = p

-- what became of the phase at a turn
turned : (j : Job) (c : Config) (filter : FilterNumbers) (old new : List Phase) (rs more : List DataRecord) (turn none : ℕ) (d : Phase) → HaveWorked j c filter old rs → TakeRecords old new more
    → turn < length j.channels
    → TookMore j c (slice_index_or old turn d) (slice_index_or new turn d) (slice_index_or j.channels turn none) rs more ⊎ FoundOver j c (slice_index_or new turn d) (slice_index_or j.channels turn none) rs more
turned j c filter old new rs more turn none d h takes there =
    let here : turn < length old = omega (arith, there, h.are_phases.count) in
    more_taken j c filter (slice_index_or j.channels turn none) (slice_index_or old turn d) (slice_index_or new turn d) rs more (h.are_phases.each turn none d here) (h.have_columns turn d here) (takes.each turn d here)

none_is_some : {A : Type 0} (o : Option ℕ) (n : ℕ) → o ≡ None → o ≡ Some n → A
none_is_some o n h k = cc

-- no phase found a sample over range: all stand for the records with those that came
pub worked_more : (j : Job) (c : Config) (filter : FilterNumbers) (old new : List Phase) (rs more : List DataRecord) → HaveWorked j c filter old rs → TakeRecords old new more
    → NoneIsOver new (length new) → HaveWorked j c filter new (rs ++ more)
worked_more j c filter old new rs more h takes none = record {
  are_phases = phases_more j c filter old new more h.are_phases takes;
  have_columns = λ i d less. elim (at i 0 d less) [
    | inl took ↦ took.2
    | inr found ↦ none_is_some (over_of (slice_index_or new i d)) (length rs + found.place + 1) (none i d less) found.told
  ];
  within = before_more j c rs more (length (rs ++ more)) h.within behind;
}
  where
    at : (i e : ℕ) (d : Phase) → i < length new → TookMore j c (slice_index_or old i d) (slice_index_or new i d) (slice_index_or j.channels i e) rs more ⊎ FoundOver j c (slice_index_or new i d) (slice_index_or j.channels i e) rs more
    at i e d less = turned j c filter old new rs more i e d h takes (omega (arith, less, takes.count, h.are_phases.count))

    behind : (m turn e : ℕ) → length rs + m < length (rs ++ more) → turn < length j.channels → ¬ IsOverAt j c (rs ++ more) (length rs + m) (slice_index_or j.channels turn e)
    behind m turn e less there over =
        let here : turn < length new = omega (arith, there, takes.count, h.are_phases.count) in
        let d = any_phase new (omega (arith, here)) in
        elim (at turn e d here) [
          | inl took ↦ took.0 m (omega (arith, less, length-append rs more)) over
          | inr found ↦ none_is_some (over_of (slice_index_or new turn d)) (length rs + found.place + 1) (none turn d here) found.told
        ]

some_is : (o : Option ℕ) (m n : ℕ) → o ≡ Some m → o ≡ Some n → m ≡ n
some_is o m n h k = cc

-- a phase found a sample over range: its channel is the first in the first such record
pub found_first : (j : Job) (c : Config) (filter : FilterNumbers) (old new : List Phase) (rs more : List DataRecord) (number turn none : ℕ) → HaveWorked j c filter old rs → TakeRecords old new more
    → IsFirstPhaseOver new (length new) number turn → IsFirstOverOf j c (rs ++ more) (number - 1) (slice_index_or j.channels turn none)
found_first j c filter old new rs more number turn none h takes first =
    let d = any_phase new (omega (arith, first.there)) in
    let there : turn < length j.channels = omega (arith, first.there, takes.count, h.are_phases.count) in
    elim (turned j c filter old new rs more turn none d h takes there) [
      | inl took ↦ none_is_some (over_of (slice_index_or new turn d)) number took.1 (first.over d)
      | inr found ↦
          let number_is : number ≡ length rs + found.place + 1 = some_is (over_of (slice_index_or new turn d)) number (length rs + found.place + 1) (first.over d) found.told in
          let place_is : number - 1 ≡ length rs + found.place = omega (arith, number_is) in
          let P : ℕ → Type 0 = λ n. IsOverAt j c (rs ++ more) n (slice_index_or j.channels turn none) in
          record {
            over = subst P (sym place_is) found.over;
            before = before_more j c rs more (number - 1) h.within (λ m t e less here over. no_lesser m t e here over (omega (arith, less, number_is)));
            turn = turn;
            turn_there = there;
            channel_is = λ e. one_default e;
            first = λ t e less over.
                let Q : ℕ → Type 0 = λ n. IsOverAt j c (rs ++ more) n (slice_index_or j.channels t e) in
                no_earlier found.place t e (omega (arith, less, there)) less (subst Q place_is over) number_is;
          }
    ]
  where
    one_default : (e : ℕ) → slice_index_or j.channels turn e ≡ slice_index_or j.channels turn none
    one_default e = get_or_default j.channels turn e none (omega (arith, first.there, takes.count, h.are_phases.count))

    -- a phase that finds this place over range tells it or a lesser one
    told_least : (m t e : ℕ) (d : Phase) → t < length j.channels → IsOverAt j c (rs ++ more) (length rs + m) (slice_index_or j.channels t e)
        → (k : ℕ) × (k ≤ m) × (over_of (slice_index_or new t d) ≡ Some (length rs + k + 1))
    told_least m t e d there over =
        elim (turned j c filter old new rs more t e d h takes there) [
          | inl took ↦ absurd (took.0 m (omega (arith, over.there, length-append rs more)) over)
          | inr found ↦ ⊎_elim (λ less. absurd (found.first m less over)) (λ most. (found.place, most, found.told)) (cases_lt m found.place)
        ]

    no_lesser : (m t e : ℕ) → t < length j.channels → IsOverAt j c (rs ++ more) (length rs + m) (slice_index_or j.channels t e) → length rs + m + 1 < number → ⊥
    no_lesser m t e there over less =
        let here : t < length new = omega (arith, there, takes.count, h.are_phases.count) in
        let d = any_phase new (omega (arith, here)) in
        let told = told_least m t e d there over in
        omega (arith, less, told.1, first.least t (length rs + told.0 + 1) d here told.2)

    no_earlier : (m t e : ℕ) → t < length j.channels → t < turn → IsOverAt j c (rs ++ more) (length rs + m) (slice_index_or j.channels t e) → number ≡ length rs + m + 1 → ⊥
    no_earlier m t e there earlier over is =
        let here : t < length new = omega (arith, there, takes.count, h.are_phases.count) in
        let d = any_phase new (omega (arith, here)) in
        let told = told_least m t e d there over in
        omega (arith, is, told.1, first.first t (length rs + told.0 + 1) d earlier told.2)

pub found_some : (j : Job) (c : Config) (filter : FilterNumbers) (old new : List Phase) (rs more : List DataRecord) (number turn : ℕ) → HaveWorked j c filter old rs → TakeRecords old new more
    → IsFirstPhaseOver new (length new) number turn → 1 ≤ number
found_some j c filter old new rs more number turn h takes first =
    let d = any_phase new (omega (arith, first.there)) in
    elim (turned j c filter old new rs more turn 0 d h takes (omega (arith, first.there, takes.count, h.are_phases.count))) [
      | inl took ↦ none_is_some (over_of (slice_index_or new turn d)) number took.1 (first.over d)
      | inr found ↦ omega (arith, some_is (over_of (slice_index_or new turn d)) number (length rs + found.place + 1) (first.over d) found.told)
    ]

-- ---- the results

result_is : (j : Job) (c : Config) (filter : FilterNumbers) (channel : ℕ) (p : Phase) (rs : List DataRecord) (r : PhaseResult) → IsPhaseOf j c filter channel p → HasColumn p rs → IsEndOf p r
    → IsResultOf j c filter rs channel r
result_is j c filter channel p rs r h had ends = record {
  analog = h.analog;
  is = h.is;
  keeps = subst (λ (k : Conditions). KeepsPromise k (recorded_voltages h.analog channel rs) r) h.conditions_are
      (subst (λ (vs : List Fraction). KeepsPromise (conditions_of p) vs r) (told_recorded j c filter channel p h rs) (ends.keeps (column (channel_of p) rs) had.stands));
  widths = subst (λ (k : Conditions). KeepsWidths k (recorded_voltages h.analog channel rs) r) h.conditions_are
      (subst (λ (vs : List Fraction). KeepsWidths (conditions_of p) vs r) (told_recorded j c filter channel p h rs) (ends.widths (column (channel_of p) rs) had.stands));
}

pub results_are : (j : Job) (c : Config) (filter : FilterNumbers) (phases : List Phase) (rs : List DataRecord) (results : List PhaseResult) → HaveWorked j c filter phases rs → AllZip IsEndOf phases results
    → AreResults j c filter rs results
results_are j c filter phases rs results h ends =
    AllZip-from_get_or (IsResultOf j c filter rs) j.channels results (sym h.are_phases.count ∙ AllZip-length IsEndOf phases results ends)
    (λ i none r less.
    let there : i < length phases = omega (arith, less, h.are_phases.count) in
    let p = any_phase phases (omega (arith, there)) in
    result_is j c filter (slice_index_or j.channels i none) (slice_index_or phases i p) rs (get_or results i r) (h.are_phases.each i none p there) (h.have_columns i p there) (AllZip-get_or IsEndOf phases results i p r ends there))

-- ---- the first of the phases that has a sample over range

-- the place before the last, or the last
by_place : (turn i : ℕ) → i < turn + 1 → (P : ℕ → Type 0) → (i < turn → P i) → P turn → P i
by_place turn i less P before last =
    ⊎_elim before (λ most. let same : turn ≡ i = omega (arith, less, most) in subst P same last) (cases_lt i turn)

-- one phase more has none
pub none_more : (phases : List Phase) (turn : ℕ) (first : Option (ℕ × ℕ)) → IsFirstOverOfPhases phases turn first → ((d : Phase) → over_of (slice_index_or phases turn d) ≡ None)
    → IsFirstOverOfPhases phases (turn + 1) first
none_more phases turn None h none = λ i d less. by_place turn i less (λ k. over_of (slice_index_or phases k d) ≡ None) (λ before. h i d before) (none d)
none_more phases turn (Some found) h none = record {
  there = omega (arith, h.there);
  over = h.over;
  least = λ i m d less told. by_place turn i less (λ k. over_of (slice_index_or phases k d) ≡ Some m → found.0 ≤ m) (λ before. h.least i m d before) (λ same. none_is_some (over_of (slice_index_or phases turn d)) m (none d) same) told;
  first = h.first;
}

-- one phase more has one in no lesser record
pub later_more : (phases : List Phase) (turn number t n : ℕ) → IsFirstPhaseOver phases turn n t → n ≤ number → ((d : Phase) → over_of (slice_index_or phases turn d) ≡ Some number)
    → IsFirstPhaseOver phases (turn + 1) n t
later_more phases turn number t n h least here = record {
  there = omega (arith, h.there);
  over = h.over;
  least = λ i m d less told. by_place turn i less (λ k. over_of (slice_index_or phases k d) ≡ Some m → n ≤ m) (λ before. h.least i m d before)
      (λ same. omega (arith, least, some_is (over_of (slice_index_or phases turn d)) number m (here d) same)) told;
  first = h.first;
}

-- one phase more has one in a lesser record, or is the first to have one
pub lesser_more : (phases : List Phase) (turn number : ℕ) (first : Option (ℕ × ℕ)) → IsFirstOverOfPhases phases turn first → ((found : ℕ × ℕ) → first ≡ Some found → number < found.0)
    → ((d : Phase) → over_of (slice_index_or phases turn d) ≡ Some number) → IsFirstPhaseOver phases (turn + 1) number turn
lesser_more phases turn number first h less here = record {
  there = omega arith;
  over = here;
  least = λ i m d within told. by_place turn i within (λ k. over_of (slice_index_or phases k d) ≡ Some m → number ≤ m) (λ before same. omega (arith, earlier first h less i m d before same))
      (λ same. omega (arith, some_is (over_of (slice_index_or phases turn d)) number m (here d) same)) told;
  first = λ i m d before told. earlier first h less i m d before told;
}
  where
    earlier : (f : Option (ℕ × ℕ)) → IsFirstOverOfPhases phases turn f → ((found : ℕ × ℕ) → f ≡ Some found → number < found.0) → (i m : ℕ) (d : Phase) → i < turn
        → over_of (slice_index_or phases i d) ≡ Some m → number < m
    earlier None none most i m d before told = none_is_some (over_of (slice_index_or phases i d)) m (none i d before) told
    earlier (Some found) least most i m d before told = omega (arith, most found refl, least.least i m d before told)

-- ---- lists that grow

-- one result more
pub ends_more : (phases : List Phase) (i : ℕ) (p : Phase) (results : List PhaseResult) (r : PhaseResult) (new : List PhaseResult) → i < length phases → p ≡ get_or phases i p
    → AllZip IsEndOf (take i phases) results → IsEndOf p r → new ≡ results ++ r ∷ [] → AllZip IsEndOf (take (i + 1) phases) new
ends_more phases i p results r new there is all one pushed =
    let step : take (i + 1) phases ≡ take i phases ++ p ∷ [] = take_more phases i p there ∙ ap (λ (x : Phase). take i phases ++ x ∷ []) (sym is) in
    rw (step, pushed) (AllZip-push IsEndOf (take i phases) results p r all one)

-- the phase of a channel, which has taken nothing
pub record IsNewPhase (j : Job) (c : Config) (filter : FilterNumbers) (channel : ℕ) (p : Phase) : Type 0 where
  pub is_phase : IsPhaseOf j c filter channel p
  pub nothing : HasColumn p []

pub new_more : (j : Job) (c : Config) (filter : FilterNumbers) (channels : List ℕ) (i channel : ℕ) (phases : List Phase) (p : Phase) (new : List Phase) → i < length channels
    → channel ≡ get_or channels i channel → AllZip (IsNewPhase j c filter) (take i channels) phases → IsNewPhase j c filter channel p → new ≡ phases ++ p ∷ []
    → AllZip (IsNewPhase j c filter) (take (i + 1) channels) new
new_more j c filter channels i channel phases p new there is all one pushed =
    let step : take (i + 1) channels ≡ take i channels ++ channel ∷ [] = take_more channels i channel there ∙ ap (λ (x : ℕ). take i channels ++ x ∷ []) (sym is) in
    rw (step, pushed) (AllZip-push (IsNewPhase j c filter) (take i channels) phases channel p all one)

pub new_worked : (j : Job) (c : Config) (filter : FilterNumbers) (phases : List Phase) → AllZip (IsNewPhase j c filter) j.channels phases → HaveWorked j c filter phases []
new_worked j c filter phases all =
    let count = AllZip-length (IsNewPhase j c filter) j.channels phases all in
    record {
      are_phases = record {
        count = sym count;
        each = λ i none d less. (AllZip-get_or (IsNewPhase j c filter) j.channels phases i none d all (omega (arith, less, count))).is_phase;
      };
      have_columns = λ i d less. (AllZip-get_or (IsNewPhase j c filter) j.channels phases i 0 d all (omega (arith, less, count))).nothing;
      within = λ i turn none less there over. omega (arith, less);
    }

-- ---- a phase that is made

pub new_phase : (j : Job) (c : Config) (w : Whole) (channel : ℕ) (a : Analog) (s : Scale) (setup : Setup) (p : Phase) → IsChannel c channel a → IsScaleOf a j.supply s → setup ≡ setup_of j c
    → IsMadeFor p s (channel - 1) setup w → Stands p [] → IsNewPhase j c (numbers_of w) channel p
new_phase j c w channel a s setup p is scale same made stands = record {
  is_phase = record {
    analog = a;
    is = is;
    scale = subst (IsScaleOf a j.supply) (sym made.scale_is) scale;
    channel_is = made.channel_is;
    conditions_are = made.conditions_are
        ∙ ap (λ (x : Setup). conditions_for x (numbers_of w) (nominal_of s) (uncertainty_of s)) same
        ∙ ap (λ (n : ℕ). conditions_for (setup_of j c) (numbers_of w) n (uncertainty_of s)) scale.nominal
        ∙ ap (λ (u : ℕ). conditions_for (setup_of j c) (numbers_of w) j.supply.nominal_mv u) scale.uncertainty;
  };
  nothing = record { stands = stands; not_over = made.none_over; taken = made.nothing };
}

-- ---- a block is taken

-- room was made, and then samples were taken
reserved_takes : (n : ℕ) (old mid new : Phase) (xs : List ℤ) → IsReserved n old mid → Takes mid new xs → TakesSamples old new xs
reserved_takes n old mid new xs kept takes =
    let made = kept.same.alike in
    let over = kept.same.over in
    let vs : Phase → List Fraction = λ p. told_by (scale_of p) xs in
    record {
      alike = record {
        scale = takes.alike.scale ∙ made.scale;
        channel = takes.alike.channel ∙ made.channel;
        whole = takes.alike.whole ∙ made.whole;
        conditions = takes.alike.conditions ∙ made.conditions;
      };
      within = λ none within.
          let after = takes.within (over ∙ none) (subst (λ (s : Scale). IsWithinRange (nominal_of s) (told_by s xs)) (sym made.scale) within) in (
            after.0,
            omega (arith, after.1.taken, kept.same.taken),
            λ h stands. after.1.stands h (kept.same.stands h stands),
          );
      over = λ none i first.
          (takes.over i (over ∙ none) (subst (λ (s : Scale). IsFirstOver (nominal_of s) (told_by s xs) i) (sym made.scale) first)).0 ∙ ap (λ (m : ℕ). Some (m + i + 1)) kept.same.taken;
    }

-- no sample was taken
takes_nothing : (p : Phase) → TakesSamples p p []
takes_nothing p = record {
  alike = record { scale = refl; channel = refl; whole = refl; conditions = refl };
  within = λ none within. (none, omega arith, λ h stands. subst (Stands p) (sym (append-nil h)) stands);
  over = λ none i first. absurd (omega (arith, first.there));
}

pub all_take : (old mid new : List Phase) (b : Rows) (n : ℕ) → AreReserved n old mid → length new ≡ length mid
    → ((i : ℕ) (d : Phase) → i < length mid → Takes (slice_index_or mid i d) (slice_index_or new i d) (column (channel_of (slice_index_or mid i d)) b.records)) → TakeRecords old new b.records
all_take old mid new b n kept count each = record {
  count = count ∙ kept.count;
  each = λ i d less.
      let one = kept.each i d less in
      let taken = each i d (omega (arith, less, kept.count)) in
      let P : ℕ → Type 0 = λ m. Takes (slice_index_or mid i d) (slice_index_or new i d) (column m b.records) in
      reserved_takes n (slice_index_or old i d) (slice_index_or mid i d) (slice_index_or new i d) (column (channel_of (slice_index_or old i d)) b.records) one (subst P one.same.alike.channel taken);
}

pub none_take : (phases : List Phase) (more : List DataRecord) → length more ≡ 0 → TakeRecords phases phases more
none_take phases [] none = record { count = refl; each = λ i d less. takes_nothing (slice_index_or phases i d) }
none_take phases (r ∷ more) none = absurd (omega (arith, none))

-- ---- what a block tells

pub block_over : (j : Job) (c : Config) (filter : FilterNumbers) (old new : List Phase) (rs more : List DataRecord) (number turn : ℕ) → HaveWorked j c filter old rs → TakeRecords old new more
    → IsFirstPhaseOver new (length new) number turn → IsOverTold j c (rs ++ more) number turn
block_over j c filter old new rs more number turn h takes first = record {
  some = found_some j c filter old new rs more number turn h takes first;
  there = omega (arith, first.there, takes.count, h.are_phases.count);
  first = λ none. found_first j c filter old new rs more number turn none h takes first;
}

-- the phases have columns in the block, and few records were taken
pub can_channel : (phases : List Phase) (b : Rows) → CanWork phases b → (i : ℕ) (d : Phase) → i < length phases → channel_of (slice_index_or phases i d) < b.analog
can_channel phases b can i d less =
    let h = can.worked.are_phases.each i 0 d less in
    omega (arith, h.channel_is, h.is.from, h.is.within, can.columns)

pub can_few : (phases : List Phase) (b : Rows) → CanWork phases b → (i : ℕ) (d : Phase) → i < length phases → taken_of (slice_index_or phases i d) + length b.records < 2 ^ 32
can_few phases b can i d less = omega (arith, (can.worked.have_columns i d less).taken, can.few)

-- the phases may take the block once there is room for it
pub can_take : (phases mid : List Phase) (b : Rows) (n : ℕ) → CanWork phases b → AreReserved n phases mid → n ≡ length b.records
    → (i : ℕ) (d : Phase) → i < length mid → MayTake (slice_index_or mid i d) b
can_take phases mid b n can kept rows i d less =
    let there : i < length phases = omega (arith, less, kept.count) in
    let one = kept.each i d there in
    record {
      channel = omega (arith, one.same.alike.channel, can_channel phases b can i d there);
      room = omega (arith, rows, one.spare);
      few = omega (arith, one.same.taken, can_few phases b can i d there);
    }

-- a block of which no phase finds a sample over range, or one finds it
pub block_worked : (old new : List Phase) (more : List DataRecord) (o : Option (ℕ × ℕ)) → TakeRecords old new more → IsFirstOverOfPhases new (length new) o → AreWorked old new more o
block_worked old new more None takes none = λ j c filter rs h. worked_more j c filter old new rs more h takes none
block_worked old new more (Some found) takes first = λ j c filter rs h. block_over j c filter old new rs more found.0 found.1 h takes first

-- a list that is written back whole
pub written_back : {A : Type 0} (n : ℕ) (new old : List A) → length new ≡ length old → n ≡ length old → take n (new ++ drop (length new) old) ≡ new
written_back n new old same count =
    let none : drop (length new) old ≡ [] = drop_all (length new) old (omega (arith, same)) in
    ap (λ xs. take n (new ++ xs)) none ∙ ap (λ xs. take n xs) (append-nil new) ∙ take_all n new (omega (arith, same, count))

pub can_some : (phases : List Phase) (b : Rows) → CanWork phases b → 0 < length phases
can_some phases b can = omega (arith, can.some, can.worked.are_phases.count)

-- ---- room is made in one phase after the other

pub reserved_done : (n : ℕ) (old mid : List Phase) (i : ℕ) (p q : Phase) → i < length mid → p ≡ get_or mid i p → IsReserved n p q
    → ((k : ℕ) (d : Phase) → k < i → IsReserved n (get_or old k d) (get_or mid k d)) → ((k : ℕ) (d : Phase) → i ≤ k → get_or mid k d ≡ get_or old k d)
    → (k : ℕ) (d : Phase) → k < i + 1 → IsReserved n (get_or old k d) (get_or (set mid i q) k d)
reserved_done n old mid i p q there is one done rest k d less =
    by_place i k less (λ m. IsReserved n (get_or old m d) (get_or (set mid i q) m d))
    (λ before. subst (IsReserved n (get_or old k d)) (sym (get_or-set_other mid i k q d (λ same. omega (arith, before, same)))) (done k d before))
    (subst (λ (x : Phase). IsReserved n x (get_or (set mid i q) i d)) (is ∙ get_or_default mid i p d there ∙ rest i d (omega arith))
    (subst (IsReserved n p) (sym (get_or-set_same mid i q d there)) one))
