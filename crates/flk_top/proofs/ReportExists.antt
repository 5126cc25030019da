-- Some outcome of a report is due: files have a first fault, or results.
use Rattle.std.proofs.Common.{◌≡◌, ◌⊎◌, ℕ, zero, suc, ◌+◌, ◌-◌, ◌/◌, ◌<◌, ◌≤◌, min, List, [], ◌∷◌, length, refl, sym, ap, ◌∙◌, subst, arith, ⊎_elim, inl, inr}
use Rattle.std.specs.Prelude.{slice_index_or}
use Rattle.std.specs.List.{AllZip}
use Rattle.std.proofs.Math.Nat.{le-div_iff_mul-le, mul-pos}
use Rattle.std.proofs.lemmas.Bool.{cases_lt}
use Rattle.std.proofs.lemmas.List.{length-map, get_or_default}
use Rattle.flk_exact.specs.Fraction.{Fraction}
use Rattle.flk_exact.proofs.ListLemmas.{AllZip-length}
use Rattle.flk_num.specs.Rate.{sampling_interval}
use Rattle.flk_num.proofs.RateLemmas.{rate_some}
use Rattle.flk_cfg.specs.declared.config.Analog.{Analog}
use Rattle.flk_cfg.specs.declared.config.Config.{Config}
use Rattle.flk_scale.specs.Channel.{IsChannel}
use Rattle.flk_scale.specs.Matching.{CanBeMeasured}
use Rattle.flk_scale.specs.Range.{voltage_at, IsFirstOver, IsWithinRange}
use Rattle.flk_scale.specs.Voltage.{IsOverRange}
use Rattle.flk_scale.proofs.MatchingLemmas.{one_channel}
use Rattle.flk_scale.proofs.RangeLemmas.{over_cases}
use Rattle.flk_job.specs.Job.{AreInSets}
use Rattle.flk_job.specs.Kinds.{kind_number as job_kind_number}
use Rattle.flk_job.specs.Matching.{IsMatch}
use Rattle.flk_job.specs.declared.job.Job.{Job}
use Rattle.flk_job.proofs.JobCases.{job_cases}
use Rattle.flk_job.proofs.KeyLemmas.{in_sets}
use Rattle.flk_job.proofs.MatchLemmas.{match_cases}
use Rattle.flk_job.specs.Times.{run_in_samples, interval_samples}
use Rattle.flk_dat.specs.Kinds.{data_kind_number as record_kind}
use Rattle.flk_dat.specs.Records.{DataRecord}
use Rattle.flk_dat.proofs.FileCases.{accepted_or_first_fault}
use Rattle.flk_design.specs.Analog.{analog_sections}
use Rattle.flk_design.specs.Lamp.{constants_of}
use Rattle.flk_design.specs.Design.{IsDigital, IsDesign}
use Rattle.flk_section.specs.declared.whole.Whole.{Whole}
use Rattle.flk_section.specs.Filter.{FilterNumbers}
use Rattle.flk_section.proofs.WholeExists.{whole_exists}
use Rattle.flk_result.specs.Conditions.{AreSensible, AreEnough}
use Rattle.flk_result.specs.Promise.{IsFilterOf}
use Rattle.flk_result.specs.declared.result.PhaseResult.{PhaseResult}
use Rattle.flk_result.proofs.ExistLemmas.{result_exists}
use Rattle.flk_result.proofs.QuantityLemmas.{own_run}
use Rattle.flk_result.proofs.HoldLemmas.{result_keeps}
use Rattle.flk_result.specs.RunQuantities.{RunQuantities}
use Rattle.flk_result.proofs.WidthLemmas.{widths_kept}
use Rattle.flk_top.specs.Certified.{IsCertifiedSection, gains_in, IsCertifiedLamp, lamp_fault_number}
use Rattle.flk_top.specs.Configuration.{IsConfiguration, IsConfigurationFault}
use Rattle.flk_top.specs.Faults.{job_line, match_line, lamp_line, data_line, range_line}
use Rattle.flk_top.specs.Headline.{ReportedRecording, AreAcceptedForReport, AreOfRun, AreOfRuns}
use Rattle.flk_top.specs.Told.{Files}
use Rattle.flk_top.specs.Matching.{recorded_voltages}
use Rattle.flk_top.specs.Outcome.{refusal}
use Rattle.flk_top.specs.ReportDue.{conditions_in, IsOverAt, AreWithinRange, IsFirstOverOf, IsResultOf, AreResults, reported_outcome, job_layout}
use Rattle.flk_top.specs.ReportDue.{IsDueForPhases, data_fault, over_range, reported, IsDueForJob, no_match, no_filter, certified, IsDueForReport, no_job, no_configuration, read}
use Rattle.flk_top.specs.Tables.{bound_of}
use Rattle.flk_top.specs.declared.certified.CertifiedSection.{CertifiedSection}
use Rattle.flk_top.proofs.LampLemmas.{certified_cases}
use Rattle.flk_top.proofs.ReportReplies.{job_is_enough, filter_design}
use Rattle.flk_top.proofs.PhasesLemmas.{voltages_length}
use Rattle.flk_top.proofs.Outcomes.{HasOutcome}

-- ---- over range, or not

-- none of the first so many channels is over range before this record
abbrev AreWithinTo : Job → Config → List DataRecord → (turns place : ℕ) → Type 0
AreWithinTo j c rs turns place = (i t none : ℕ) → i < place → t < turns → ¬ IsOverAt j c rs i (slice_index_or j.channels t none)

-- of the first so many channels, the one at this turn is the first that is over range in the first such record
record IsFirstTo (j : Job) (c : Config) (rs : List DataRecord) (turns place turn : ℕ) : Type 0 where
  pub over : (none : ℕ) → IsOverAt j c rs place (slice_index_or j.channels turn none)
  pub before : AreWithinTo j c rs turns place
  pub there : turn < turns
  pub first : (t none : ℕ) → t < turn → ¬ IsOverAt j c rs place (slice_index_or j.channels t none)

-- a channel that is over range in a record is that of the recorded voltages
over_voltage : (j : Job) (c : Config) (rs : List DataRecord) (channel i : ℕ) (a : Analog) → IsChannel c channel a → IsOverAt j c rs i channel
    → IsOverRange j.supply.nominal_mv (voltage_at (recorded_voltages a channel rs) i)
over_voltage j c rs channel i a is over =
    subst (λ (b : Analog). IsOverRange j.supply.nominal_mv (voltage_at (recorded_voltages b channel rs) i)) (one_channel c channel over.analog a over.is is) over.over

at_turn : (j : Job) (turn none e : ℕ) → turn < length j.channels → slice_index_or j.channels turn none ≡ slice_index_or j.channels turn e
at_turn j turn none e less = get_or_default j.channels turn none e less

-- one channel more that is within range
within_more : (j : Job) (c : Config) (rs : List DataRecord) (turns place : ℕ) (a : Analog) → turns < length j.channels → IsChannel c (slice_index_or j.channels turns 0) a
    → (vs : (i : ℕ) → i < place → ¬ IsOverRange j.supply.nominal_mv (voltage_at (recorded_voltages a (slice_index_or j.channels turns 0) rs) i)) → AreWithinTo j c rs turns place → AreWithinTo j c rs (turns + 1) place
within_more j c rs turns place a room is vs old = λ i t none less there over.
    ⊎_elim
    (λ before. old i t none less before over)
    (λ most.
    let same : turns ≡ t = omega (arith, there, most) in
    let P : ℕ → Type 0 = λ n. IsOverAt j c rs i n in
    let here : slice_index_or j.channels t none ≡ slice_index_or j.channels turns 0 = ap (λ (k : ℕ). slice_index_or j.channels k none) (sym same) ∙ at_turn j turns none 0 room in
    vs i less (over_voltage j c rs (slice_index_or j.channels turns 0) i a is (subst P here over)))
    (cases_lt t turns)

turns_cases : (j : Job) (c : Config) (rs : List DataRecord) → IsMatch j c → (turns : ℕ) → turns ≤ length j.channels
    → AreWithinTo j c rs turns (length rs) ⊎ ((place : ℕ) × (turn : ℕ) × IsFirstTo j c rs turns place turn)
turns_cases j c rs is zero room = inl (λ i t none less there over. omega (arith, there))
turns_cases j c rs is (suc n) room = one_more (turns_cases j c rs is n (omega (arith, room))) (over_cases nominal vs)
  where
    nominal : ℕ
    nominal = j.supply.nominal_mv

    channel : ℕ
    channel = slice_index_or j.channels n 0

    inside : n < length j.channels
    inside = omega (arith, room)

    can : CanBeMeasured c channel
    can = is.channels n 0 inside

    a : Analog
    a = can.0

    vs : List Fraction
    vs = recorded_voltages a channel rs

    long : length vs ≡ length rs
    long = voltages_length a channel rs

    -- the channel is within range before the record
    quiet : (k : ℕ) → IsFirstOver nominal vs k → (i : ℕ) → i < k → ¬ IsOverRange nominal (voltage_at vs i)
    quiet k first i less = first.first i less

    new_first : (k : ℕ) → IsFirstOver nominal vs k → AreWithinTo j c rs n k → ((t none : ℕ) → t < n → ¬ IsOverAt j c rs k (slice_index_or j.channels t none)) → IsFirstTo j c rs (suc n) k n
    new_first k first before none_here = record {
      over = λ none. subst (IsOverAt j c rs k) (at_turn j n 0 none inside) (record { there = omega (arith, first.there, long); analog = a; is = can.1; over = first.over });
      before = λ i t none less there. within_more j c rs n k a inside can.1 (quiet k first) before i t none less (omega (arith, there));
      there = omega arith;
      first = none_here;
    }

    old_first : (place turn : ℕ) → IsFirstTo j c rs n place turn → ((i : ℕ) → i < place → ¬ IsOverRange nominal (voltage_at vs i)) → IsFirstTo j c rs (suc n) place turn
    old_first place turn h silent = record {
      over = h.over;
      before = λ i t none less there. within_more j c rs n place a inside can.1 silent h.before i t none less (omega (arith, there));
      there = omega (arith, h.there);
      first = h.first;
    }

    one_more : AreWithinTo j c rs n (length rs) ⊎ ((place : ℕ) × (turn : ℕ) × IsFirstTo j c rs n place turn) → IsWithinRange nominal vs ⊎ ((k : ℕ) × IsFirstOver nominal vs k)
        → AreWithinTo j c rs (suc n) (length rs) ⊎ ((place : ℕ) × (turn : ℕ) × IsFirstTo j c rs (suc n) place turn)
    one_more (inl old) (inl within) =
        inl (λ i t none less there. within_more j c rs n (length rs) a inside can.1 (λ k few. within k (omega (arith, few, long))) old i t none less (omega (arith, there)))
    one_more (inl old) (inr found) =
        let k = found.0 in
        let less : k < length rs = omega (arith, found.1.there, long) in
        inr (k, n, new_first k found.1 (λ i t none few there. old i t none (omega (arith, few, less)) there) (λ t none there. old k t none less there))
    one_more (inr h) (inl within) =
        let over = h.2.over 0 in
        inr (h.0, h.1, old_first h.0 h.1 h.2 (λ i few. within i (omega (arith, few, long, over.there))))
    one_more (inr h) (inr found) =
        let k = found.0 in
        ⊎_elim
        (λ less. inr (k, n, new_first k found.1 (λ i t none few there. h.2.before i t none (omega (arith, few, less)) there) (λ t none there. h.2.before k t none less there)))
        (λ most. inr (h.0, h.1, old_first h.0 h.1 h.2 (λ i few. found.1.first i (omega (arith, few, most)))))
        (cases_lt k h.0)

pub range_cases : (j : Job) (c : Config) (rs : List DataRecord) → IsMatch j c → AreWithinRange j c rs ⊎ ((place : ℕ) × (channel : ℕ) × IsFirstOverOf j c rs place channel)
range_cases j c rs is =
    elim (turns_cases j c rs is (length j.channels) (omega arith)) [
      | inl within ↦ inl within
      | inr found ↦
          let turn = found.1 in
          inr (
            found.0,
            slice_index_or j.channels turn 0,
            record {
              over = found.2.over 0;
              before = found.2.before;
              turn = turn;
              turn_there = found.2.there;
              channel_is = λ none. at_turn j turn none 0 found.2.there;
              first = found.2.first;
            },
          )
    ]

-- ---- the results

-- one interval at least is judged
count_some : (records run_in interval : ℕ) → 0 < interval → run_in + interval ≤ records → 0 < min 12 ((records - run_in) / interval)
count_some records run_in interval some long =
    let one : 1 ≤ (records - run_in) / interval = (le-div_iff_mul-le some).1 (omega (arith, long)) in
    omega (arith, one)

conditions_sensible : (j : Job) (c : Config) (filter : FilterNumbers) → AreInSets j → IsMatch j c → AreSensible (conditions_in j c filter)
conditions_sensible j c filter sets is =
    let some = mul-pos (rate_some c.rate) (omega (arith, sets.interval_some)) in
    record {
      interval = some;
      some = count_some c.endsamp (run_in_samples j c.rate) (interval_samples j c.rate) some (omega (arith, is.long));
      few = omega arith;
      nominal = omega (arith, j.supply.nominal_low);
    }

filter_is : (j : Job) (c : Config) (ss : List CertifiedSection) → IsCertifiedLamp j.lamp c.rate ss → (w : Whole) × IsFilterOf (conditions_in j c (bound_of ss)) w
filter_is j c ss lamp =
    let sections : length (analog_sections (sampling_interval c.rate) (constants_of j.lamp)) ≡ length lamp.sections = AllZip-length IsDigital (analog_sections (sampling_interval c.rate) (constants_of j.lamp)) lamp.sections lamp.design in
    let gains : length (gains_in ss) ≡ length ss = length-map ss (λ (s : CertifiedSection). s.gain) in
    let some : 0 < length (gains_in ss) = omega (arith, sections, AllZip-length IsCertifiedSection lamp.sections ss lamp.accepted, gains) in
    let whole = whole_exists (gains_in ss) some lamp.bounded.fits lamp.bounded.bound in
    let design = filter_design j.lamp c.rate ss whole.0 lamp whole.1 in (
      whole.0,
      record { numbers = whole.1.numbers; design = subst (λ (f : FilterNumbers). IsDesign (sampling_interval c.rate) (constants_of j.lamp) f.coefs) whole.1.numbers design },
    )

result_of : (j : Job) (c : Config) (ss : List CertifiedSection) (rs : List DataRecord) (channel : ℕ) → AreInSets j → IsMatch j c → IsCertifiedLamp j.lamp c.rate ss → length rs ≡ c.endsamp → CanBeMeasured c channel
    → (r : PhaseResult) × IsResultOf j c (bound_of ss) rs channel r
result_of j c ss rs channel sets is lamp count can =
    let conditions = conditions_in j c (bound_of ss) in
    let recorded = recorded_voltages can.0 channel rs in
    let long : length recorded ≡ c.endsamp = voltages_length can.0 channel rs ∙ count in
    let sensible = conditions_sensible j c (bound_of ss) sets is in
    let found = result_exists conditions recorded sensible (subst (AreEnough conditions) (sym long) (job_is_enough j c (bound_of ss) is)) in
    let filter = filter_is j c ss lamp in (
      found.0,
      record {
        analog = can.0;
        is = can.1;
        keeps = result_keeps conditions filter.0 recorded found.0 sensible.nominal filter.1 found.1;
        widths = widths_kept conditions filter.0 recorded found.0 sensible.nominal filter.1 found.1;
      },
    )

-- one for each channel
all_results : {A : Type 0} (R : ℕ → A → Type 0) (channels : List ℕ) → ((i : ℕ) → i < length channels → (r : A) × R (slice_index_or channels i 0) r) → (results : List A) × AllZip R channels results
all_results R [] each = ([], tt)
all_results R (channel ∷ channels) each =
    let first = each 0 (omega arith) in
    let rest = all_results R channels (λ i less. each (suc i) (omega (arith, less))) in
    (first.0 ∷ rest.0, (first.1, rest.1))

results_exist : (j : Job) (c : Config) (ss : List CertifiedSection) (rs : List DataRecord) → AreInSets j → IsMatch j c → IsCertifiedLamp j.lamp c.rate ss → length rs ≡ c.endsamp
    → (results : List PhaseResult) × AreResults j c (bound_of ss) rs results
results_exist j c ss rs sets is lamp count =
    all_results (IsResultOf j c (bound_of ss) rs) j.channels (λ i less. result_of j c ss rs (slice_index_or j.channels i 0) sets is lamp count (is.channels i 0 less))

-- ---- the outcome

phases_due : (j : Job) (c : Config) (ss : List CertifiedSection) (bytes : List ℕ) → AreInSets j → IsMatch j c → IsCertifiedLamp j.lamp c.rate ss → HasOutcome (IsDueForPhases j c (bound_of ss) bytes)
phases_due j c ss bytes sets is lamp =
    elim (accepted_or_first_fault (job_layout j c) bytes) [
      | inl accepted ↦
          let rs = accepted.0 in
          elim (range_cases j c rs is) [
            | inl within ↦
                let found = results_exist j c ss rs sets is lamp accepted.1.file.count in
                (reported_outcome j c found.0, reported rs found.0 accepted.1 within found.1 refl)
            | inr over ↦ (refusal (range_line (over.0 + 1) over.1), over_range rs over.0 over.1 accepted.1.file.first accepted.1.present over.2 refl)
          ]
      | inr out ↦
          let rs = out.3.0 in
          let fault = out.3.2 in
          elim (range_cases j c rs is) [
            | inl within ↦ (refusal (data_line (length rs + 1) out.1 (record_kind out.2)), data_fault rs out.1 out.2 fault within refl)
            | inr over ↦ (refusal (range_line (over.0 + 1) over.1), over_range rs over.0 over.1 fault.first fault.present over.2 refl)
          ]
    ]

job_due : (j : Job) (c : Config) (bytes : List ℕ) → AreInSets j → HasOutcome (IsDueForJob j c bytes)
job_due j c bytes sets =
    elim (match_cases j c sets) [
      | inr fails ↦ (refusal (match_line fails.0), no_match fails.0 fails.1 refl)
      | inl is ↦ elim (certified_cases j.lamp c.rate) [
        | inl lamp ↦
            let due = phases_due j c lamp.0 bytes sets is lamp.1 in
            (due.0, certified lamp.0 is lamp.1 due.1)
        | inr fails ↦ (refusal (lamp_line (lamp_fault_number fails.0)), no_filter fails.0 is fails.1 refl)
      ]
    ]

pub report_due : (job conf bytes : List ℕ) → ((c : Config) × IsConfiguration conf c) ⊎ ((line : List ℕ) × IsConfigurationFault conf line) → HasOutcome (IsDueForReport job conf bytes)
report_due job conf bytes configuration =
    elim (job_cases job) [
      | inr out ↦ (refusal (job_line out.0 (job_kind_number out.1)), no_job (job_line out.0 (job_kind_number out.1)) (out.0, out.1, out.2, refl) refl)
      | inl found ↦ elim configuration [
        | inr out ↦ (refusal out.0, no_configuration found.0 out.0 found.1 out.1 refl)
        | inl is ↦
            let due = job_due found.0 is.0 bytes (in_sets found.1.members found.0 found.1.job) in
            (due.0, read found.0 is.0 found.1 is.1 due.1)
      ]
    ]

-- ---- the promise speaks of some run

run_of : (words : List (List ℕ)) (files : Files) (m : ReportedRecording) (channel : ℕ) → AreAcceptedForReport words files m → CanBeMeasured m.configuration channel → (q : RunQuantities) × AreOfRun m channel q
run_of words files m channel h can =
    let conditions = conditions_in m.job m.configuration (bound_of m.sections) in
    let recorded = recorded_voltages can.0 channel m.records in
    let long : length recorded ≡ m.configuration.endsamp = voltages_length can.0 channel m.records ∙ h.data_file.file.count in
    let sensible = conditions_sensible m.job m.configuration (bound_of m.sections) (in_sets h.job_file.members m.job h.job_file.job) h.matches in
    let found = own_run conditions recorded sensible (subst (AreEnough conditions) (sym long) (job_is_enough m.job m.configuration (bound_of m.sections) h.matches)) in
    (found.1, record { analog = can.0; is = can.1; run = found.0; admitted = found.2; quantities = found.3 })

pub some_runs : (words : List (List ℕ)) (files : Files) (m : ReportedRecording) → AreAcceptedForReport words files m → (qs : List RunQuantities) × AreOfRuns m qs
some_runs words files m h = all_results (AreOfRun m) m.job.channels (λ i less. run_of words files m (slice_index_or m.job.channels i 0) h (h.matches.channels i 0 less))
