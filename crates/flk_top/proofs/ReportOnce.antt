-- A report is one: its files decide the job, the configuration, the filter, the first fault, and the results.
use Rattle.std.proofs.Common.{◌≡◌, ℕ, ◌+◌, ◌<◌, List, [], ◌∷◌, length, refl, sym, ap, ◌∙◌, subst, arith, ⊎_elim}
use Rattle.std.specs.Prelude.{slice_index_or}
use Rattle.std.proofs.lemmas.Bool.{cases_lt}
use Rattle.flk_exact.proofs.ListLemmas.{AllZip-unique}
use Rattle.flk_cert.specs.Gain.{GainNumbers}
use Rattle.flk_cfg.specs.declared.config.Analog.{Analog}
use Rattle.flk_cfg.specs.declared.config.Config.{Config}
use Rattle.flk_scale.specs.Voltage.{IsOverRange}
use Rattle.flk_scale.proofs.MatchingLemmas.{one_channel}
use Rattle.flk_job.specs.Job.{IsJob}
use Rattle.flk_job.specs.declared.job.Job.{Job}
use Rattle.flk_job.proofs.JobLaws.{one_job, job_has_no_fault, one_first_fault}
use Rattle.flk_job.proofs.MatchLemmas.{one_match_fault, match_has_no_fault}
use Rattle.flk_dat.specs.Records.{DataRecord, Layout, ArePresent}
use Rattle.flk_dat.specs.DataFile.{AreFirst, IsAccepted, IsFaultAfter}
use Rattle.flk_dat.specs.declared.kind.Kind.{Kind}
use Rattle.flk_dat.proofs.FileLaws.{each_once, file_once, accepted_or_fault_after, one_fault_after}
use Rattle.flk_section.specs.Filter.{FilterNumbers}
use Rattle.flk_section.specs.Chain.{filter_numbers}
use Rattle.flk_result.specs.Digits.{IsPhaseResult}
use Rattle.flk_result.specs.declared.result.PhaseResult.{PhaseResult}
use Rattle.flk_result.proofs.SameLemmas.{result_unique}
use Rattle.flk_top.specs.Answer.{IsDueFor}
use Rattle.flk_top.specs.Certified.{IsCertifiedLamp, lamp_fault_number}
use Rattle.flk_top.specs.Configuration.{IsConfiguration}
use Rattle.flk_top.specs.Faults.{match_line, lamp_line, range_line}
use Rattle.flk_top.specs.Matching.{recorded_voltages}
use Rattle.flk_top.specs.Outcome.{Outcome}
use Rattle.flk_top.specs.ReportDue.{conditions_in, IsOverAt, AreWithinRangeBefore, AreWithinRange, IsFirstOverOf, IsResultOf, AreResults, reported_outcome, job_layout}
use Rattle.flk_top.specs.ReportDue.{IsDueForPhases, data_fault, over_range, reported, IsDueForJob, no_match, no_filter, certified, IsJobFault, IsDueForReport, no_job, no_configuration, read}
use Rattle.flk_top.specs.Tables.{bound_of}
use Rattle.flk_top.specs.declared.certified.CertifiedSection.{CertifiedSection}
use Rattle.flk_top.specs.declared.certified.LampFault.{LampFault}
use Rattle.flk_top.specs.declared.command.Command.TheVariants.{Report}
use Rattle.flk_top.specs.declared.command.ReportCommand.{ReportCommand}
use Rattle.flk_top.proofs.Headline.{configuration_or_fault, one_configuration_fault, one_configuration, data_line_same, voltage_of_record, record_there}
use Rattle.flk_top.proofs.LampLemmas.{numbers_alike, lamp_alike, lamp_has_one_reason, certified_is_not_refused}
use Rattle.flk_top.proofs.OneCommand.{same_supply}
use Rattle.flk_top.proofs.Outcomes.{agreed}

-- ---- the job

pub same_job : (bytes : List ℕ) (i j : Job) → IsJob bytes i → IsJob bytes j → i ≡ j
same_job bytes i j h k =
    let same = one_job bytes i j h k in
    let supply = same_supply i.supply j.supply same.nominal same.uncertainty in
    λ n. record { lamp = same.lamp n; supply = supply n; channels = same.channels n; dmax_percent = same.dmax n; run_in_s = same.run_in n; interval_s = same.interval n }

pub job_or_fault : (bytes line : List ℕ) (j : Job) → IsJob bytes j → IsJobFault bytes line → ⊥
job_or_fault bytes line j is fault = job_has_no_fault bytes j fault.0 fault.1 is fault.2

one_job_fault : (bytes xs ys : List ℕ) → IsJobFault bytes xs → IsJobFault bytes ys → xs ≡ ys
one_job_fault bytes xs ys h k =
    let same = one_first_fault bytes h.0 k.0 h.1 k.1 h.2 k.2 in
    h.3 ∙ rw (same.0, same.1) refl ∙ sym k.3

-- ---- the filter

pub one_bound : (j : Job) (c : Config) (ss ts : List CertifiedSection) → IsCertifiedLamp j.lamp c.rate ss → IsCertifiedLamp j.lamp c.rate ts → bound_of ss ≡ bound_of ts
one_bound j c ss ts h k = ap (λ (gs : List GainNumbers). filter_numbers gs) (numbers_alike ss ts (lamp_alike j.lamp c.rate ss ts h k))

-- ---- over range

-- a channel is over range in each list of the first records that has the record
over_kept : (j : Job) (c : Config) (l : Layout) (bytes : List ℕ) (rs ss : List DataRecord) (place channel : ℕ) → AreFirst l bytes rs → AreFirst l bytes ss → IsOverAt j c rs place channel → place < length ss
    → IsOverAt j c ss place channel
over_kept j c l bytes rs ss place channel p q over less = record {
  there = less;
  analog = over.analog;
  is = over.is;
  over = subst (IsOverRange j.supply.nominal_mv) (voltage_of_record over.analog channel rs ss place over.there less (each_once l bytes rs ss p q place over.there less)) over.over;
}

-- the channel is the one at its place in the job
over_at_turn : (j : Job) (c : Config) (rs : List DataRecord) (place channel turn none : ℕ) → slice_index_or j.channels turn none ≡ channel → IsOverAt j c rs place channel → IsOverAt j c rs place (slice_index_or j.channels turn none)
over_at_turn j c rs place channel turn none is over = subst (IsOverAt j c rs place) (sym is) over

-- no list within range so far has it
over_or_before : (j : Job) (c : Config) (l : Layout) (bytes : List ℕ) (rs ss : List DataRecord) (place channel n : ℕ) → AreFirst l bytes rs → AreFirst l bytes ss → IsFirstOverOf j c rs place channel
    → AreWithinRangeBefore j c ss n → place < n → place < length ss → ⊥
over_or_before j c l bytes rs ss place channel n p q first within before less =
    within place first.turn 0 before first.turn_there (over_at_turn j c ss place channel first.turn 0 (first.channel_is 0) (over_kept j c l bytes rs ss place channel p q first.over less))

pub over_or_accepted : (j : Job) (c : Config) (l : Layout) (bytes : List ℕ) (rs ss : List DataRecord) (place channel : ℕ) → AreFirst l bytes rs → IsAccepted l bytes ss → IsFirstOverOf j c rs place channel → AreWithinRange j c ss → ⊥
over_or_accepted j c l bytes rs ss place channel p is first within =
    let less : place < length ss = omega (arith, first.over.there, p.within, is.file.count) in
    over_or_before j c l bytes rs ss place channel (length ss) p is.file.first first within less less

over_or_fault : (j : Job) (c : Config) (l : Layout) (bytes : List ℕ) (rs ss : List DataRecord) (place channel field : ℕ) (kind : Kind) → AreFirst l bytes rs → ArePresent l rs → IsFirstOverOf j c rs place channel
    → IsFaultAfter l bytes ss field kind → AreWithinRange j c ss → ⊥
over_or_fault j c l bytes rs ss place channel field kind p present first fault within =
    ⊎_elim
    (λ less. over_or_before j c l bytes rs ss place channel (length ss) p fault.first first within less less)
    (λ most. record_there l bytes ss rs field kind fault p present (omega (arith, most, first.over.there)))
    (cases_lt place (length ss))

one_place : (j : Job) (c : Config) (l : Layout) (bytes : List ℕ) (rs ss : List DataRecord) (place channel other another : ℕ) → AreFirst l bytes rs → AreFirst l bytes ss
    → IsFirstOverOf j c rs place channel → IsFirstOverOf j c ss other another → place ≡ other
one_place j c l bytes rs ss place channel other another p q h k =
    ⊎_elim
    (λ less. absurd (over_or_before j c l bytes rs ss place channel other p q h k.before less (omega (arith, less, k.over.there))))
    (λ most. ⊎_elim
    (λ less. absurd (over_or_before j c l bytes ss rs other another place q p k h.before less (omega (arith, less, h.over.there))))
    (λ least. omega (arith, most, least))
    (cases_lt other place))
    (cases_lt place other)

-- the turns of the two channels can't differ
no_earlier : (j : Job) (c : Config) (l : Layout) (bytes : List ℕ) (rs ss : List DataRecord) (place channel other another : ℕ) → AreFirst l bytes rs → AreFirst l bytes ss
    → (h : IsFirstOverOf j c rs place channel) (k : IsFirstOverOf j c ss other another) → place ≡ other → h.turn < k.turn → ⊥
no_earlier j c l bytes rs ss place channel other another p q h k same less =
    let there : place < length ss = omega (arith, same, k.over.there) in
    let over = over_at_turn j c ss place channel h.turn 0 (h.channel_is 0) (over_kept j c l bytes rs ss place channel p q h.over there) in
    k.first h.turn 0 less (subst (λ (n : ℕ). IsOverAt j c ss n (slice_index_or j.channels h.turn 0)) same over)

one_over : (j : Job) (c : Config) (l : Layout) (bytes : List ℕ) (rs ss : List DataRecord) (place channel other another : ℕ) → AreFirst l bytes rs → AreFirst l bytes ss
    → IsFirstOverOf j c rs place channel → IsFirstOverOf j c ss other another → range_line (place + 1) channel ≡ range_line (other + 1) another
one_over j c l bytes rs ss place channel other another p q h k =
    let same = one_place j c l bytes rs ss place channel other another p q h k in
    let turn : h.turn ≡ k.turn =
    ⊎_elim
    (λ less. absurd (no_earlier j c l bytes rs ss place channel other another p q h k same less))
    (λ most. ⊎_elim
    (λ less. absurd (no_earlier j c l bytes ss rs other another place channel q p k h (sym same) less))
    (λ least. omega (arith, most, least))
    (cases_lt k.turn h.turn))
    (cases_lt h.turn k.turn) in
    let channels : channel ≡ another = sym (h.channel_is 0) ∙ ap (λ (t : ℕ). slice_index_or j.channels t 0) turn ∙ k.channel_is 0 in
    rw (same, channels) refl

-- ---- the results

one_result : (j : Job) (c : Config) (filter : FilterNumbers) (rs : List DataRecord) (channel : ℕ) (r s : PhaseResult) → IsResultOf j c filter rs channel r → IsResultOf j c filter rs channel s → r ≡ s
one_result j c filter rs channel r s h k =
    let same = one_channel c channel h.analog k.analog h.is k.is in
    result_unique (conditions_in j c filter) (recorded_voltages k.analog channel rs) r s
    (subst (λ (a : Analog). IsPhaseResult (conditions_in j c filter) (recorded_voltages a channel rs) r) same h.keeps.result) k.keeps.result

one_list_of_results : (j : Job) (c : Config) (filter : FilterNumbers) (rs : List DataRecord) (results others : List PhaseResult) → AreResults j c filter rs results → AreResults j c filter rs others → results ≡ others
one_list_of_results j c filter rs results others h k = AllZip-unique (IsResultOf j c filter rs) (one_result j c filter rs) j.channels results others h k

-- ---- one outcome

one_of_phases : (j : Job) (c : Config) (filter : FilterNumbers) (bytes : List ℕ) (o p : Outcome) → IsDueForPhases j c filter bytes o → IsDueForPhases j c filter bytes p → o ≡ p
one_of_phases j c filter bytes o p (data_fault rs field kind fault within out) (data_fault ss place again other fine also) =
    agreed out also (data_line_same rs ss field place kind again (one_fault_after (job_layout j c) bytes rs ss field place kind again fault other))
one_of_phases j c filter bytes o p (data_fault rs field kind fault within out) (over_range ss place channel first present over also) =
    absurd (over_or_fault j c (job_layout j c) bytes ss rs place channel field kind first present over fault within)
one_of_phases j c filter bytes o p (data_fault rs field kind fault within out) (reported ss results is fine are also) =
    absurd (accepted_or_fault_after (job_layout j c) bytes ss rs field kind is fault)
one_of_phases j c filter bytes o p (over_range rs place channel first present over out) (data_fault ss field kind fault within also) =
    absurd (over_or_fault j c (job_layout j c) bytes rs ss place channel field kind first present over fault within)
one_of_phases j c filter bytes o p (over_range rs place channel first present over out) (over_range ss other another front there again also) =
    agreed out also (one_over j c (job_layout j c) bytes rs ss place channel other another first front over again)
one_of_phases j c filter bytes o p (over_range rs place channel first present over out) (reported ss results is within are also) =
    absurd (over_or_accepted j c (job_layout j c) bytes rs ss place channel first is over within)
one_of_phases j c filter bytes o p (reported rs results is within are out) (data_fault ss field kind fault fine also) =
    absurd (accepted_or_fault_after (job_layout j c) bytes rs ss field kind is fault)
one_of_phases j c filter bytes o p (reported rs results is within are out) (over_range ss place channel first present over also) =
    absurd (over_or_accepted j c (job_layout j c) bytes ss rs place channel first is over within)
one_of_phases j c filter bytes o p (reported rs results is within are out) (reported ss others that fine also_are also) =
    let same = file_once (job_layout j c) bytes rs ss is.file that.file in
    let results_same = one_list_of_results j c filter ss results others (subst (λ (xs : List DataRecord). AreResults j c filter xs results) same are) also_are in
    out ∙ ap (reported_outcome j c) results_same ∙ sym also

one_of_job : (j : Job) (c : Config) (bytes : List ℕ) (o p : Outcome) → IsDueForJob j c bytes o → IsDueForJob j c bytes p → o ≡ p
one_of_job j c bytes o p (no_match f failed out) (no_match g other also) = agreed out also (ap match_line (one_match_fault j c f g failed other))
one_of_job j c bytes o p (no_match f failed out) (no_filter g is refused also) = absurd (match_has_no_fault j c f is failed)
one_of_job j c bytes o p (no_match f failed out) (certified ss is lamp due) = absurd (match_has_no_fault j c f is failed)
one_of_job j c bytes o p (no_filter f is refused out) (no_match g failed also) = absurd (match_has_no_fault j c g is failed)
one_of_job j c bytes o p (no_filter f is refused out) (no_filter g that again also) =
    agreed out also (ap (λ (x : LampFault). lamp_line (lamp_fault_number x)) (lamp_has_one_reason j.lamp c.rate f g refused again))
one_of_job j c bytes o p (no_filter f is refused out) (certified ss that lamp due) = absurd (certified_is_not_refused j.lamp c.rate ss f lamp refused)
one_of_job j c bytes o p (certified ss is lamp due) (no_match g failed also) = absurd (match_has_no_fault j c g is failed)
one_of_job j c bytes o p (certified ss is lamp due) (no_filter g that refused also) = absurd (certified_is_not_refused j.lamp c.rate ss g lamp refused)
one_of_job j c bytes o p (certified ss is lamp due) (certified ts that other told) =
    one_of_phases j c (bound_of ts) bytes o p (subst (λ (f : FilterNumbers). IsDueForPhases j c f bytes o) (one_bound j c ss ts lamp other) due) told

-- two readings of the job and of the configuration are one
pub same_due : (job configuration bytes : List ℕ) (i j : Job) (c d : Config) (o : Outcome) → IsJob job i → IsJob job j → IsConfiguration configuration c → IsConfiguration configuration d
    → IsDueForJob i c bytes o → IsDueForJob j d bytes o
same_due job configuration bytes i j c d o h k is that due =
    subst (λ (x : Config). IsDueForJob j x bytes o) (one_configuration configuration c d is that)
    (subst (λ (x : Job). IsDueForJob x c bytes o) (same_job job i j h k) due)

pub one_report : (job configuration bytes : List ℕ) (o p : Outcome) → IsDueForReport job configuration bytes o → IsDueForReport job configuration bytes p → o ≡ p
one_report job conf bytes o p (no_job line fault out) (no_job text other also) = agreed out also (one_job_fault job line text fault other)
one_report job conf bytes o p (no_job line fault out) (no_configuration j text is other also) = absurd (job_or_fault job line j is fault)
one_report job conf bytes o p (no_job line fault out) (read j c is that due) = absurd (job_or_fault job line j is fault)
one_report job conf bytes o p (no_configuration j line is fault out) (no_job text other also) = absurd (job_or_fault job text j is other)
one_report job conf bytes o p (no_configuration j line is fault out) (no_configuration i text that other also) = agreed out also (one_configuration_fault conf line text fault other)
one_report job conf bytes o p (no_configuration j line is fault out) (read i c that there due) = absurd (configuration_or_fault conf line c there fault)
one_report job conf bytes o p (read j c is that due) (no_job text other also) = absurd (job_or_fault job text j is other)
one_report job conf bytes o p (read j c is that due) (no_configuration i text there other also) = absurd (configuration_or_fault conf text c that other)
one_report job conf bytes o p (read j c is that due) (read i d there again told) = one_of_job i d bytes o p (same_due job conf bytes j i c d o is there that again due) told

-- ---- the workers

pub workers_alike : (a b : ReportCommand) (outputs contents : List (List ℕ)) (o : Outcome) → IsDueFor (Report a) outputs contents o → IsDueFor (Report b) outputs contents o
workers_alike a b (name ∷ names) contents o h = h
workers_alike a b [] [] o h = h
workers_alike a b [] (x ∷ []) o h = h
workers_alike a b [] (x ∷ y ∷ []) o h = h
workers_alike a b [] (x ∷ y ∷ z ∷ []) o h = h
workers_alike a b [] (x ∷ y ∷ z ∷ w ∷ more) o h = h
