-- From the phases of a report to what is due.
use Rattle.std.proofs.Common.{◌≡◌, ◌≢◌, ℕ, ◌+◌, ◌-◌, ◌*◌, ◌/◌, ◌<◌, ◌≤◌, min, List, [], ◌∷◌, ◌++◌, length, length-append, map, Option, Some, None, Result, Ok, Err, IfOk, pos, refl, sym, ap, ◌∙◌, subst, arith, string_bytes}
use Rattle.std.specs.Prelude.{slice_index_or}
use Rattle.std.specs.List.{All, AllZip}
use Rattle.std.proofs.Math.Nat.{div-add-mod', mul-le-mul_right}
use Rattle.std.proofs.lemmas.List.{length-map}
use Rattle.flk_exact.proofs.ListLemmas.{All-beside}
use Rattle.flk_num.specs.Rate.{sampling_interval}
use Rattle.flk_num.specs.declared.lamp.Lamp.{Lamp}
use Rattle.flk_num.specs.declared.rate.Rate.{Rate}
use Rattle.flk_cert.specs.declared.coefs.Coefs.{Coefs}
use Rattle.flk_cert.specs.declared.gain.Gain.{Gain}
use Rattle.flk_cert.specs.Gain.{coefs_of}
use Rattle.flk_design.specs.Lamp.{constants_of}
use Rattle.flk_design.specs.Design.{IsDesign}
use Rattle.flk_section.specs.declared.whole.Whole.{Whole}
use Rattle.flk_section.specs.Whole.{gains_of, numbers_of, IsWholeOf}
use Rattle.flk_scale.specs.declared.fault.MatchFault.{MatchFault}
use Rattle.flk_cfg.specs.Valid.{IsValid}
use Rattle.flk_cfg.specs.declared.config.Config.{Config}
use Rattle.flk_job.specs.Job.{AreInSets}
use Rattle.flk_job.specs.Matching.{IsMatch, IsMatchFault}
use Rattle.flk_job.specs.declared.job.Job.{Job}
use Rattle.flk_job.specs.Times.{run_in_samples, interval_samples}
use Rattle.flk_dat.specs.Kinds.{data_kind_number as kind_number}
use Rattle.flk_dat.specs.Records.{DataRecord, ArePresent}
use Rattle.flk_dat.specs.DataFile.{AreFirst}
use Rattle.flk_dat.specs.declared.kind.DatFault.{DatFault}
use Rattle.flk_section.specs.Filter.{FilterNumbers}
use Rattle.flk_result.specs.Conditions.{Conditions, AreEnough}
use Rattle.flk_result.specs.declared.result.PhaseResult.{PhaseResult}
use Rattle.flk_report.specs.Report.{interval_count}
use Rattle.flk_phase.specs.Phase.{conditions_of, channel_of, column_of as column, Stands}
use Rattle.flk_phase.specs.declared.phase.Phase.{Phase}
use Rattle.flk_top.specs.Blocks.{Begins, block_of, records_of}
use Rattle.flk_top.specs.Certified.{IsCertifiedSection, gains_in, IsCertifiedLamp, IsRefusedLamp, lamp_fault_number}
use Rattle.flk_top.specs.Faults.{match_line, lamp_line, data_line, range_line}
use Rattle.flk_io.specs.Told.{ShelfTold}
use Rattle.flk_top.specs.Replies.{outcome_of, IsHonest}
use Rattle.flk_top.specs.ReportDue.{conditions_in, AreResults, reported_outcome, job_layout, IsDueForPhases, data_fault, over_range, reported, IsDueForJob, no_match, no_filter, certified}
use Rattle.flk_top.specs.Told.{MayHold}
use Rattle.flk_top.specs.Working.{IsReady, IsEndOf, HaveWorked, CanWork, AreWorked, AreLast}
use Rattle.flk_top.specs.declared.blocks.Blocks.{Blocks}
use Rattle.flk_top.specs.declared.blocks.Progress.{Progress}
use Rattle.flk_top.specs.declared.blocks.Progress.TheVariants.{Full, Ended, Fault}
use Rattle.flk_top.specs.declared.certified.CertifiedSection.{CertifiedSection}
use Rattle.flk_top.specs.declared.certified.LampFault.{LampFault}
use Rattle.flk_top.specs.declared.reply.Reply.{Reply}
use Rattle.flk_top.specs.declared.reply.Status.TheVariants.{Refused, ReadFailed}
use Rattle.flk_top.proofs.AgreeingFiles.{told_or_none, may_be_told}
use Rattle.flk_top.proofs.BlocksLemmas.{HasFilled, filled_last, ends_begin}
use Rattle.flk_top.proofs.DataReplies.{data_line_is}
use Rattle.flk_top.proofs.Outcomes.{is_refusal}

-- ---- enough records

-- the intervals that are judged are within the records
whole_intervals : (records run_in interval : ℕ) → run_in ≤ records → run_in + min 12 ((records - run_in) / interval) * interval ≤ records
whole_intervals records run_in interval within =
    let left = records - run_in in
    let rest = div-add-mod' left interval in
    let few : min 12 (left / interval) ≤ left / interval = omega arith in
    omega (arith, within, rest, mul-le-mul_right interval few)

pub job_is_enough : (j : Job) (c : Config) (filter : FilterNumbers) → IsMatch j c → AreEnough (conditions_in j c filter) c.endsamp
job_is_enough j c filter is =
    whole_intervals c.endsamp (run_in_samples j c.rate) (interval_samples j c.rate) (omega (arith, is.long))

-- ---- the end of the phases

-- each has taken enough
pub all_ready : (j : Job) (c : Config) (filter : FilterNumbers) (phases : List Phase) (rs : List DataRecord) → HaveWorked j c filter phases rs → AreEnough (conditions_in j c filter) (length rs)
    → (i : ℕ) (d : Phase) → i < length phases → IsReady (slice_index_or phases i d)
all_ready j c filter phases rs h enough i d less =
    let p = slice_index_or phases i d in
    let samples = column (channel_of p) rs in
    let count : length samples ≡ length rs = length-map rs (λ (r : DataRecord). slice_index_or r.analog (channel_of p) (pos 0)) in
    (samples, (h.have_columns i d less).stands, subst (λ (k : Conditions). AreEnough k (length samples)) (sym (h.are_phases.each i 0 d less).conditions_are) (subst (AreEnough (conditions_in j c filter)) (sym count) enough))

-- each has the intervals that are judged
pub ends_count : (j : Job) (c : Config) (filter : FilterNumbers) (phases : List Phase) (rs : List DataRecord) (results : List PhaseResult) → HaveWorked j c filter phases rs → AllZip IsEndOf phases results
    → All (λ (r : PhaseResult). r.count ≡ interval_count j c.rate c.endsamp) results
ends_count j c filter phases rs results h ends =
    All-beside Counted IsEndOf (λ (r : PhaseResult). r.count ≡ interval_count j c.rate c.endsamp) count_is phases results
    (λ i d less. ((h.are_phases.each i 0 d less).conditions_are, (h.have_columns i d less).stands)) ends
  where
    Counted : Phase → Type 0
    Counted p = (conditions_of p ≡ conditions_in j c filter) × Stands p (column (channel_of p) rs)

    count_is : (p : Phase) (r : PhaseResult) → Counted p → IsEndOf p r → r.count ≡ interval_count j c.rate c.endsamp
    count_is p r is end = (end.keeps (column (channel_of p) rs) is.1).result.count_is ∙ ap (λ (k : Conditions). k.count) is.0

-- ---- what is due

-- Unless it tells of a failed read, the reply is due for some bytes, which are those told where they are told.
abbrev pub IsPhasesReply : Job → Config → FilterNumbers → Option (List ℕ) → Reply → Type 0
IsPhasesReply j c filter left r = r.status ≢ ReadFailed → (bytes : List ℕ) × MayHold left bytes × IsDueForPhases j c filter bytes (outcome_of r)

-- the same of the reply to the last block, for the bytes of the data
abbrev pub IsLastReply : Progress → Job → Config → List Phase → List DataRecord → Reply → Type 0
IsLastReply p j c phases more r = (filter : FilterNumbers) (bytes : List ℕ) → AreLast p j c filter phases more bytes → IsDueForPhases j c filter bytes (outcome_of r)

-- the reply is the line of a sample over range
abbrev pub IsRangeReply : (number channel : ℕ) → Reply → Type 0
IsRangeReply number channel x = (x.status ≡ Refused) × (string_bytes x.text ≡ range_line number channel)

over_due : (j : Job) (c : Config) (filter : FilterNumbers) (old new : List Phase) (rs more : List DataRecord) (bytes : List ℕ) (number turn : ℕ) (x : Reply) → HaveWorked j c filter old rs
    → AreWorked old new more (Some (number, turn)) → AreFirst (job_layout j c) bytes (rs ++ more) → ArePresent (job_layout j c) (rs ++ more) → IsRangeReply number (slice_index_or j.channels turn 0) x
    → IsDueForPhases j c filter bytes (outcome_of x)
over_due j c filter old new rs more bytes number turn x h worked first present reply =
    let told = worked j c filter rs h in
    let channel = slice_index_or j.channels turn 0 in
    let place = number - 1 in
    let same : number ≡ place + 1 = omega (arith, told.some) in
    over_range (rs ++ more) place channel first present (told.first 0) (is_refusal x (range_line (place + 1) channel) reply.0 (reply.1 ∙ ap (λ (n : ℕ). range_line n channel) same))

pub phases_over : {E : Type 0} (j : Job) (c : Config) (filter : FilterNumbers) (left : Option (List ℕ)) (old new : List Phase) (rs more : List DataRecord) (number turn : ℕ) (r : Result Reply E)
    → HaveWorked j c filter old rs → AreWorked old new more (Some (number, turn)) → Begins (job_layout j c) [] (rs ++ more) left → IfOk r (IsRangeReply number (slice_index_or j.channels turn 0))
    → IfOk r (IsPhasesReply j c filter left)
phases_over j c filter left old new rs more number turn (Ok x) h worked begins reply = λ fine.
    (begins.0, begins.1, over_due j c filter old new rs more begins.0 number turn x h worked begins.2 begins.3 reply)
phases_over j c filter left old new rs more number turn (Err e) h worked begins reply = tt

pub last_over : {E : Type 0} (p : Progress) (j : Job) (c : Config) (old new : List Phase) (more : List DataRecord) (number turn : ℕ) (r : Result Reply E) → AreWorked old new more (Some (number, turn))
    → IfOk r (IsRangeReply number (slice_index_or j.channels turn 0)) → IfOk r (IsLastReply p j c old more)
last_over p j c old new more number turn (Ok x) worked reply = λ filter bytes last.
    let begin = ends_begin p (job_layout j c) bytes (last.records ++ more) last.ends in
    over_due j c filter old new last.records more bytes number turn x last.worked worked begin.0 begin.1 reply
last_over p j c old new more number turn (Err e) worked reply = tt

pub last_fault : {E : Type 0} (f : DatFault) (j : Job) (c : Config) (old new : List Phase) (more : List DataRecord) (r : Result Reply E) → AreWorked old new more None
    → IfOk r (λ x. (x.status ≡ Refused) × (string_bytes x.text ≡ data_line f.row f.field f.kind)) → IfOk r (IsLastReply (Fault f) j c old more)
last_fault f j c old new more (Ok x) worked reply = λ filter bytes last.
    let fault = last.ends in
    let rs = last.records ++ more in
    let known = worked j c filter last.records last.worked in
    data_fault rs f.field fault.kind fault.here known.within
    (is_refusal x (data_line (length rs + 1) f.field (kind_number fault.kind)) reply.0 (reply.1 ∙ data_line_is f.row (length rs + 1) f.field f.kind (kind_number fault.kind) fault.row fault.number))
last_fault f j c old new more (Err e) worked reply = tt

pub last_reported : {E : Type 0} (j : Job) (c : Config) (old new : List Phase) (more : List DataRecord) (r : Result Reply E) → AreWorked old new more None
    → IfOk r (λ x. (g : FilterNumbers) (ss : List DataRecord) → HaveWorked j c g new ss → (results : List PhaseResult) × AreResults j c g ss results × (outcome_of x ≡ reported_outcome j c results))
    → IfOk r (IsLastReply Ended j c old more)
last_reported j c old new more (Ok x) worked told = λ filter bytes last.
    let rs = last.records ++ more in
    let known = worked j c filter last.records last.worked in
    let found = told filter rs known in
    reported rs found.0 last.ends known.within found.1 found.2
last_reported j c old new more (Err e) worked told = tt

-- the phases have then taken enough
pub last_enough : (j : Job) (c : Config) (filter : FilterNumbers) (old new : List Phase) (more : List DataRecord) (bytes : List ℕ) → IsMatch j c → AreWorked old new more None
    → AreLast Ended j c filter old more bytes → (g : FilterNumbers) × (rs : List DataRecord) × HaveWorked j c g new rs × AreEnough (conditions_in j c g) (length rs)
last_enough j c filter old new more bytes is worked last = (
  filter,
  last.records ++ more,
  worked j c filter last.records last.worked,
  subst (AreEnough (conditions_in j c filter)) (sym last.ends.file.count) (job_is_enough j c filter is),
)

pub phases_last : {E : Type 0} (p : Progress) (j : Job) (c : Config) (filter : FilterNumbers) (left : Option (List ℕ)) (phases : List Phase) (more : List DataRecord) (r : Result Reply E)
    → (bytes : List ℕ) × MayHold left bytes × AreLast p j c filter phases more bytes → IfOk r (IsLastReply p j c phases more) → IfOk r (IsPhasesReply j c filter left)
phases_last p j c filter left phases more (Ok x) last told = λ fine. (last.0, last.1, told filter last.0 last.2)
phases_last p j c filter left phases more (Err e) last told = tt

-- a reply that is no failed read says nothing of reads
pub composed_honest : {E : Type 0} (old new : ShelfTold) (r : Result Reply E) → IfOk r (λ x. x.status ≢ ReadFailed) → new.read_faults ≡ old.read_faults → IfOk r (IsHonest old new)
composed_honest old new (Ok x) fine same = record {
  text = λ failed. absurd (fine failed);
  rose = λ failed. absurd (fine failed);
  quiet = λ other. same;
}
composed_honest old new (Err e) fine same = tt

-- ---- a block that was filled

-- of the data of a job: what was read so far, and what is known of the phases
abbrev pub HasFilledPhases : Progress → Job → Config → FilterNumbers → Blocks → List Phase → (left now : Option (List ℕ)) → Type 0
HasFilledPhases p j c filter b phases left now = HasFilled p (job_layout j c) b (HaveWorked j c filter phases) left now

pub filled_can_work : (p : Progress) (j : Job) (c : Config) (filter : FilterNumbers) (b : Blocks) (phases : List Phase) (left now : Option (List ℕ)) → IsValid c → AreInSets j
    → (block_of b).analog ≡ length c.analog → HasFilledPhases p j c filter b phases left now → CanWork phases (block_of b)
filled_can_work p j c filter b phases left now valid sets columns h = record {
  job = j;
  configuration = c;
  filter = filter;
  records = h.records;
  worked = h.known;
  some = omega (arith, sets.channels.some);
  columns = columns;
  few = omega (arith, h.begins.2.within, valid.endsamp_most, length-append h.records (records_of b));
}

pub filled_are_last : (p : Progress) (j : Job) (c : Config) (filter : FilterNumbers) (b : Blocks) (phases : List Phase) (left now : Option (List ℕ)) → HasFilledPhases p j c filter b phases left now → p ≢ Full
    → (bytes : List ℕ) × MayHold left bytes × AreLast p j c filter phases (records_of b) bytes
filled_are_last p j c filter b phases left now h last =
    let ends = filled_last p (job_layout j c) b (HaveWorked j c filter phases) left now h last in
    (ends.0, ends.1, record { records = h.records; worked = h.known; ends = ends.2 })

-- ---- a job and a configuration that are accepted

-- the coefficients in the bound of a certified lamp are those of its design
accepted_coefs : (ks : List Coefs) (ss : List CertifiedSection) → AllZip IsCertifiedSection ks ss → map coefs_of (gains_in ss) ≡ ks
accepted_coefs [] [] h = refl
accepted_coefs [] (s ∷ ss) h = absurd h
accepted_coefs (k ∷ ks) [] h = absurd h
accepted_coefs (k ∷ ks) (s ∷ ss) h =
    ap (λ (x : Coefs). x ∷ map coefs_of (gains_in ss)) h.0.certificate.gain.coefs ∙ ap (λ (xs : List Coefs). k ∷ xs) (accepted_coefs ks ss h.1)

pub filter_design : (lamp : Lamp) (rate : Rate) (ss : List CertifiedSection) (w : Whole) → IsCertifiedLamp lamp rate ss → IsWholeOf (gains_in ss) w
    → IsDesign (sampling_interval rate) (constants_of lamp) (numbers_of w).coefs
filter_design lamp rate ss w h is =
    let same : map coefs_of (gains_of w) ≡ h.sections = ap (λ (gs : List Gain). map coefs_of gs) is.holds ∙ accepted_coefs h.sections ss h.accepted in
    subst (IsDesign (sampling_interval rate) (constants_of lamp)) (sym same) h.design

-- Unless it tells of a failed read, the reply is due for some bytes, which are those told where they are told.
abbrev pub IsJobReply : Job → Config → Option (List ℕ) → Reply → Type 0
IsJobReply j c left r = r.status ≢ ReadFailed → (bytes : List ℕ) × MayHold left bytes × IsDueForJob j c bytes (outcome_of r)

pub job_unmatched : {E : Type 0} (j : Job) (c : Config) (left : Option (List ℕ)) (fault : MatchFault) (r : Result Reply E) → IsMatchFault j c fault
    → IfOk r (λ x. (x.status ≡ Refused) × (string_bytes x.text ≡ match_line fault)) → IfOk r (IsJobReply j c left)
job_unmatched j c left fault (Ok x) failed reply = λ fine. (told_or_none left, may_be_told left, no_match fault failed (is_refusal x (match_line fault) reply.0 reply.1))
job_unmatched j c left fault (Err e) failed reply = tt

pub job_uncertified : {E : Type 0} (j : Job) (c : Config) (left : Option (List ℕ)) (fault : LampFault) (r : Result Reply E) → IsMatch j c → IsRefusedLamp j.lamp c.rate fault
    → IfOk r (λ x. (x.status ≡ Refused) × (string_bytes x.text ≡ lamp_line (lamp_fault_number fault))) → IfOk r (IsJobReply j c left)
job_uncertified j c left fault (Ok x) is failed reply = λ fine. (
  told_or_none left,
  may_be_told left,
  no_filter fault is failed (is_refusal x (lamp_line (lamp_fault_number fault)) reply.0 reply.1),
)
job_uncertified j c left fault (Err e) is failed reply = tt

pub job_worked : {E : Type 0} (j : Job) (c : Config) (left : Option (List ℕ)) (ss : List CertifiedSection) (w : Whole) (r : Result Reply E) → IsMatch j c → IsCertifiedLamp j.lamp c.rate ss
    → IsWholeOf (gains_in ss) w → IfOk r (IsPhasesReply j c (numbers_of w) left) → IfOk r (IsJobReply j c left)
job_worked j c left ss w (Ok x) is lamp whole reply = λ fine.
    let out = reply fine in
    (out.0, out.1, certified ss is lamp (subst (λ (f : FilterNumbers). IsDueForPhases j c f out.0 (outcome_of x)) whole.numbers out.2))
job_worked j c left ss w (Err e) is lamp whole reply = tt
