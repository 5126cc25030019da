-- Files that are accepted for a report have one answer, which tells the results of their channels.
use Rattle.std.proofs.Common.{◌≡◌, ◌↔◌, ℕ, List, map, ◌*◌, ap, subst, arith, ℤ}
use Rattle.std.specs.List.{AllZip}
use Rattle.std.proofs.lemmas.Int.{ints}
use Rattle.flk_exact.specs.Fraction.{Fraction}
use Rattle.flk_exact.specs.Rounding.{IsBetween}
use Rattle.flk_exact.specs.Run.{IsAdmittedRun}
use Rattle.flk_exact.proofs.ListLemmas.{AllZip-joined}
use Rattle.flk_cfg.specs.declared.config.Analog.{Analog}
use Rattle.flk_scale.proofs.MatchingLemmas.{one_channel}
use Rattle.flk_job.proofs.MatchLemmas.{match_has_no_fault}
use Rattle.flk_dat.specs.Records.{DataRecord}
use Rattle.flk_dat.specs.DataFile.{IsAccepted}
use Rattle.flk_dat.proofs.FileLaws.{file_once, accepted_or_fault_after}
use Rattle.flk_section.specs.Filter.{FilterNumbers}
use Rattle.flk_result.specs.PhaseResult.{AreHeld}
use Rattle.flk_result.specs.RunQuantities.{RunQuantities, AreQuantities}
use Rattle.flk_result.specs.declared.result.PhaseResult.{PhaseResult}
use Rattle.flk_report.specs.Limits.{JudgedLine}
use Rattle.flk_report.specs.Verdict.{IsVerdict, IsVerdictOn, line_verdict, all_judged_lines}
use Rattle.flk_report.specs.declared.verdict.Verdict.{Verdict}
use Rattle.flk_report.specs.declared.verdict.Verdict.TheVariants.{Pass, Fail, Undecided}
use Rattle.flk_report.proofs.VerdictLemmas.{verdict_is, verdict_unique, overall_is}
use Rattle.flk_report.proofs.HeldLemmas.{every_run}
use Rattle.flk_top.specs.Answer.{IsDueFor, IsDue, usage, asked}
use Rattle.flk_top.specs.Command.{inputs_of, outputs_of, job_name, report_configuration_name, report_data_name}
use Rattle.flk_top.specs.Headline.{ReportedRecording, AreAcceptedForReport, AreOfRun, AreOfRuns, TellsVerdict, TellsReport}
use Rattle.flk_top.specs.Matching.{recorded_voltages}
use Rattle.flk_top.specs.Outcome.{Outcome}
use Rattle.flk_top.specs.ReportDue.{conditions_in, AreWithinRange, IsResultOf, AreResults, reported_outcome, job_layout}
use Rattle.flk_top.specs.ReportDue.{IsDueForPhases, data_fault, over_range, reported, IsDueForJob, no_match, no_filter, certified, IsDueForReport, no_job, no_configuration, read}
use Rattle.flk_top.specs.Tables.{bound_of}
use Rattle.flk_top.specs.Told.{Files}
use Rattle.flk_top.specs.declared.command.Command.{Command}
use Rattle.flk_top.specs.declared.command.Command.TheVariants.{Report}
use Rattle.flk_top.proofs.Headline.{configuration_or_fault}
use Rattle.flk_top.proofs.LampLemmas.{certified_is_not_refused}
use Rattle.flk_top.proofs.OneCommand.{one_command}
use Rattle.flk_top.proofs.ReportOnce.{job_or_fault, one_bound, over_or_accepted, same_due}

-- ---- a judged line

verdict_on : (v : Verdict) (l : JudgedLine) (z : ℤ) → IsVerdict v l.interval l.limit → IsBetween l.interval.lo l.interval.hi z → IsVerdictOn v l.limit z
verdict_on Pass l z h within =
    let at_most = within.below in
    omega (arith, ints, h, at_most)
verdict_on Fail l z h within =
    let at_least = within.above in
    omega (arith, ints, h, at_least)
verdict_on Undecided l z h within = tt

-- the verdict is given exactly where it is the interval's
given_exactly : (v : Verdict) (l : JudgedLine) → (line_verdict l ≡ v) ↔ IsVerdict v l.interval l.limit
given_exactly v l = (
  λ same. subst (λ (x : Verdict). IsVerdict x l.interval l.limit) same (verdict_is l.interval l.limit),
  λ is. verdict_unique (line_verdict l) v l.interval l.limit (verdict_is l.interval l.limit) is,
)

line_tells : (l : JudgedLine) → TellsVerdict l
line_tells l = record {
  every = λ z within. verdict_on (line_verdict l) l z (verdict_is l.interval l.limit) within;
  pass = given_exactly Pass l;
  fail = given_exactly Fail l;
  undecided = given_exactly Undecided l;
}

-- ---- every exact run

run_held : (m : ReportedRecording) (channel : ℕ) (r : PhaseResult) (q : RunQuantities) → IsResultOf m.job m.configuration (bound_of m.sections) m.records channel r → AreOfRun m channel q → AreHeld r q
run_held m channel r q h k =
    let same = one_channel m.configuration channel k.analog h.analog k.is h.is in
    let nominal = m.job.supply.nominal_mv in
    let voltages : Analog → List Fraction = λ a. recorded_voltages a channel m.records in
    h.keeps.holds k.run q
    (subst (λ (a : Analog). IsAdmittedRun (1000 * nominal) m.job.supply.uncertainty_uv (voltages a) k.run) same k.admitted)
    (subst (λ (a : Analog). AreQuantities (conditions_in m.job m.configuration (bound_of m.sections)) (voltages a) k.run q) same k.quantities)

runs_held : (m : ReportedRecording) (results : List PhaseResult) (qs : List RunQuantities) → AreResults m.job m.configuration (bound_of m.sections) m.records results → AreOfRuns m qs → AllZip AreHeld results qs
runs_held m results qs h k = AllZip-joined (IsResultOf m.job m.configuration (bound_of m.sections) m.records) (AreOfRun m) AreHeld (run_held m) m.job.channels results qs h k

-- ---- the answer

reported_told : (m : ReportedRecording) (o : Outcome) (results : List PhaseResult) → AreResults m.job m.configuration (bound_of m.sections) m.records results → o ≡ reported_outcome m.job m.configuration results
    → TellsReport m o.status o.text
reported_told m o results are is = record {
  results = results;
  are_results = are;
  holds = λ qs runs. runs_held m results qs are runs;
  lines = λ l among. line_tells l;
  every = λ qs runs. every_run m.job results qs (runs_held m results qs are runs);
  overall = overall_is (all_judged_lines m.job results);
  status_is = ap (λ (p : Outcome). p.status) is;
  text_is = ap (λ (p : Outcome). p.text) is;
}

phases_told : (m : ReportedRecording) (bytes : List ℕ) (o : Outcome) → IsAccepted (job_layout m.job m.configuration) bytes m.records → AreWithinRange m.job m.configuration m.records
    → IsDueForPhases m.job m.configuration (bound_of m.sections) bytes o → TellsReport m o.status o.text
phases_told m bytes o is within (data_fault rs field kind fault fine out) =
    absurd (accepted_or_fault_after (job_layout m.job m.configuration) bytes m.records rs field kind is fault)
phases_told m bytes o is within (over_range rs place channel first present over out) =
    absurd (over_or_accepted m.job m.configuration (job_layout m.job m.configuration) bytes rs m.records place channel first is over within)
phases_told m bytes o is within (reported rs results that fine are out) =
    let same = file_once (job_layout m.job m.configuration) bytes rs m.records that.file is.file in
    reported_told m o results (subst (λ (xs : List DataRecord). AreResults m.job m.configuration (bound_of m.sections) xs results) same are) out

job_told : (words : List (List ℕ)) (files : Files) (m : ReportedRecording) (o : Outcome) → AreAcceptedForReport words files m → IsDueForJob m.job m.configuration (files (report_data_name words)) o
    → TellsReport m o.status o.text
job_told words files m o h (no_match fault failed out) = absurd (match_has_no_fault m.job m.configuration fault h.matches failed)
job_told words files m o h (no_filter fault is refused out) = absurd (certified_is_not_refused m.job.lamp m.configuration.rate m.sections fault h.certified refused)
job_told words files m o h (certified ss is lamp due) =
    let bytes = files (report_data_name words) in
    let same = one_bound m.job m.configuration ss m.sections lamp h.certified in
    phases_told m bytes o h.data_file h.within (subst (λ (f : FilterNumbers). IsDueForPhases m.job m.configuration f bytes o) same due)

report_told : (words : List (List ℕ)) (files : Files) (m : ReportedRecording) (o : Outcome) → AreAcceptedForReport words files m
    → IsDueForReport (files (job_name words)) (files (report_configuration_name words)) (files (report_data_name words)) o → TellsReport m o.status o.text
report_told words files m o h (no_job line fault out) = absurd (job_or_fault (files (job_name words)) line m.job h.job_file fault)
report_told words files m o h (no_configuration j line is fault out) = absurd (configuration_or_fault (files (report_configuration_name words)) line m.configuration h.configuration fault)
report_told words files m o h (read j c is that due) =
    job_told words files m o h
    (same_due (files (job_name words)) (files (report_configuration_name words)) (files (report_data_name words)) j m.job c m.configuration o is h.job_file that h.configuration due)

pub tells_report : (words : List (List ℕ)) (files : Files) (m : ReportedRecording) (o : Outcome) → AreAcceptedForReport words files m → IsDue words files o → TellsReport m o.status o.text
tells_report words files m o h (usage none refused) = absurd (none (Report m.command) h.asks)
tells_report words files m o h (asked q asks due) =
    let P : Command → Type 0 = λ p. IsDueFor p (outputs_of p words) (map files (inputs_of p words)) o in
    report_told words files m o h (subst P (one_command words q (Report m.command) asks h.asks) due)
