use Rattle.std.proofs.Common.{rules, sym, ap, ◌∙◌, ◌≡◌, List, subst, string_bytes}
use Rattle.std.specs.List.{AllZip}
use Rattle.flk_exact.proofs.ListLemmas.{AllZip-length}
use Rattle.flk_result.specs.declared.result.PhaseResult.{PhaseResult}
use Rattle.flk_report.specs.Report.{report_text}
use Rattle.flk_report.specs.Verdict.{overall_of}
use Rattle.flk_top.specs.ReportDue.{verdict_status}
use Rattle.flk_top.specs.Status.{status_number}
use Rattle.flk_top.specs.Working.{IsEndOf}
use Rattle.flk_top.proofs.Outcomes.{same_outcome}
use Rattle.flk_top.proofs.PhasesLemmas.{results_are}
use Rattle.flk_top.proofs.ReportReplies.{all_ready, ends_count}
use Rattle.flk_top.proofs.report.report_done.Goals as goal

pub results_of-requires : goal.results_of-requires
results_of-requires c =
    let w = c.requires.worked in
    all_ready c.args.job.now c.args.config.now w.0 c.args.phases.now w.1 w.2 w.3

pub report_text-requires-clause-count : goal.report_text-requires-clause-count
report_text-requires-clause-count c =
    let ends = subst (AllZip IsEndOf c.args.phases.now) (sym c.deref.ensures.value) c.in_ok-results.ensures in
    sym (AllZip-length IsEndOf c.args.phases.now c.deref.result.now ends) ∙ c.requires.worked.2.are_phases.count

pub report_text-requires-clause-intervals : goal.report_text-requires-clause-intervals
report_text-requires-clause-intervals c =
    let w = c.requires.worked in
    ends_count c.args.job.now c.args.config.now w.0 c.args.phases.now w.1 c.deref.result.now w.2
    (subst (AllZip IsEndOf c.args.phases.now) (sym c.deref.ensures.value) c.in_ok-results.ensures)

pub returns-clause-reported : goal.returns-clause-reported
returns-clause-reported c = λ filter rs h.
    let j = c.args.job.now in
    let config = c.args.config.now in
    let results = c.in_ok-results.results.items in
    let status : status_number c.status_of.result ≡ verdict_status (overall_of j results) =
    c.status_of.ensures.number ∙ ap verdict_status c.overall.ensures.value
    ∙ ap (λ (rs : List PhaseResult). verdict_status (overall_of j rs)) c.deref-2.ensures.value in
    let bytes : string_bytes c.unwrap.result ≡ c.in_ok-text.text.items = search rules in
    let text : string_bytes c.unwrap.result ≡ report_text j config.rate config.endsamp results =
    bytes ∙ c.in_ok-text.ensures.text ∙ ap (λ (rs : List PhaseResult). report_text j config.rate config.endsamp rs) c.deref.ensures.value in (
      results,
      results_are j config filter c.args.phases.now rs results h c.in_ok-results.ensures,
      same_outcome (status_number c.status_of.result) (verdict_status (overall_of j results)) (string_bytes c.unwrap.result) (report_text j config.rate config.endsamp results) status text,
    )
