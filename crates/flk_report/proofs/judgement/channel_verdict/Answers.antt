use Rattle.std.proofs.Common.{◌≡◌, sym, ap, ◌∙◌, map, take, rules}
use Rattle.flk_report.specs.Limits.{judged_by, pst_limit, judged_changes, judged_long_term}
use Rattle.flk_report.specs.Verdict.{line_verdict, worse, worst}
use Rattle.flk_report.specs.declared.verdict.Verdict.TheVariants.{Pass}
use Rattle.flk_report.proofs.VerdictLemmas.{worse_pass, worst_of_three, of_long_term}
use Rattle.flk_report.proofs.judgement.channel_verdict.Goals as goal

pub returns-in-Some : goal.returns-in-Some
returns-in-Some c =
    let j = c.args.job.now in
    let r = c.args.channel.now in
    let severities : c.severities_verdict-severities.result ≡ worst (map line_verdict (map (judged_by pst_limit) (take r.count r.pst))) = search rules in
    let verdict = c.joined.ensures ∙ ap (λ v. worse v c.judge.result) c.joined-verdict.ensures in
    verdict ∙ worst_of_three (judged_changes j r.changes) (map (judged_by pst_limit) (take r.count r.pst)) (judged_long_term r.plt)
    c.changes_verdict-changes.result c.severities_verdict-severities.result c.judge.result
    c.changes_verdict-changes.ensures severities (of_long_term r.plt c.in-Some.plt c.judge.result c.in-Some.is c.judge.ensures.value)

pub returns-in-None : goal.returns-in-None
returns-in-None c =
    let j = c.args.job.now in
    let r = c.args.channel.now in
    let severities : c.severities_verdict-severities.result ≡ worst (map line_verdict (map (judged_by pst_limit) (take r.count r.pst))) = search rules in
    let none = ap (λ plt. worst (map line_verdict (judged_long_term plt))) c.in-None.is in
    sym (worse_pass c.joined-verdict.result) ∙ ap (λ v. worse v Pass) c.joined-verdict.ensures
    ∙ worst_of_three (judged_changes j r.changes) (map (judged_by pst_limit) (take r.count r.pst)) (judged_long_term r.plt)
    c.changes_verdict-changes.result c.severities_verdict-severities.result Pass
    c.changes_verdict-changes.ensures severities (sym none)
