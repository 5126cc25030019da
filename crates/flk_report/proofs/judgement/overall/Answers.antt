use Rattle.std.proofs.Common.{◌<◌, ◌≤◌, length, rules}
use Rattle.flk_report.specs.Verdict.{all_judged_lines}
use Rattle.flk_report.specs.declared.verdict.Verdict.TheVariants.{Pass, Fail, Undecided}
use Rattle.flk_report.proofs.VerdictLemmas.{overall_exactly, overall_more, overall_all}
use Rattle.flk_report.proofs.HeldLemmas.{every_run}
use Rattle.flk_report.proofs.judgement.overall.Goals as goal

pub loop-result-preserved : goal.loop-result-preserved
loop-result-preserved c =
    let i = c.loop-result.result-index in
    let rs = c.args.results.now in
    let there : i < length rs = search rules in
    overall_more c.args.job.now rs i c.result-item.result c.loop-result.verdict c.channel_verdict.result c.joined-verdict.result there c.result-item.is
    c.channel_verdict.ensures c.joined-verdict.ensures c.loop-result.invariant

pub returns-clause-pass : goal.returns-clause-pass
returns-clause-pass c =
    let end : length c.args.results.now ≤ c.loop-result.result-index = search rules in
    let is = overall_all c.args.job.now c.args.results.now c.loop-result.result-index c.loop-result.verdict end c.loop-result.invariant in
    overall_exactly Pass c.loop-result.verdict (all_judged_lines c.args.job.now c.args.results.now) is

pub returns-clause-fail : goal.returns-clause-fail
returns-clause-fail c =
    let end : length c.args.results.now ≤ c.loop-result.result-index = search rules in
    let is = overall_all c.args.job.now c.args.results.now c.loop-result.result-index c.loop-result.verdict end c.loop-result.invariant in
    overall_exactly Fail c.loop-result.verdict (all_judged_lines c.args.job.now c.args.results.now) is

pub returns-clause-undecided : goal.returns-clause-undecided
returns-clause-undecided c =
    let end : length c.args.results.now ≤ c.loop-result.result-index = search rules in
    let is = overall_all c.args.job.now c.args.results.now c.loop-result.result-index c.loop-result.verdict end c.loop-result.invariant in
    overall_exactly Undecided c.loop-result.verdict (all_judged_lines c.args.job.now c.args.results.now) is

pub returns-clause-every : goal.returns-clause-every
returns-clause-every c =
    let end : length c.args.results.now ≤ c.loop-result.result-index = search rules in
    let is = overall_all c.args.job.now c.args.results.now c.loop-result.result-index c.loop-result.verdict end c.loop-result.invariant in
    λ qs held. rw is (every_run c.args.job.now c.args.results.now qs held)
