use Rattle.std.proofs.Common.{◌≡◌, ◌<◌, ◌++◌, length, string_bytes, rules, get_or, ap, arith}
use Rattle.flk_report.specs.Report.{channel_lines}
use Rattle.flk_report.proofs.TextLemmas.{channels_more}
use Rattle.flk_report.proofs.text.channels_text.Goals as goal

pub loop-i-preserved : goal.loop-i-preserved
loop-i-preserved c =
    let i = c.loop-i.i in
    let ns = c.args.job.now.channels in
    let rs = c.args.results.now in
    let n = get_or c.as_slice-channels.result.now i 0 in
    let here : i < length rs = search rules in
    let there : i < length ns = omega (arith, c.requires.count, here) in
    let lines : string_bytes c.in_ok-lines.lines ≡ channel_lines c.args.job.now n c.index-results-i.result = search rules in
    let joined : string_bytes c.push_str.new.self ≡ string_bytes c.loop-i.text ++ string_bytes c.in_ok-lines.lines = search rules in
    let number = ap (λ x. get_or x i 0) c.as_slice-channels.ensures in
    channels_more c.args.job.now ns rs i n c.index-results-i.result (string_bytes c.loop-i.text) (string_bytes c.in_ok-lines.lines) _ _ there here number c.index-results-i.is lines joined c.loop-i.invariant
