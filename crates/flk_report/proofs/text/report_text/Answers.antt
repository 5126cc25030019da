use Rattle.std.proofs.Common.{◌≡◌, ◌++◌, ◌∙◌, sym, subst, string_bytes, rules}
use Rattle.std.specs.Str.{IsUtf8}
use Rattle.std.proofs.lemmas.Str.{IsUtf8-string_bytes}
use Rattle.flk_report.specs.Report.{title_lines, recording_lines, all_channel_lines, verdict_line}
use Rattle.flk_report.proofs.TextLemmas.{whole_report}
use Rattle.flk_report.proofs.text.report_text.Goals as goal

pub returns-clause-text : goal.returns-clause-text
returns-clause-text c =
    let j = c.args.job.now in
    let title = string_bytes c.in_ok-title.title in
    let recording = string_bytes c.in_ok-recording.recording in
    let channels = string_bytes c.in_ok-channels.channels in
    let verdict = c.overall-verdict.result in
    let title_is : title ≡ title_lines j c.args.rate = search rules in
    let recording_is : recording ≡ recording_lines j c.args.rate c.args.endsamp = search rules in
    let channels_are : channels ≡ all_channel_lines j j.channels c.args.results.now = search rules in
    let joined : string_bytes c.in_ok-text.text ≡ title ++ (recording ++ (channels ++ verdict_line verdict)) = search rules in
    let given : c.into_bytes.result.items ≡ string_bytes c.in_ok-text.text = search rules in
    given ∙ whole_report j c.args.rate c.args.endsamp c.args.results.now verdict title recording channels (string_bytes c.in_ok-text.text)
    title_is recording_is channels_are c.overall-verdict.ensures.value joined

pub returns-clause-utf8 : goal.returns-clause-utf8
returns-clause-utf8 c =
    let given : c.into_bytes.result.items ≡ string_bytes c.in_ok-text.text = search rules in
    subst IsUtf8 (sym given) (IsUtf8-string_bytes c.in_ok-text.text)
