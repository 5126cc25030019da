use Rattle.std.proofs.Common.{◌≡◌, ◌++◌, drop, string_bytes}
use Rattle.flk_report.specs.Report.{all_channel_lines}
use Rattle.flk_report.proofs.text.channels_text.Given as goal

-- with the lines of the rest they are the lines of all
abbrev pub invariant-loop-i : goal.invariant-loop-i
invariant-loop-i l = string_bytes l.text ++ all_channel_lines l.job (drop l.i l.job.channels) (drop l.i l.results) ≡ all_channel_lines l.job l.job.channels l.results
