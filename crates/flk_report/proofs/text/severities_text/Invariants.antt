use Rattle.std.proofs.Common.{◌≡◌, ◌+◌, ◌++◌, drop, string_bytes}
use Rattle.flk_report.specs.Report.{severity_lines}
use Rattle.flk_report.proofs.text.severities_text.Given as goal

-- with the lines of the rest they are the lines of all
abbrev pub invariant-loop-i : goal.invariant-loop-i
invariant-loop-i l = string_bytes l.text ++ severity_lines (l.i + 1) (drop l.i l.severities) ≡ severity_lines 1 l.severities
