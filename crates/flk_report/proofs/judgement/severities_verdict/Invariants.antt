use Rattle.std.proofs.Common.{◌≡◌, map, drop}
use Rattle.flk_report.specs.Limits.{judged_by, pst_limit}
use Rattle.flk_report.specs.Verdict.{line_verdict, worse, worst}
use Rattle.flk_report.proofs.judgement.severities_verdict.Given as goal

-- with the verdict on the rest it is the verdict on all
abbrev pub invariant-loop-severity : goal.invariant-loop-severity
invariant-loop-severity l =
    worse l.verdict (worst (map line_verdict (map (judged_by pst_limit) (drop l.severity-index l.severities)))) ≡ worst (map line_verdict (map (judged_by pst_limit) l.severities))
