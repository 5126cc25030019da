use Rattle.std.proofs.Common.{◌≡◌, drop}
use Rattle.flk_report.specs.Verdict.{worse, overall_of}
use Rattle.flk_report.proofs.judgement.overall.Given as goal

-- with the verdict on the rest it is the verdict on all
abbrev pub invariant-loop-result : goal.invariant-loop-result
invariant-loop-result l = worse l.verdict (overall_of l.job (drop l.result-index l.results)) ≡ overall_of l.job l.results
