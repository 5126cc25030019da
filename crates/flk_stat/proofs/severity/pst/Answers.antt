use Rattle.std.proofs.Common.{rules, ℤ, List, FitsSigned}
use Rattle.std.specs.Int.{w128}
use Rattle.std.proofs.lemmas.Int.{to_z-of_z}
use Rattle.flk_stat.specs.Severity.{IsCappedLeast, cap}
use Rattle.flk_stat.specs.Ranked.{ReachesSum, IsSumOfPercentiles}
use Rattle.flk_stat.proofs.SeverityLemmas.{severity_is}
use Rattle.flk_stat.proofs.severity.pst.Goals as goal

pub returns : goal.returns
returns c =
    let rising : List ℤ = c.args.rising.now in
    let s : ℤ = c.rising_sum.result in
    let z : ℤ = c.capped_root.result in
    let fits : FitsSigned w128 z = search rules in
    let sum : IsSumOfPercentiles rising s = search rules in
    let least : IsCappedLeast (ReachesSum s) cap z = search rules in
    rw (to_z-of_z w128 z fits) (severity_is rising s z sum least)
