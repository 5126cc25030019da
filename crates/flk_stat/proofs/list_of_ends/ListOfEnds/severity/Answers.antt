use Rattle.std.proofs.Common.{rules, List, ℤ, FitsSigned}
use Rattle.std.specs.Int.{w128}
use Rattle.std.proofs.lemmas.Int.{to_z-of_z}
use Rattle.flk_stat.specs.Severity.{IsCappedLeast, cap}
use Rattle.flk_stat.specs.Ranked.{ReachesSum, IsSumOfPercentiles}
use Rattle.flk_stat.specs.ListOfEnds.{ends_of}
use Rattle.flk_stat.proofs.SeverityLemmas.{severity_is}
use Rattle.flk_stat.proofs.list_of_ends.ListOfEnds.severity.Goals as goal

pub returns-clause-severity : goal.returns-clause-severity
returns-clause-severity c =
    let ends : List ℤ = ends_of c.args.self.now in
    let s : ℤ = c.percentile_sum.result in
    let z : ℤ = c.capped_root-severity.result in
    let fits : FitsSigned w128 z = search rules in
    let sum : IsSumOfPercentiles ends s = search rules in
    let least : IsCappedLeast (ReachesSum s) cap z = search rules in
    rw (to_z-of_z w128 z fits) (severity_is ends s z sum least)
