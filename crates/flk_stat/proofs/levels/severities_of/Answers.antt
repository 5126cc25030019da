use Rattle.std.proofs.Common.{rules, List, ℤ, FitsSigned}
use Rattle.std.specs.Int.{w128}
use Rattle.std.proofs.lemmas.Int.{to_z-of_z}
use Rattle.flk_stat.specs.Severity.{IsSeverityOfEnds}
use Rattle.flk_stat.specs.ListOfEnds.{ends_of}
use Rattle.flk_stat.proofs.LevelLemmas.{severities_in_order}
use Rattle.flk_stat.proofs.levels.severities_of.Goals as goal

pub invariant_of-result : goal.invariant_of-result
invariant_of-result c =
    let low_ends : List ℤ = ends_of c.args.lows.now in
    let high_ends : List ℤ = ends_of c.args.highs.now in
    let lo : ℤ = c.severity-lo.result in
    let hi : ℤ = c.severity-hi.result in
    let lo_fits : FitsSigned w128 lo = search rules in
    let hi_fits : FitsSigned w128 hi = search rules in
    let low : IsSeverityOfEnds low_ends lo = search rules in
    let high : IsSeverityOfEnds high_ends hi = search rules in
    rw (to_z-of_z w128 lo lo_fits, to_z-of_z w128 hi hi_fits)
    (record { ordered = severities_in_order low_ends high_ends lo hi c.requires.levels low high })
