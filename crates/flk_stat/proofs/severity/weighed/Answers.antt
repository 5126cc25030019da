use Rattle.std.proofs.Common.{rules, arith, pos, ◌*ℤ◌, FitsSigned}
use Rattle.std.specs.Int.{w128}
use Rattle.std.proofs.lemmas.Int.{ints, to_z-of_z}
use Rattle.flk_stat.proofs.SeverityLemmas.{part_of}
use Rattle.flk_stat.proofs.severity.weighed.Goals as goal

pub overflow_mul-result : goal.overflow_mul-result
overflow_mul-result c =
    let part = part_of c.args.share.weight c.args.level c.requires.share.light c.requires.level in
    let weight : FitsSigned w128 (pos c.args.share.weight) = search rules in
    let fits : FitsSigned w128 (pos c.args.share.weight *ℤ c.args.level) = omega (arith, ints, part.low, part.high) in
    rw (c.from.ensures, to_z-of_z w128 (pos c.args.share.weight) weight, to_z-of_z w128 c.args.level c.ranges.level) fits
