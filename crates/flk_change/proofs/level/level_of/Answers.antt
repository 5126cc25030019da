use Rattle.std.proofs.Common.{arith, rules, ◌≡◌, pos}
use Rattle.std.proofs.lemmas.Int.{ints}
use Rattle.flk_exact.specs.Rounding.{floor_of}
use Rattle.flk_change.proofs.LevelLemmas.{floor_≤, floor_above, floor_below}
use Rattle.flk_change.proofs.level.level_of.Goals as goal

pub invariant_of-result : goal.invariant_of-result
invariant_of-result c =
    let low : c.mean.result ≡ floor_of c.args.sums.low (pos c.args.window) = search rules in
    let high : c.mean-2.result ≡ floor_of c.args.sums.high (pos c.args.window) = search rules in
    record { ordered = omega (arith, ints, low, high, floor_≤ c.args.sums.low c.args.sums.high c.args.window c.requires.some c.requires.ordered) }

pub returns-clause-in_range : goal.returns-clause-in_range
returns-clause-in_range c =
    let low : c.mean.result ≡ floor_of c.args.sums.low (pos c.args.window) = search rules in
    let high : c.mean-2.result ≡ floor_of c.args.sums.high (pos c.args.window) = search rules in
    record {
      low = omega (arith, ints, low, floor_above (pos 0) c.args.sums.low c.args.window c.requires.some (omega (arith, ints, c.requires.low)));
      high = omega (arith, ints, high, floor_below (pos 10000000000) c.args.sums.high c.args.window c.requires.some (omega (arith, ints, c.requires.high)));
    }
