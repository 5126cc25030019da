use Rattle.std.proofs.Common.{rules, ◌+◌, ◌*◌, ◌<◌, ◌/◌, ℕ, arith}
use Rattle.flk_num.proofs.RootLemmas.{cube_above}
use Rattle.flk_num.proofs.root.natural_cube_root.Goals as goal

pub loop-low-preserved-then-cube-v : goal.loop-low-preserved-then-cube-v
loop-low-preserved-then-cube-v c =
    let middle : ℕ = (c.loop-low.low + c.loop-low.high) / 2 in
    let below : middle * middle * middle < c.args.v = search rules in
    record {
      order = omega (arith, c.loop-low-test.true);
      small = c.loop-low.invariant.small;
      reached = c.loop-low.invariant.reached;
      least = λ z reached. cube_above c.args.v middle z below reached;
    }
