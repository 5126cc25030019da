use Rattle.std.proofs.Common.{ℕ, ◌-◌, ◌*◌, ◌^◌, ◌≤◌}
use Rattle.flk_num.proofs.root.natural_cube_root.Given as goal

abbrev pub invariant-loop-low : goal.invariant-loop-low
invariant-loop-low l = record {
  order : l.low ≤ l.high;
  small : l.high ≤ 2 ^ 42;
  reached : l.v ≤ l.high * l.high * l.high;
  least : (z : ℕ) → l.v ≤ z * z * z → l.low ≤ z;
}

abbrev pub decreases-loop-low : goal.decreases-loop-low
decreases-loop-low l = l.high - l.low
