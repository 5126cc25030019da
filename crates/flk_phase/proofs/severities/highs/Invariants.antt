use Rattle.std.proofs.Common.{◌≡◌, length, take}
use Rattle.flk_num.specs.Interval.{highs as highs_of}
use Rattle.flk_phase.proofs.severities.highs.Given as goal

abbrev pub invariant-loop-i : goal.invariant-loop-i
invariant-loop-i l = record {
  twelve : length l.ends ≡ 12;
  same : take l.i l.ends ≡ highs_of (take l.i l.values);
}
