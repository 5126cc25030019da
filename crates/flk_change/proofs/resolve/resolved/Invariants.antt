use Rattle.std.proofs.Common.{◌≡◌, ◌+◌, ◌≤◌, length, take}
use Rattle.flk_change.specs.Resolutions.{doubtful_count}
use Rattle.flk_change.specs.Pass.{AreSums, HavePassed}
use Rattle.flk_change.proofs.resolve.resolved.Given as goal

-- what the first half-periods give
abbrev pub invariant-loop-i : goal.invariant-loop-i
invariant-loop-i l = record {
  sums : AreSums l.fn.window l.halves l.i l.sums;
  long : length l.passes ≡ 7;
  some : 1 ≤ l.count;
  few : l.count ≤ doubtful_count (take l.i l.flags) + 1;
  passed : HavePassed l.fn.window l.halves l.flags l.i (take l.count l.passes);
}
