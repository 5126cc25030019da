use Rattle.std.proofs.Common.{◌≡◌, ◌+◌, ◌*◌, ◌^◌, length, take, pos, ◌≤ℤ◌}
use Rattle.flk_stat.specs.Severity.{shares}
use Rattle.flk_stat.specs.Ranked.{together, weighted_total}
use Rattle.flk_stat.proofs.severity.rising_sum.Given as goal

abbrev pub invariant-loop-share : goal.invariant-loop-share
invariant-loop-share l = record {
  sum : l.sum ≡ weighted_total (together l.narrow l.wide) (length l.narrow + length l.wide) (take l.share-index shares);
  low : pos 0 ≤ℤ l.sum;
  high : l.sum ≤ℤ pos (l.share-index * 2 ^ 104);
}
