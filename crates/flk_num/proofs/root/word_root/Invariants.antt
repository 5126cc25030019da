use Rattle.std.proofs.Common.{◌+◌, ◌*◌, ◌^◌, ◌<◌, ◌≤◌}
use Rattle.flk_num.proofs.root.word_root.Given as goal

abbrev pub invariant-loop-next : goal.invariant-loop-next
invariant-loop-next l = record {
  small : l.root ≤ 2 ^ 32;
  above : l.v < (l.root + 1) * (l.root + 1);
  next_above : l.v < (l.next + 1) * (l.next + 1);
  last : l.root ≤ l.next → l.root * l.root ≤ l.v;
}

abbrev pub decreases-loop-next : goal.decreases-loop-next
decreases-loop-next l = l.root
