use Rattle.std.proofs.Common.{◌≡◌, ◌≤◌, take}
use Rattle.flk_change.specs.Resolutions.{doubtful_count}
use Rattle.flk_change.proofs.flag.count_doubtful.Given as goal

abbrev pub invariant-loop-flag : goal.invariant-loop-flag
invariant-loop-flag l = record {
  count : l.count ≡ doubtful_count (take l.flag-index l.flags);
  few : l.count ≤ l.flag-index;
}
