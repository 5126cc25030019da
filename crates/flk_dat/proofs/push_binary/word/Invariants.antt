use Rattle.std.proofs.Common.{◌≡◌, ◌-◌, ◌<◌, ◌≤◌, ◌^◌, take, drop}
use Rattle.flk_dat.specs.Records.{record_at}
use Rattle.flk_dat.specs.Written.{bits_number}
use Rattle.flk_dat.proofs.push_binary.word.Given as goal

abbrev pub invariant-loop-left : goal.invariant-loop-left
invariant-loop-left l = record {
  within : l.left ≤ l.count;
  value : l.word ≡ bits_number (drop l.left (take l.count (drop l.first (record_at l.block.records l.row).digital)));
  small : l.word < 2 ^ (l.count - l.left);
}

abbrev pub decreases-loop-left : goal.decreases-loop-left
decreases-loop-left l = l.left
