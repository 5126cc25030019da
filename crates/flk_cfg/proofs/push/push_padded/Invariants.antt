use Rattle.std.proofs.Common.{◌≡◌, ◌<◌, ◌≤◌, ◌^◌, ◌++◌}
use Rattle.flk_cfg.specs.Canonical.{padded}
use Rattle.flk_cfg.proofs.push.push_padded.Given as goal

abbrev pub invariant-loop-count : goal.invariant-loop-count
invariant-loop-count l = record {
  few : l.count ≤ 9;
  below : l.left < 10 ^ l.count;
  text : l.out.items ++ padded l.count l.left ≡ l.fn.out.items ++ padded l.places l.number;
}

abbrev pub decreases-loop-count : goal.decreases-loop-count
decreases-loop-count l = l.count
