use Rattle.std.proofs.Common.{◌≡◌, ◌<◌, ◌≤◌}
use Rattle.flk_stat.specs.Buckets.{bucket_of}
use Rattle.flk_stat.specs.Walk.{IsWalked}
use Rattle.flk_stat.proofs.buckets.Buckets.descend.Given as goal

abbrev pub invariant-loop-walk : goal.invariant-loop-walk
invariant-loop-walk l = record {
  within : l.walk.place < 4096;
  low : l.walk.place ≤ l.initial.walk.place;
  above : l.walk.above < l.rank;
  marks : l.walk.marks ≡ l.initial.walk.marks;
  walked : IsWalked (bucket_of l.self.shift) l.self.levels.now l.walk;
}

abbrev pub decreases-loop-walk : goal.decreases-loop-walk
decreases-loop-walk l = l.walk.place
