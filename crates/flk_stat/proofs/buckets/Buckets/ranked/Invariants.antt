use Rattle.std.proofs.Common.{◌≡◌, ℕ, ◌<◌, ◌≤◌, length, slice_index_or}
use Rattle.flk_stat.specs.declared.severity.Share.{Share}
use Rattle.flk_stat.specs.declared.severity.RankedShare.{RankedShare}
use Rattle.flk_stat.specs.Rank.{rank_of}
use Rattle.flk_stat.specs.Severity.{share, shares}
use Rattle.flk_stat.specs.Buckets.{bucket_of, IsKeptShare}
use Rattle.flk_stat.specs.Walk.{IsWalked}
use Rattle.flk_stat.proofs.buckets.Buckets.ranked.Given as goal

abbrev pub invariant-loop-i : goal.invariant-loop-i
invariant-loop-i l = record {
  long : length l.ranked ≡ 15;
  within : l.walk.place < 4096;
  walked : IsWalked (bucket_of l.self.shift) l.self.levels.now l.walk;
  above : (k : ℕ) → l.i ≤ k → k < 15 → l.walk.above < rank_of (slice_index_or shares k (share 0 0)).tenths (length l.self.levels.now);
  each : (k : ℕ) (d : RankedShare) (s : Share) → k < l.i
      → IsKeptShare (bucket_of l.self.shift) l.self.levels.now l.walk.marks l.walk.place (slice_index_or l.ranked k d) (slice_index_or shares k s);
}
