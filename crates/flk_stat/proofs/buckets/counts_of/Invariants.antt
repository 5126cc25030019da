use Rattle.std.proofs.Common.{◌≡◌, ℕ, length, slice_index, take}
use Rattle.flk_stat.specs.Buckets.{bucket_of, count_in}
use Rattle.flk_stat.proofs.buckets.counts_of.Given as goal

abbrev pub invariant-loop-level : goal.invariant-loop-level
invariant-loop-level l = record {
  long : length l.counts ≡ 4096;
  counts : (j : ℕ) → slice_index l.counts j ≡ count_in (bucket_of l.shift) (take l.level-index l.levels) j;
}
