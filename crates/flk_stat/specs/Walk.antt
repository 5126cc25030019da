-- A walk over buckets, from the last one down.
use Rattle.std.specs.Prelude.{◌≡◌, ℕ, List}
use Rattle.flk_stat.specs.declared.buckets.Walk.{Walk}
use Rattle.flk_stat.specs.Buckets.{count_above, kept_of}

-- the walk counts the levels in greater buckets, and those of them that are in marked ones
pub record IsWalked (bucket : ℕ → ℕ) (levels : List ℕ) (w : Walk) : Type 0 where
  pub above : w.above ≡ count_above bucket levels w.place
  pub kept : w.kept ≡ count_above bucket (kept_of bucket w.marks levels) w.place
