-- Levels in buckets by their size, and ranks among the levels of some buckets.
use Rattle.std.specs.Prelude.{◌≡◌, ℕ, ◌+◌, ◌/◌, ◌^◌, ◌<◌, ◌≤◌, min, Bool, true, false, ◌==◌, nat_lt, List, length, slice_index_or}
use Rattle.std.specs.List.{AllZip, count_by, filter}
use Rattle.flk_stat.specs.declared.severity.Share.{Share}
use Rattle.flk_stat.specs.declared.severity.RankedShare.{RankedShare}
use Rattle.flk_stat.specs.Rank.{rank_of}
use Rattle.flk_stat.specs.Severity.{shares}

-- a level's bucket, which is no lesser one than that of any lesser level
abbrev pub bucket_of : (shift level : ℕ) → ℕ
bucket_of shift level = min (level / 2 ^ shift) 4095

-- how many levels are in the bucket j
abbrev pub count_in : (bucket : ℕ → ℕ) → List ℕ → ℕ → ℕ
count_in bucket levels j = count_by (λ x. bucket x == j) levels

-- how many are in greater ones
abbrev pub count_above : (bucket : ℕ → ℕ) → List ℕ → ℕ → ℕ
count_above bucket levels j = count_by (λ x. nat_lt j (bucket x)) levels

abbrev pub is_marked : List Bool → ℕ → Bool
is_marked marks j = slice_index_or marks j false

-- the levels of marked buckets
abbrev pub kept_of : (bucket : ℕ → ℕ) → List Bool → List ℕ → List ℕ
kept_of bucket marks levels = filter (λ x. is_marked marks (bucket x)) levels

-- The level of a rank is in a marked bucket, from `low` on. `kept` is the rank without the levels above it that are in
-- no marked bucket.
pub record IsKeptRank (bucket : ℕ → ℕ) (levels : List ℕ) (marks : List Bool) (low rank kept : ℕ) : Type 0 where
  pub place : ℕ
  pub from : low ≤ place
  pub marked : is_marked marks place ≡ true
  pub above : count_above bucket levels place < rank
  pub within : rank ≤ count_above bucket levels place + count_in bucket levels place
  pub lessened : kept + count_above bucket levels place ≡ rank + count_above bucket (kept_of bucket marks levels) place

-- the percentile by its rank among the levels of marked buckets
pub record IsKeptShare (bucket : ℕ → ℕ) (levels : List ℕ) (marks : List Bool) (low : ℕ) (q : RankedShare)
    (s : Share) : Type 0 where
  pub share : q.share ≡ s
  pub rank : IsKeptRank bucket levels marks low (rank_of s.tenths (length levels)) q.rank

-- all percentiles of the severity
pub record AreKeptShares (bucket : ℕ → ℕ) (levels : List ℕ) (marks : List Bool) (qs : List RankedShare) : Type 0 where
  pub each : AllZip (IsKeptShare bucket levels marks 0) qs shares
