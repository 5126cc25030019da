-- The ends of levels, in units of 2^-48, and what the code makes of them.
use Rattle.std.specs.Prelude.{◌≡◌, ℕ, ◌+◌, ◌-◌, ◌^◌, ◌<◌, ◌≤◌, List, [], ◌∷◌, ◌++◌, length, map, int_lt, slice_index_or, ℤ, pos, ◌+ℤ◌, ◌-ℤ◌, ◌*ℤ◌, ◌≤ℤ◌, ◌<ℤ◌}
use Rattle.std.specs.List.{All, fold}
use Rattle.std.specs.List.Sorted.{IsPermutation, IsSplitAround}
use Rattle.std.specs.Ordering.{nat_cmp}
use Rattle.flk_num.specs.declared.interval.Interval.{Interval}
use Rattle.flk_num.specs.Interval.{lows, highs}
use Rattle.flk_stat.specs.declared.severity.Share.{Share}
use Rattle.flk_stat.specs.declared.severity.RankedShare.{RankedShare}
use Rattle.flk_stat.specs.Rank.{HasRank, rank_of}
use Rattle.flk_stat.specs.Severity.{shares}

-- an end of a level that needs more than 64 bits
pub record IsWideEnd (z : ℤ) : Type 0 where
  pub low : pos (2 ^ 64) ≤ℤ z
  pub high : z <ℤ pos (2 ^ 93)

-- ends of 64 bits and wide ones, together
abbrev pub together : List ℕ → List ℤ → List ℤ
together narrow wide = map pos narrow ++ wide

-- the ends of the same levels, in any order
pub record AreEndsOfLevels (low_ends high_ends : List ℤ) : Type 0 where
  pub levels : List Interval
  pub low : IsPermutation (lows levels) low_ends
  pub high : IsPermutation (highs levels) high_ends

-- where the percentile of k tenths of a percent of n levels stands in a list of the greatest of them in rising order
abbrev pub ranked_at : List ℤ → (n k : ℕ) → ℤ
ranked_at rising n k = slice_index_or rising (length rising - rank_of k n) (pos 0)

-- a share that a sum of 128 bits may take
pub record IsShare (s : Share) : Type 0 where
  pub low : 0 < s.tenths
  pub high : s.tenths ≤ 1000
  pub light : s.weight ≤ 2 ^ 11

-- `3 * 2^34 * w^2 >= 5^14 * sum`: w is at least the root of a sum of percentiles in units over 30000, in billionths
abbrev pub ReachesSum : ℤ → ℤ → Type 0
ReachesSum sum w = (sum *ℤ pos 6103515625) ≤ℤ ((w *ℤ w) *ℤ pos 51539607552)

-- the sum of the percentiles of some shares, each times its weight
abbrev pub weighted_total : List ℤ → (n : ℕ) → List Share → ℤ
weighted_total rising n ss = fold (λ sum s. sum +ℤ pos s.weight *ℤ ranked_at rising n s.tenths) (pos 0) ss

-- the ranks of some shares among n levels are among those of m
abbrev pub AreWithin : (n m : ℕ) → List Share → Type 0
AreWithin n m ss = All (λ s. rank_of s.tenths n ≤ m) ss

-- the sum of the levels of some ranks, each times its weight, of levels in any order
abbrev pub IsRankedSum : List RankedShare → List ℤ → ℤ → Type 0
IsRankedSum [] levels sum = sum ≡ pos 0
IsRankedSum (q ∷ qs) levels sum =
    (v : ℤ) × HasRank int_lt q.rank levels v × IsRankedSum qs levels (sum -ℤ pos q.share.weight *ℤ v)

-- the share's percentile among n levels
abbrev pub ranked_share : ℕ → Share → RankedShare
ranked_share n s = record { share = s; rank = rank_of s.tenths n }

-- The sum of the percentiles of some shares, of levels in any order: their ranks are those among n levels.
abbrev pub IsWeightedSum : (n : ℕ) → List Share → List ℤ → ℤ → Type 0
IsWeightedSum n ss levels sum = IsRankedSum (map (ranked_share n) ss) levels sum

-- the sum of all percentiles of the severity
pub record IsSumOfPercentiles (levels : List ℤ) (sum : ℤ) : Type 0 where
  pub is : IsWeightedSum (length levels) shares levels sum

-- one of the levels has the rank
pub record IsRankIn (levels : List ℕ) (q : RankedShare) : Type 0 where
  pub low : 0 < q.rank
  pub high : q.rank ≤ length levels

-- each rank is above those before it
pub record DoRise (qs : List RankedShare) : Type 0 where
  pub rise : (i j : ℕ) (d : RankedShare) → i < j → j < length qs
      → (slice_index_or qs i d).rank < (slice_index_or qs j d).rank

-- the level x of the rank was selected: `part` is x times the weight, and `above` are the levels that it stands before
pub record IsSelected (q : RankedShare) (levels : List ℕ) (part : ℤ) (above : List ℕ) : Type 0 where
  pub front : List ℕ
  pub x : ℕ
  pub moved : IsPermutation levels (front ++ x ∷ above)
  pub split : IsSplitAround nat_cmp front x above
  pub place : length above + 1 ≡ q.rank
  pub weighed : part ≡ pos q.share.weight *ℤ pos x
