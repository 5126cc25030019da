use Rattle.std.proofs.Common.{rules, ◌≡◌, ℕ, Bool, List, map, pos, take, sym, subst}
use Rattle.std.specs.List.{All, AllZip}
use Rattle.flk_stat.specs.declared.severity.RankedShare.{RankedShare}
use Rattle.flk_stat.specs.Severity.{shares}
use Rattle.flk_stat.specs.Ranked.{IsRankIn, IsRankedSum}
use Rattle.flk_stat.specs.Buckets.{bucket_of, kept_of, IsKeptShare, AreKeptShares}
use Rattle.flk_stat.proofs.BucketLemmas.{bucket_rises}
use Rattle.flk_stat.proofs.SelectionLemmas.{kept_sum, kept_shares, kept_ranks, kept_rise}
use Rattle.flk_stat.proofs.buckets.thinned.Goals as goal

-- what was found of some levels in some buckets, where they are these
are_kept : (shift shift' : ℕ) (levels levels' : List ℕ) (marks : List Bool) (qs : List RankedShare) → shift' ≡ shift → levels' ≡ levels → AreKeptShares (bucket_of shift') levels' marks qs
    → AllZip (IsKeptShare (bucket_of shift) levels marks 0) qs shares
are_kept shift shift' levels levels' marks qs same_shift same h =
    subst (λ (ls : List ℕ). AllZip (IsKeptShare (bucket_of shift) ls marks 0) qs shares) same
    (subst (λ (n : ℕ). AllZip (IsKeptShare (bucket_of n) levels' marks 0) qs shares) same_shift h.each)

pub returns-clause-shares : goal.returns-clause-shares
returns-clause-shares c =
    let shift : ℕ = c.shift_for-shift.result in
    let levels : List ℕ = c.args.levels.now in
    let kept = are_kept shift _ levels _ c.ranked.result.1 c.ranked.result.0 c.of.ensures.shift c.of.ensures.levels c.ranked.ensures in
    kept_shares (bucket_of shift) levels c.ranked.result.1 c.ranked.result.0 kept

pub returns-clause-ranks : goal.returns-clause-ranks
returns-clause-ranks c =
    let shift : ℕ = c.shift_for-shift.result in
    let levels : List ℕ = c.args.levels.now in
    let marks : List Bool = c.ranked.result.1 in
    let kept = are_kept shift _ levels _ marks c.ranked.result.0 c.of.ensures.shift c.of.ensures.levels c.ranked.ensures in
    let few : take c.keep-kept.result c.keep-kept.new.levels ≡ kept_of (bucket_of shift) marks levels = search rules in
    subst (λ (ls : List ℕ). All (IsRankIn ls) c.ranked.result.0) (sym few) (kept_ranks (bucket_of shift) levels marks c.ranked.result.0 kept)

pub returns-clause-rise : goal.returns-clause-rise
returns-clause-rise c =
    let shift : ℕ = c.shift_for-shift.result in
    let levels : List ℕ = c.args.levels.now in
    let kept = are_kept shift _ levels _ c.ranked.result.1 c.ranked.result.0 c.of.ensures.shift c.of.ensures.levels c.ranked.ensures in
    kept_rise (bucket_of shift) levels c.ranked.result.1 c.ranked.result.0 c.requires.many kept

pub returns-clause-sum : goal.returns-clause-sum
returns-clause-sum c = λ sum h.
    let shift : ℕ = c.shift_for-shift.result in
    let levels : List ℕ = c.args.levels.now in
    let marks : List Bool = c.ranked.result.1 in
    let kept = are_kept shift _ levels _ marks c.ranked.result.0 c.of.ensures.shift c.of.ensures.levels c.ranked.ensures in
    let few : take c.keep-kept.result c.keep-kept.new.levels ≡ kept_of (bucket_of shift) marks levels = search rules in
    kept_sum (bucket_of shift) (bucket_rises shift) levels marks c.ranked.result.0 shares sum kept (subst (λ (ls : List ℕ). IsRankedSum c.ranked.result.0 (map pos ls) sum) few h)
