use Rattle.std.proofs.Common.{rules, ◌≡◌, ℕ, ◌+◌, ◌<◌, cond, List, length, get_or}
use Rattle.std.proofs.lemmas.List.{get_or_default}
use Rattle.flk_stat.specs.Buckets.{bucket_of, is_marked}
use Rattle.flk_stat.proofs.BucketLemmas.{filtered_more}
use Rattle.flk_stat.proofs.buckets.keep.Goals as goal

pub loop-i-preserved : goal.loop-i-preserved
loop-i-preserved c =
    let levels : List ℕ = c.loop-i.levels in
    let i : ℕ = c.loop-i.i in
    let x : ℕ = get_or levels i 0 in
    let inside : i < length levels = search rules in
    let is : c.loop-i.kept + c.from-kept.result ≡ c.loop-i.kept + cond (is_marked c.args.marks.now (bucket_of c.args.shift x)) 1 0 = search rules in
    record { filtered = filtered_more _ _ levels c.loop-i.kept i x _ c.loop-i.invariant.filtered inside (get_or_default levels i 0 x inside) is }
