use Rattle.std.proofs.Common.{rules, arith, ◌≡◌, ◌+◌, ◌<◌, ◌≤◌, Bool, true, List, length, set, slice_index, refl, sym, ap, subst, ⊎_elim}
use Rattle.std.proofs.lemmas.Bool.{cases_lt}
use Rattle.flk_stat.specs.Buckets.{bucket_of, count_in, count_above, IsKeptRank}
use Rattle.flk_stat.proofs.BucketLemmas.{counted_all, kept_above_few, kept_rank_on, kept_rank_new}
use Rattle.flk_stat.proofs.WalkLemmas.{walked_on}
use Rattle.flk_stat.proofs.buckets.Buckets.descend.Goals as goal

pub step-requires-clause-some : goal.step-requires-clause-some
step-requires-clause-some c =
    let s = c.args.self.now in
    let w = c.loop-walk.walk in
    let b = bucket_of s.shift in
    ⊎_elim
    (λ some. some)
    (λ none.
    let first : w.place ≡ 0 = omega (arith, none) in
    let above = ap (count_above b s.levels.now) first in
    let at = ap (count_in b s.levels.now) first in
    let more : w.above + slice_index s.counts w.place < c.args.rank = search rules in
    absurd (omega (arith, above, at, more, c.loop-walk.invariant.walked.above, s.counted w.place, counted_all b s.levels.now, c.requires.below)))
    (cases_lt 0 w.place)

pub overflow_add-result : goal.overflow_add-result
overflow_add-result c =
    let s = c.args.self.now in
    let w = c.loop-walk.walk in
    let h = c.loop-walk.invariant in
    omega (arith, c.ranges.rank.fits, h.above, h.walked.above, h.walked.kept, kept_above_few (bucket_of s.shift) s.levels.now w.marks w.place)

pub returns-clause-walked : goal.returns-clause-walked
returns-clause-walked c =
    let s = c.args.self.now in
    let w = c.loop-walk.walk in
    walked_on (bucket_of s.shift) s.levels.now w _ refl refl refl refl c.loop-walk.invariant.walked

pub returns-clause-rank : goal.returns-clause-rank
returns-clause-rank c =
    let s = c.args.self.now in
    let w = c.loop-walk.walk in
    let h = c.loop-walk.invariant in
    let long : length w.marks ≡ 4096 = search rules in
    let most : c.args.rank ≤ w.above + slice_index s.counts w.place = search rules in
    kept_rank_new (bucket_of s.shift) s.levels.now w.marks w.place c.args.rank _ (omega (arith, long, h.within)) (omega (arith, h.above, h.walked.above))
    (omega (arith, most, h.walked.above, s.counted w.place)) (omega (arith, h.above, h.walked.above, h.walked.kept))

pub returns-clause-others : goal.returns-clause-others
returns-clause-others c = λ r k old.
    let s = c.args.self.now in
    let was = c.args.walk.now in
    let w = c.loop-walk.walk in
    let h = c.loop-walk.invariant in
    let long : length was.marks ≡ 4096 = search rules in
    subst (λ (ms : List Bool). IsKeptRank (bucket_of s.shift) s.levels.now (set ms w.place true) w.place r k) (sym h.marks)
    (kept_rank_on (bucket_of s.shift) s.levels.now was.marks was.place w.place r k h.low (omega (arith, long, h.within)) old)
