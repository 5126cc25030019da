use Rattle.std.proofs.Common.{arith, ◌≡◌, ℕ, ◌+◌, ◌-◌, List, refl}
use Rattle.flk_stat.specs.Buckets.{bucket_of, kept_of}
use Rattle.flk_stat.proofs.BucketLemmas.{counted_within, all_kept, kept_few}
use Rattle.flk_stat.proofs.WalkLemmas.{walked_marked, walked_free}
use Rattle.flk_stat.proofs.buckets.Buckets.step.Goals as goal
use Rattle.flk_stat.proofs.buckets.Buckets.step.Goals.{then-walk, else-walk}

pub overflow_add-walk-then-walk : goal.overflow_add-walk-then-walk
overflow_add-walk-then-walk c =
    let s = c.args.self.now in
    let w = c.args.walk.now in
    let b = bucket_of s.shift in
    let few : List ℕ = kept_of b w.marks s.levels.now in
    let all = all_kept b s.levels.now w.marks w.place c.if-walk.true in
    let h = c.type_inv.self in
    omega (arith, c.requires.walked.kept, s.counted w.place, all, counted_within b few w.place, kept_few b s.levels.now w.marks, h)

pub returns-clause-walked : goal.returns-clause-walked
returns-clause-walked c =
    let s = c.args.self.now in
    let w = c.args.walk.now in
    let b = bucket_of s.shift in
    let down : w.place - 1 + 1 ≡ w.place = omega (arith, c.requires.some) in
    elim c.if-walk.branch [
      | then-walk t ↦ rw (t.walk-is) (walked_marked b s.levels.now w _ _ down refl (s.counted w.place) refl refl t.if-walk.true c.requires.walked)
      | else-walk t ↦ rw (t.walk-is) (walked_free b s.levels.now w _ _ down refl (s.counted w.place) refl refl t.if-walk.false c.requires.walked)
    ]
