use Rattle.std.proofs.Common.{rules, arith, ◌≡◌, ◌+◌, ◌<◌, ◌++◌, ℕ, ℤ, List, pos, get_or, length, set, take, reverse, to_z, of_z, ap, sym, subst, ◌∙◌, length-set}
use Rattle.std.specs.List.{All}
use Rattle.std.specs.Int.{w32}
use Rattle.flk_section.specs.Points.{IsPointInRange}
use Rattle.flk_phase.specs.declared.phase.Phase.{Phase}
use Rattle.flk_phase.specs.Phase.{scale_of, Stands, StandsAhead}
use Rattle.flk_phase.proofs.TakingLemmas.{ahead_more, points_more, none_more, alike_twice, count_all, count_stopped}
use Rattle.flk_phase.proofs.phase.Phase.adapt_part.Goals as goal

pub loop-x-preserved : goal.loop-x-preserved
loop-x-preserved c =
    let old = c.args.self.now in
    let mid = c.loop-x.self in
    let new = c.adapt.new.self in
    let n = c.loop-x.x-index in
    let xs = c.args.xs.now in
    let points = c.loop-x.points in
    let point = c.in-Ok.point in
    let before = c.loop-x.invariant in
    let after = c.in-Ok.ensures in
    let same : to_z w32 (of_z w32 (get_or xs n (pos 0))) ≡ get_or xs n (pos 0) = search rules in
    let room : n < length points = omega (arith, before.long, c.requires.short, c.loop-x-test.true, c.loop-x.auto.x-index-end) in
    let ahead : (samples : List ℤ) → Stands old samples → StandsAhead new (samples ++ take (n + 1) xs) (reverse (take (n + 1) (set points n point))) =
    λ samples h. ahead_more new samples xs points n _ point c.loop-x-test.true room same (after.ahead _ _ (before.ahead samples h)) in
    let fine : All IsPointInRange (take (n + 1) (set points n point)) = points_more points n point room after.point before.fine in
    record {
      place = ap (λ (k : ℕ). k + 1) before.place;
      long = length-set points _ point ∙ before.long;
      alike = alike_twice old mid new before.alike after.alike;
      over = after.over ∙ before.over;
      spare = omega (arith, before.spare, after.spare);
      taken = omega (arith, before.taken, after.taken);
      none = none_more (scale_of old) (scale_of mid) xs n _ before.alike.scale same before.none after.within;
      ahead = rw before.place ahead;
      fine = rw before.place fine;
    }

pub returns-in_default-clause-count : goal.returns-in_default-clause-count
returns-in_default-clause-count c =
    let n = c.loop-x.x-index in
    let xs = c.args.xs.now in
    let before = c.loop-x.invariant in
    let same : to_z w32 (of_z w32 (get_or xs n (pos 0))) ≡ get_or xs n (pos 0) = search rules in
    count_stopped (scale_of c.args.self.now) (scale_of c.loop-x.self) xs n c.loop-x.count _ before.place c.loop-x-test.true before.alike.scale same before.none c.in_default.ensures.over_range

pub returns-in_default-clause-ahead : goal.returns-in_default-clause-ahead
returns-in_default-clause-ahead c = λ samples h.
    let n = c.loop-x.x-index in
    let before = c.loop-x.invariant in
    let there : (p : Phase) → p ≡ c.loop-x.self → StandsAhead p (samples ++ take n c.args.xs.now) (reverse (take n c.loop-x.points)) =
    λ p is. subst (λ (q : Phase). StandsAhead q (samples ++ take n c.args.xs.now) (reverse (take n c.loop-x.points))) (sym is) (before.ahead samples h) in
    rw before.place (there c.adapt.new.self c.in_default.ensures.unchanged)

pub returns-in_default-clause-points : goal.returns-in_default-clause-points
returns-in_default-clause-points c = rw c.loop-x.invariant.place c.loop-x.invariant.fine

pub returns-clause-count : goal.returns-clause-count
returns-clause-count c =
    let before = c.loop-x.invariant in
    count_all (scale_of c.args.self.now) c.args.xs.now c.loop-x.x-index c.loop-x.count before.place (omega (arith, c.loop-x-test.false, c.loop-x.auto.x-index-end)) before.none

pub returns-clause-ahead : goal.returns-clause-ahead
returns-clause-ahead c = λ samples h. rw c.loop-x.invariant.place (c.loop-x.invariant.ahead samples h)

pub returns-clause-points : goal.returns-clause-points
returns-clause-points c = rw c.loop-x.invariant.place c.loop-x.invariant.fine
