use Rattle.std.proofs.Common.{arith, ◌≡◌, ◌+◌, ◌-◌, ◌<◌, length, take, drop}
use Rattle.flk_phase.specs.Phase.{scale_of}
use Rattle.flk_phase.specs.Taking.{HasTaken, IsCountWithin}
use Rattle.flk_phase.proofs.TakingLemmas.{part_taken, part_stopped, took_all, alike_twice}
use Rattle.flk_phase.proofs.phase.Phase.take_column.Goals as goal

pub loop-at-preserved : goal.loop-at-preserved
loop-at-preserved c =
    let old = c.args.self.now in
    let mid = c.loop-at.self in
    let new = c.take_part-count.new.self in
    let at = c.loop-at.at in
    let m = c.min.result in
    let n = c.take_part-count.result in
    let before = c.loop-at.invariant in
    let after = c.take_part-count.ensures in
    let size : at + m - at ≡ m = omega arith in
    let count : IsCountWithin (scale_of mid) (take m (drop at c.args.xs.now)) n = rw size at after.count in
    let has : HasTaken mid new (take n (take m (drop at c.args.xs.now))) = rw size at after.has in
    let t = part_taken old mid new c.args.xs.now at m n before.within before.alike.scale count before.taken has before.none in
    record {
      within = t.0;
      alike = alike_twice old mid new before.alike after.alike;
      spare = omega (arith, before.spare, after.spare);
      taken = t.1;
      none = t.2;
    }

pub returns-then-count-part-clause-some : goal.returns-then-count-part-clause-some
returns-then-count-part-clause-some c =
    let mid = c.loop-at.self in
    let new = c.take_part-count.new.self in
    let at = c.loop-at.at in
    let m = c.min.result in
    let n = c.take_part-count.result in
    let before = c.loop-at.invariant in
    let after = c.take_part-count.ensures in
    let size : at + m - at ≡ m = omega arith in
    let count : IsCountWithin (scale_of mid) (take m (drop at c.args.xs.now)) n = rw size at after.count in
    let has : HasTaken mid new (take n (take m (drop at c.args.xs.now))) = rw size at after.has in
    let less : n < length (take m (drop at c.args.xs.now)) = rw size at c.if-count-part.true in
    part_stopped c.args.self.now mid new c.args.xs.now at m n before.within before.alike.scale after.alike.scale count less before.taken has before.none

pub returns-clause-none : goal.returns-clause-none
returns-clause-none c =
    let before = c.loop-at.invariant in
    took_all c.args.self.now c.loop-at.self c.args.xs.now c.loop-at.at (omega (arith, before.within, c.loop-at-test.false)) before.none before.taken
