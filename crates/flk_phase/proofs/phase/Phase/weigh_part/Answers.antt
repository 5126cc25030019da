use Rattle.std.proofs.Common.{arith, ◌≤◌, length, refl, ◌∙◌}
use Rattle.flk_phase.proofs.TakingLemmas.{waiting_less, none_waits, alike_twice}
use Rattle.flk_phase.proofs.phase.Phase.weigh_part.Goals as goal

pub loop-point-preserved : goal.loop-point-preserved
loop-point-preserved c =
    let old = c.args.self.now in
    let mid = c.loop-point.self in
    let new = c.weigh.new.self in
    let before = c.loop-point.invariant in
    let after = c.weigh.ensures in
    record {
      alike = alike_twice old mid new before.alike after.alike;
      over = after.over ∙ before.over;
      spare = after.spare ∙ before.spare;
      taken = after.taken ∙ before.taken;
      stands = λ samples h. waiting_less mid new samples c.args.points.now c.loop-point.point-index _ c.loop-point-test.true refl (after.ahead samples) (before.stands samples h);
    }

pub returns-clause-stands : goal.returns-clause-stands
returns-clause-stands c = λ samples h.
    let all : length c.args.points.now ≤ c.loop-point.point-index = omega (arith, c.loop-point-test.false) in
    none_waits c.loop-point.self samples c.args.points.now c.loop-point.point-index all (c.loop-point.invariant.stands samples h)
