use Rattle.std.proofs.Common.{arith, ◌∙◌}
use Rattle.flk_io.proofs.Pieces.{Appends-more, take_next}
use Rattle.flk_io.proofs.Told.{OnlyAppends-trans}
use Rattle.flk_io.proofs.whole.append_all.Goals as goal

pub loop-done-preserved : goal.loop-done-preserved
loop-done-preserved g c = record {
  within = omega (arith, c.in_ok-done.ensures.adds.1);
  front = Appends-more _ _ _ _ _ _ c.loop-done.invariant.front c.in_ok-done.ensures.adds.2 (take_next _ _ _);
  others = λ other differs. c.in_ok-done.ensures.others other differs ∙ c.loop-done.invariant.others other differs;
  only_appends = OnlyAppends-trans c.loop-done.invariant.only_appends c.in_ok-done.ensures.only_appends;
  faults = c.in_ok-done.ensures.cause.kept ∙ c.loop-done.invariant.faults;
}
