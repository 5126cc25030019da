use Rattle.std.proofs.Common.{refl}
use Rattle.flk_top.proofs.measure.with_half_period.Goals as goal

pub returns-in-Some : goal.returns-in-Some
returns-in-Some c = rw c.in-Some.is (refl, c.widened.result, refl, c.widened.ensures)
