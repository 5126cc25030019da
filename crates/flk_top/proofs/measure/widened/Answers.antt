use Rattle.flk_top.proofs.WidenedLemmas.{Widens-some}
use Rattle.flk_top.proofs.measure.widened.Goals as goal

pub returns-in-Some : goal.returns-in-Some
returns-in-Some c =
    rw c.in-Some.is
    (Widens-some c.in-Some.e c.args.value record { least = c.lesser.result; greatest = c.greater.result } c.lesser.ensures.lo c.lesser.ensures.hi c.greater.ensures.lo c.greater.ensures.hi)
