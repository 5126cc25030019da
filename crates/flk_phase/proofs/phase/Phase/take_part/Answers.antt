use Rattle.std.proofs.Common.{arith, length-take-le}
use Rattle.flk_phase.proofs.phase.Phase.take_part.Goals as goal

pub returns-clause-has : goal.returns-clause-has
returns-clause-has c =
    let count = c.adapt_part-count in
    record {
      taken = omega (arith, c.weigh_part.ensures.taken, count.ensures.taken, length-take-le count.result c.args.xs.now count.ensures.count.few);
      stands = λ samples h. c.weigh_part.ensures.stands _ (count.ensures.ahead samples h);
    }
