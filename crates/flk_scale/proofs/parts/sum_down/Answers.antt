use Rattle.std.proofs.Common.{arith}
use Rattle.std.proofs.lemmas.Int.{ints}
use Rattle.flk_scale.proofs.PartsLemmas.{down_by}
use Rattle.flk_scale.proofs.parts.sum_down.Goals as goal

pub returns : goal.returns
returns c =
    down_by c.args.p.quotient c.args.q.quotient _ _ _ _ c.whole_divisors.result c.whole_divisors.ensures.within c.whole_divisors.ensures.greatest (omega (arith, ints))
