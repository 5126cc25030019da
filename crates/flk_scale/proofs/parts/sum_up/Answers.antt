use Rattle.std.proofs.Common.{arith}
use Rattle.std.proofs.lemmas.Int.{ints}
use Rattle.flk_scale.proofs.PartsLemmas.{up_by}
use Rattle.flk_scale.proofs.parts.sum_up.Goals as goal

pub returns : goal.returns
returns c =
    up_by c.args.p.quotient c.args.q.quotient _ _ _ _ c.needed_divisors.result c.needed_divisors.ensures.within c.needed_divisors.ensures.least (omega (arith, ints))
