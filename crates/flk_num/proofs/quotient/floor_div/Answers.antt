use Rattle.std.proofs.Common.{rules}
use Rattle.flk_exact.proofs.RoundingLemmas.{IsFloor-at}
use Rattle.flk_num.proofs.quotient.floor_div.Goals as goal

pub returns-clause-rounding : goal.returns-clause-rounding
returns-clause-rounding c = IsFloor-at _ _ _ c.requires (search rules)
