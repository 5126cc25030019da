use Rattle.flk_exact.proofs.RoundingLemmas.{ceil_is_bracket}
use Rattle.flk_exact.proofs.rounding.ceil_is_a_bracket.Goals as goal

pub returns : goal.returns
returns c = ceil_is_bracket
