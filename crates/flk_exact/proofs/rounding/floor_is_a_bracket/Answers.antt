use Rattle.flk_exact.proofs.RoundingLemmas.{floor_is_bracket}
use Rattle.flk_exact.proofs.rounding.floor_is_a_bracket.Goals as goal

pub returns : goal.returns
returns c = floor_is_bracket
