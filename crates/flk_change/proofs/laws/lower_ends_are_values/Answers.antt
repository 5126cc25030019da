use Rattle.flk_change.proofs.ValueLemmas.{lows_are_held}
use Rattle.flk_change.proofs.laws.lower_ends_are_values.Goals as goal

pub returns : goal.returns
returns c = lows_are_held
