use Rattle.flk_stat.proofs.SmoothingLemmas.{levels_held}
use Rattle.flk_stat.proofs.laws.levels_hold_signals.Goals as goal

pub returns : goal.returns
returns c = levels_held
