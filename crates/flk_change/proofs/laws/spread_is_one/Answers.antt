use Rattle.flk_change.proofs.ValueLemmas.{spread_exists}
use Rattle.flk_change.proofs.laws.spread_is_one.Goals as goal

pub returns-clause-exists : goal.returns-clause-exists
returns-clause-exists c = spread_exists
