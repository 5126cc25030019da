use Rattle.flk_scale.proofs.VoltageLemmas.{doubt_covered, doubt_least}
use Rattle.flk_scale.proofs.laws.doubt_is_covered.Goals as goal

pub returns-clause-covered : goal.returns-clause-covered
returns-clause-covered c = doubt_covered

pub returns-clause-least : goal.returns-clause-least
returns-clause-least c = doubt_least
