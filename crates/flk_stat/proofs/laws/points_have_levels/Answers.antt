use Rattle.flk_stat.proofs.SmoothingLaws.{AreLevelIntervals-exists, AreLevelIntervals-unique}
use Rattle.flk_stat.proofs.laws.points_have_levels.Goals as goal

pub returns-clause-exists : goal.returns-clause-exists
returns-clause-exists c = AreLevelIntervals-exists

pub returns-clause-unique : goal.returns-clause-unique
returns-clause-unique c = AreLevelIntervals-unique
