use Rattle.flk_stat.proofs.SmoothingLaws.{AreLevels-exists, AreLevels-unique}
use Rattle.flk_stat.proofs.laws.signal_has_levels.Goals as goal

pub returns-clause-exists : goal.returns-clause-exists
returns-clause-exists c = AreLevels-exists

pub returns-clause-unique : goal.returns-clause-unique
returns-clause-unique c = AreLevels-unique
