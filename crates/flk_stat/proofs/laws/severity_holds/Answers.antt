use Rattle.flk_stat.proofs.LevelLemmas.{severity_between}
use Rattle.flk_stat.proofs.laws.severity_holds.Goals as goal

pub returns : goal.returns
returns c = severity_between
