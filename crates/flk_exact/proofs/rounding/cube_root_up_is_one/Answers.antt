use Rattle.flk_exact.proofs.RootLemmas.{cube_root_up_exists, cube_root_up_unique}
use Rattle.flk_exact.proofs.rounding.cube_root_up_is_one.Goals as goal

pub returns-clause-exists : goal.returns-clause-exists
returns-clause-exists c = cube_root_up_exists

pub returns-clause-unique : goal.returns-clause-unique
returns-clause-unique c = cube_root_up_unique
