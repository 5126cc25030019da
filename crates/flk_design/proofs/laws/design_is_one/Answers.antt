use Rattle.flk_design.proofs.DesignLemmas.{design_unique}
use Rattle.flk_design.proofs.laws.design_is_one.Goals as goal

pub returns : goal.returns
returns c = design_unique
