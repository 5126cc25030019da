use Rattle.flk_scale.proofs.VoltageLemmas.{voltage_near}
use Rattle.flk_scale.proofs.laws.interval_is_near.Goals as goal

pub returns : goal.returns
returns c = λ nominal e r u delta v some is own covers. voltage_near nominal e r v u delta some is own covers
