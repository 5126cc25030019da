use Rattle.flk_scale.proofs.VoltageLemmas.{voltage_narrow}
use Rattle.flk_scale.proofs.laws.interval_is_narrow.Goals as goal

pub returns : goal.returns
returns c = λ nominal e r delta v some is covers. voltage_narrow nominal e r v delta some is covers
