use Rattle.flk_scale.proofs.VoltageLemmas.{voltage_same}
use Rattle.flk_scale.proofs.laws.voltage_has_one_interval.Goals as goal

pub returns : goal.returns
returns c = voltage_same
