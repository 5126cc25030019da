use Rattle.flk_scale.proofs.VoltageLemmas.{voltage_holds}
use Rattle.flk_scale.proofs.laws.interval_holds_each_admitted_voltage.Goals as goal

pub returns : goal.returns
returns c = λ nominal e r u v some is admits. voltage_holds nominal e r v u some is admits
