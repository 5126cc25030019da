use Rattle.flk_scale.proofs.VoltageLemmas.{voltage_ends, voltage_small}
use Rattle.flk_scale.proofs.laws.interval_is_small.Goals as goal

pub returns-clause-ends : goal.returns-clause-ends
returns-clause-ends c = voltage_ends

pub returns-clause-small : goal.returns-clause-small
returns-clause-small c = voltage_small
