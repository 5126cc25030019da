-- Units of voltage.
use Rattle.std.proofs.Common.{◌<◌, arith}
use Rattle.flk_scale.specs.Unit.{microvolts}
use Rattle.flk_scale.specs.declared.unit.VoltageUnit.{VoltageUnit}
use Rattle.flk_scale.specs.declared.unit.VoltageUnit.TheVariants.{Volt, Kilovolt}

pub microvolts_some : (u : VoltageUnit) → 0 < microvolts u
microvolts_some Volt = omega arith
microvolts_some Kilovolt = omega arith
