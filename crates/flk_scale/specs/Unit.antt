-- Units of voltage.
use Rattle.std.specs.Prelude.{ℕ, ◌^◌}
use Rattle.flk_scale.specs.declared.unit.VoltageUnit.{VoltageUnit}
use Rattle.flk_scale.specs.declared.unit.VoltageUnit.TheVariants.{Volt, Kilovolt}

-- the microvolts of one unit
abbrev pub microvolts : VoltageUnit → ℕ
microvolts Volt = 10 ^ 6
microvolts Kilovolt = 10 ^ 9
