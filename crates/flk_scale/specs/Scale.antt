-- What a scale stands for, and which channels have none.
use Rattle.std.specs.Prelude.{◌≡◌, ℕ, ◌*◌, ◌^◌, ◌≤◌, ℤ}
use Rattle.std.specs.Int.RustNames.{unsigned_abs}
use Rattle.flk_exact.specs.Fraction.{Fraction}
use Rattle.flk_cfg.specs.declared.config.Analog.{Analog}
use Rattle.flk_scale.specs.Voltage.{IsVoltageUnit, voltage_on_line, recorded_voltage}
use Rattle.flk_scale.specs.Unit.{microvolts}
use Rattle.flk_scale.specs.declared.scale.Scale.{Scale}
use Rattle.flk_scale.specs.declared.scale.ScaleFault.{ScaleFault}
use Rattle.flk_scale.specs.declared.scale.ScaleFault.TheVariants as faults
use Rattle.flk_scale.specs.declared.supply.Supply.{Supply}

-- the nominal voltage in millivolts, and the uncertainty in microvolts, for which a scale was made
abbrev pub nominal_of : Scale → ℕ
nominal_of s = s.supply.nominal_mv

abbrev pub uncertainty_of : Scale → ℕ
uncertainty_of s = s.supply.uncertainty_uv

-- the voltage that a sample records on this scale, in microvolts
abbrev pub voltage_of : Scale → ℤ → Fraction
voltage_of s x = voltage_on_line s.factor s.offset (microvolts s.unit) x

-- the scale was made for this channel and supply
pub record IsScaleOf (channel : Analog) (supply : Supply) (s : Scale) : Type 0 where
  pub voltage : (x : ℤ) → voltage_of s x ≡ recorded_voltage channel x
  pub nominal : nominal_of s ≡ supply.nominal_mv
  pub uncertainty : uncertainty_of s ≡ supply.uncertainty_uv

-- a and b are at most 10000 in size
pub record HasSmallScale (channel : Analog) : Type 0 where
  pub factor : unsigned_abs channel.a.n ≤ 10000 * 10 ^ 24
  pub offset : unsigned_abs channel.b.n ≤ 10000 * 10 ^ 24

-- the channel has a scale
pub record HasScale (channel : Analog) : Type 0 where
  pub unit : IsVoltageUnit channel.uu
  pub small : HasSmallScale channel

-- it has none, for this reason; the unit is judged first
abbrev pub HasNoScale : Analog → ScaleFault → Type 0
HasNoScale channel faults.Unit = ¬ IsVoltageUnit channel.uu
HasNoScale channel faults.Scale = IsVoltageUnit channel.uu × (¬ HasSmallScale channel)
