-- Bounds of what depends on a sampling rate.
use Rattle.std.proofs.Common.{ℕ, ◌^◌, ◌<◌, arith}
use Rattle.flk_num.specs.Rate.{samples_per_second, samples_in, half_at}
use Rattle.flk_num.specs.declared.lamp.Lamp.{Lamp}
use Rattle.flk_num.specs.declared.lamp.Lamp.TheVariants.{L230, L120}
use Rattle.flk_num.specs.declared.rate.Rate.{Rate}
use Rattle.flk_num.specs.declared.rate.Rate.TheVariants.{R2400, R4800}

pub rate_some : (rate : Rate) → 0 < samples_per_second rate
rate_some R2400 = omega arith
rate_some R4800 = omega arith

pub samples_at_most : (rate : Rate) (seconds : ℕ) → seconds < 2 ^ 16 → samples_in rate seconds < 2 ^ 31
samples_at_most R2400 seconds few = omega (arith, few)
samples_at_most R4800 seconds few = omega (arith, few)

pub half_some : (lamp : Lamp) (rate : Rate) → 0 < half_at lamp rate
half_some L230 R2400 = omega arith
half_some L230 R4800 = omega arith
half_some L120 R2400 = omega arith
half_some L120 R4800 = omega arith
