-- The sampling rates of the recordings that can be measured, and all that depends on them.
use Rattle.std.specs.Prelude.{ℕ, ◌*◌, ◌/◌, pos}
use Rattle.std.proofs.Common.{lit<}
use Rattle.flk_exact.specs.Fraction.{Fraction}
use Rattle.flk_num.specs.declared.lamp.Lamp.{Lamp}
use Rattle.flk_num.specs.declared.rate.Rate.{Rate}
use Rattle.flk_num.specs.declared.rate.Rate.TheVariants.{R2400, R4800}
use Rattle.flk_num.specs.Lamp.{window_of}

abbrev pub samples_per_second : Rate → ℕ
samples_per_second R2400 = 2400
samples_per_second R4800 = 4800

-- the samples of so many seconds
abbrev pub samples_in : Rate → (seconds : ℕ) → ℕ
samples_in rate seconds = samples_per_second rate * seconds

-- the seconds between two samples
abbrev pub sampling_interval : Rate → Fraction
sampling_interval R2400 = record { num = pos 1; den = 2400; positive = lit< tt }
sampling_interval R4800 = record { num = pos 1; den = 4800; positive = lit< tt }

-- the samples of half a nominal period: 24 or 20 at 2400 samples a second, 48 or 40 at 4800
abbrev pub half_at : Lamp → Rate → ℕ
half_at lamp rate = samples_per_second rate / window_of lamp

-- A sample counts for one part in 2^e in the input voltage adaptor's mean: a time constant of 2^e samples, which is
-- about 27.3 s.
abbrev pub adaptor_exponent : Rate → ℕ
adaptor_exponent R2400 = 16
adaptor_exponent R4800 = 17

-- what a sample counts for in the smoothing of 300 ms, over 2^32
abbrev pub smoothing_number : Rate → ℕ
smoothing_number R2400 = 5965232
smoothing_number R4800 = 2982616

-- the records of the longest recording that a report is made of
abbrev pub most_records : Rate → ℕ
most_records R2400 = 20000000
most_records R4800 = 40000000
