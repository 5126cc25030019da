-- The adaptor and the squaring in whole numbers. Two ends are kept of each value, and each is rounded away from the
-- other, so that no exact value is lost. Squares and outputs are in units of 2^-48, means and divisors in units of
-- 2^-64. Lists have the newest value first. `/` rounds down, and `div_ceil` up. The equations are the project's own.
use Rattle.std.specs.Prelude.{◌≡◌, ℕ, ◌+◌, ◌-◌, ◌*◌, ◌/◌, ◌^◌, max, List, [], ◌∷◌, pos, ◌-ℤ◌}
use Rattle.std.specs.Int.{div_ceil}
use Rattle.flk_num.specs.declared.interval.Interval.{Interval}
use Rattle.flk_num.specs.Square.{least_size, greatest_size}
use Rattle.flk_front.specs.declared.ends.Ends.{Ends}
use Rattle.flk_front.specs.declared.point.Point.{Point}

-- the least and the greatest square of a voltage of v
abbrev pub squares_of : Interval → Ends
squares_of v = record {
  lo = least_size v.lo v.hi * least_size v.lo v.hi / 2 ^ 48;
  hi = div_ceil (greatest_size v.lo v.hi * greatest_size v.lo v.hi) (2 ^ 48);
}

-- the mean after a sample: what is between the square and the mean before it counts for one part in 2^e, where e is
-- at least 16
abbrev pub next_mean : ℕ → Ends → Ends → Ends
next_mean e mean squares = record {
  lo = mean.lo - div_ceil mean.lo (2 ^ e) + squares.lo / 2 ^ (e - 16);
  hi = mean.hi - mean.hi / 2 ^ e + div_ceil squares.hi (2 ^ (e - 16));
}

-- the mean after these samples; before the first it is 1
abbrev pub mean_of : ℕ → List Interval → Ends
mean_of e [] = record { lo = 2 ^ 64; hi = 2 ^ 64 }
mean_of e (v ∷ vs) = next_mean e (mean_of e vs) (squares_of v)

-- by which a square is divided: the mean before the sample, and at least a quarter
abbrev pub divisor_of : Ends → Ends
divisor_of mean = record { lo = max mean.lo (2 ^ 62); hi = max mean.hi (2 ^ 62) }

abbrev pub output_of : Ends → Ends → Ends
output_of squares divisor = record {
  lo = squares.lo * 2 ^ 64 / divisor.hi;
  hi = div_ceil (squares.hi * 2 ^ 64) divisor.lo;
}

-- the output at the sample v after the samples vs
abbrev pub newest_output : ℕ → List Interval → Interval → Ends
newest_output e vs v = output_of (squares_of v) (divisor_of (mean_of e vs))

-- the point reaches from the middle of two ends, rounded down, to the upper one
pub record IsPoint (ends : Ends) (p : Point) : Type 0 where
  pub mid : p.mid ≡ pos ((ends.lo + ends.hi) / 2)
  pub radius : p.radius ≡ pos ends.hi -ℤ p.mid

-- one point for each sample, that of its output
abbrev pub ArePoints : ℕ → List Interval → List Point → Type 0
ArePoints e [] [] = Unit {0}
ArePoints e (v ∷ vs) (p ∷ ps) = IsPoint (newest_output e vs v) p × ArePoints e vs ps
ArePoints e _ _ = ⊥
