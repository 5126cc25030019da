-- The squaring and smoothing in whole numbers. Two ends are kept of each value, and each is rounded away from the other, so that no exact
-- value is lost. Signals and levels are in units of 2^-48, squares of signals in units of 2^-96. Lists have the newest value first. `/`
-- rounds down, and `div_ceil` up. The equations are the project's own.
use Rattle.std.specs.Prelude.{◌≡◌, ℕ, ◌+◌, ◌-◌, ◌*◌, ◌/◌, ◌^◌, List, [], ◌∷◌, pos, ◌+ℤ◌, ◌-ℤ◌}
use Rattle.std.specs.Int.{div_ceil}
use Rattle.flk_num.specs.declared.interval.Interval.{Interval}
use Rattle.flk_num.specs.Square.{least_size, greatest_size}
use Rattle.flk_front.specs.declared.point.Point.{Point}
use Rattle.flk_stat.specs.declared.ends.Ends.{Ends}
use Rattle.flk_stat.specs.Smoothing.{scale}

-- the least and the greatest square of a signal of the point, which reaches from `mid - radius` to `mid + radius`
abbrev pub squares_of : Point → Ends
squares_of w = record {
  lo = least_size (w.mid -ℤ w.radius) (w.mid +ℤ w.radius) * least_size (w.mid -ℤ w.radius) (w.mid +ℤ w.radius);
  hi = greatest_size (w.mid -ℤ w.radius) (w.mid +ℤ w.radius) * greatest_size (w.mid -ℤ w.radius) (w.mid +ℤ w.radius);
}

-- `scale` times the squares, in units of 2^-48
abbrev pub scaled_of : Ends → Ends
scaled_of square = record {
  lo = square.lo / 2 ^ 16 * scale / 2 ^ 32;
  hi = div_ceil (div_ceil square.hi (2 ^ 16) * scale) (2 ^ 32);
}

-- The level after a sample: the mean of the level before it and of the scaled square, of which the square counts for c parts in 2^32.
-- (So it is `level + c * (square - level) / 2^32`.)
abbrev pub next_level : (c : ℕ) → (level square : Ends) → Ends
next_level c level square = record {
  lo = ((2 ^ 32 - c) * level.lo + c * square.lo) / 2 ^ 32;
  hi = div_ceil ((2 ^ 32 - c) * level.hi + c * square.hi) (2 ^ 32);
}

-- the level after these points, and 0 before the first
abbrev pub level_after : (c : ℕ) → List Point → Ends
level_after c [] = record { lo = 0; hi = 0 }
level_after c (w ∷ ws) = next_level c (level_after c ws) (scaled_of (squares_of w))

-- the interval has these ends
pub record IsLevel (ends : Ends) (v : Interval) : Type 0 where
  pub lo : v.lo ≡ pos ends.lo
  pub hi : v.hi ≡ pos ends.hi

-- one interval for each point, that of the level after it
abbrev pub AreLevelIntervals : (c : ℕ) → List Point → List Interval → Type 0
AreLevelIntervals c [] [] = Unit {0}
AreLevelIntervals c (w ∷ ws) (v ∷ vs) = IsLevel (level_after c (w ∷ ws)) v × AreLevelIntervals c ws vs
AreLevelIntervals c _ _ = ⊥
