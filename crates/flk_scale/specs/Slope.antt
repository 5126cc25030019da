-- What a slope stands for.
use Rattle.std.specs.Prelude.{ℕ, ℤ}
use Rattle.flk_scale.specs.Parts.{dividend}
use Rattle.flk_scale.specs.declared.slope.Slope.{Slope}

abbrev pub divisor_of : Slope → ℕ
divisor_of s = s.divisor

-- `2^48` times the number that is multiplied
abbrev pub step_dividend : Slope → ℤ
step_dividend s = dividend s.step s.divisor
