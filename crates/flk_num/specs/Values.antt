-- Values of half-periods, in billionths of nominal, and the intervals that hold them.
use Rattle.std.specs.Prelude.{ℕ, List, ℤ, pos, ◌+ℤ◌, ◌≤ℤ◌}
use Rattle.std.specs.List.{AllZip}
use Rattle.flk_exact.specs.Rounding.{IsBetween}
use Rattle.flk_num.specs.declared.interval.Interval.{Interval}

-- one exact value for each half-period, within its interval
abbrev pub HoldValues : List Interval → List ℤ → Type 0
HoldValues halves values = AllZip (λ h x. IsBetween h.lo h.hi x) halves values

-- the ends are from 0 to ten times nominal
pub record IsHalfPeriodRange (h : Interval) : Type 0 where
  pub low : pos 0 ≤ℤ h.lo
  pub high : h.hi ≤ℤ pos 10000000000

-- the interval is at most so wide, in whole billionths
pub record IsNoWider (width : ℕ) (h : Interval) : Type 0 where
  pub within : h.hi ≤ℤ (h.lo +ℤ pos width)
