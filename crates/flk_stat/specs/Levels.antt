-- What the state of the levels of an interval stands for. Levels are in units of 2^-48, in the order of time.
use Rattle.std.specs.Prelude.{◌≡◌, ℕ, ◌+◌, List, length}
use Rattle.std.specs.List.Sorted.{IsPermutation}
use Rattle.flk_num.specs.declared.interval.Interval.{Interval}
use Rattle.flk_num.specs.Interval.{lows, highs}
use Rattle.flk_stat.specs.declared.levels.Levels.{Levels}
use Rattle.flk_stat.specs.ListOfEnds.{ends_of}

-- how many levels an interval has
abbrev pub size_of : Levels → ℕ
size_of l = l.size

-- how many may still be added
abbrev pub room_of : Levels → ℕ
room_of l = l.room

-- These levels were added, of an interval of n: the state keeps their ends, in some order.
pub record Added (l : Levels) (n : ℕ) (ls : List Interval) : Type 0 where
  pub size : size_of l ≡ n
  pub count : length ls + room_of l ≡ n
  pub lows : IsPermutation (lows ls) (ends_of l.lows)
  pub highs : IsPermutation (highs ls) (ends_of l.highs)
