-- What the state of a smoothing stands for.
use Rattle.std.specs.Prelude.{◌≡◌, List}
use Rattle.flk_num.specs.declared.rate.Rate.{Rate}
use Rattle.flk_num.specs.Rate.{smoothing_number}
use Rattle.flk_front.specs.declared.point.Point.{Point}
use Rattle.flk_stat.specs.declared.smooth.Smooth.{Smooth}
use Rattle.flk_stat.specs.Rounded.{level_after}

-- the sampling rate of the points that it takes
abbrev pub rate_of : Smooth → Rate
rate_of smooth = smooth.rate

-- The state stands for these points, newest first: it keeps the level after them.
abbrev pub Stands : Smooth → List Point → Type 0
Stands smooth ws = smooth.level ≡ level_after (smoothing_number (rate_of smooth)) ws
