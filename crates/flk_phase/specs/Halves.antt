-- What the state of the half-periods of a channel stands for. Lists are in the order of time.
use Rattle.std.specs.Prelude.{◌≡◌, ℕ, Bool, List, length}
use Rattle.flk_num.specs.declared.interval.Interval.{Interval}
use Rattle.flk_half.specs.Cutter.{half_of as half_of_cutter}
use Rattle.flk_half.specs.Intervals.{HasCut}
use Rattle.flk_change.specs.declared.flag.Flag.{Flag}
use Rattle.flk_change.specs.Steady.{AreFlags, Stands}
use Rattle.flk_phase.specs.declared.halves.Halves.{Halves}

-- the samples of half a nominal period
abbrev pub half_of : Halves → ℕ
half_of h = half_of_cutter h.cutter

-- the half-periods of one second
abbrev pub window_of : Halves → ℕ
window_of h = h.window

-- how many samples there is room for
abbrev pub spare_of : Halves → ℕ
spare_of h = h.spare

-- how many half-periods ended
abbrev pub count_of : Halves → ℕ
count_of h = length h.halves.items

-- their intervals, and the flags of the windows that end with them
abbrev pub halves_in : Halves → List Interval
halves_in h = h.halves.items

abbrev pub flags_in : Halves → List Flag
flags_in h = h.flags.items

-- The state stands for samples with these signs and voltages: their half-periods have these intervals and flags.
pub record StandsFor (h : Halves) (negative : List Bool) (voltages : List Interval) : Type 0 where
  pub cut : HasCut h.cutter (half_of h) negative voltages (halves_in h)
  pub steady : Stands h.steady (window_of h) (halves_in h)
  pub are_flags : AreFlags (window_of h) (halves_in h) (flags_in h)

-- the half-periods stay, and with them all samples for which they stand
pub record AreSameHalves (old new : Halves) : Type 0 where
  pub half : half_of new ≡ half_of old
  pub window : window_of new ≡ window_of old
  pub count : count_of new ≡ count_of old
  pub stands : (negative : List Bool) (voltages : List Interval)
      → StandsFor old negative voltages → StandsFor new negative voltages
