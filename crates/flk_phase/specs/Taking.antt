-- What a phase becomes by samples.
use Rattle.std.specs.Prelude.{◌≡◌, ℕ, ◌+◌, ◌^◌, ◌<◌, ◌≤◌, List, ◌++◌, length, take, slice_index_or, None, Some, ℤ, pos}
use Rattle.flk_scale.specs.declared.scale.Scale.{Scale}
use Rattle.flk_scale.specs.Scale.{nominal_of, voltage_of}
use Rattle.flk_scale.specs.Voltage.{IsOverRange}
use Rattle.flk_scale.specs.Range.{IsWithinRange, IsFirstOver}
use Rattle.flk_dat.specs.Records.{Rows}
use Rattle.flk_phase.specs.declared.phase.Phase.{Phase}
use Rattle.flk_phase.specs.Phase.{scale_of, channel_of, whole_of, conditions_of, taken_of, spare_of, over_of, told_by, column_of, Stands}

-- what a phase was made for stays
pub record IsMadeAlike (old new : Phase) : Type 0 where
  pub scale : scale_of new ≡ scale_of old
  pub channel : channel_of new ≡ channel_of old
  pub whole : whole_of new ≡ whole_of old
  pub conditions : conditions_of new ≡ conditions_of old

-- it took these samples more
pub record HasTaken (old new : Phase) (xs : List ℤ) : Type 0 where
  pub taken : taken_of new ≡ taken_of old + length xs
  pub stands : (samples : List ℤ) → Stands old samples → Stands new (samples ++ xs)

-- so many of the samples come before the first one over range, or are all
pub record IsCountWithin (scale : Scale) (xs : List ℤ) (count : ℕ) : Type 0 where
  pub few : count ≤ length xs
  pub none : (k : ℕ) → k < count → ¬ IsOverRange (nominal_of scale) (voltage_of scale (slice_index_or xs k (pos 0)))
  pub over : count < length xs
      → IsOverRange (nominal_of scale) (voltage_of scale (slice_index_or xs count (pos 0)))

-- it took them all, and none is over range
pub record TookAll (old new : Phase) (xs : List ℤ) : Type 0 where
  pub within : IsWithinRange (nominal_of (scale_of old)) (told_by (scale_of old) xs)
  pub has : HasTaken old new xs

-- it took those before the first one over range, whose position, counted from 1 over all samples, is this
pub record StoppedAt (old new : Phase) (xs : List ℤ) (position : ℕ) : Type 0 where
  pub i : ℕ
  pub first : IsFirstOver (nominal_of (scale_of old)) (told_by (scale_of old) xs) i
  pub place : position ≡ taken_of old + i + 1
  pub has : HasTaken old new (take i xs)

-- nothing but the room changed
pub record IsSamePhase (old new : Phase) : Type 0 where
  pub alike : IsMadeAlike old new
  pub over : over_of new ≡ over_of old
  pub taken : taken_of new ≡ taken_of old
  pub stands : (samples : List ℤ) → Stands old samples → Stands new samples

-- These samples were given to the phase, which has room for as many less. Where one was over range before, it took none
-- of them. Else, where none of them is over range, it took them all; and where one is, it took those before the first
-- such one, and keeps that one's position.
pub record Takes (old new : Phase) (xs : List ℤ) : Type 0 where
  pub alike : IsMadeAlike old new
  pub spare : spare_of new + length xs ≡ spare_of old
  pub taken : taken_of new ≤ taken_of old + length xs
  pub kept : (position : ℕ) → over_of old ≡ Some position → IsSamePhase old new
  pub within : over_of old ≡ None → IsWithinRange (nominal_of (scale_of old)) (told_by (scale_of old) xs)
      → (over_of new ≡ None) × HasTaken old new xs
  pub over : (i : ℕ) → over_of old ≡ None → IsFirstOver (nominal_of (scale_of old)) (told_by (scale_of old) xs) i
      → (over_of new ≡ Some (taken_of old + i + 1)) × HasTaken old new (take i xs)

-- the phase took the samples of its channel in a block
abbrev pub TakesBlock : Phase → Phase → Rows → Type 0
TakesBlock old new b = Takes old new (column_of (channel_of old) b.records)

-- The block has the phase's channel, the phase has room for its samples, and no count reaches the end of 32 bits.
pub record MayTake (p : Phase) (b : Rows) : Type 0 where
  pub channel : channel_of p < b.analog
  pub room : length b.records ≤ spare_of p
  pub few : taken_of p + length b.records < 2 ^ 32
