-- Some of the phases, one after another, at a block.
use Rattle.std.specs.Prelude.{◌≡◌, ℕ, ◌+◌, ◌^◌, ◌<◌, Bool, true, List, length, slice_index_or}
use Rattle.flk_dat.specs.Records.{Rows}
use Rattle.flk_phase.specs.declared.phase.Phase.{Phase}
use Rattle.flk_phase.specs.Taking.{TakesBlock, MayTake}

-- The phases, of which the first is the one at this place, may take the block, and their places may pass.
pub record IsReady (admits : ℕ → Bool) (start : ℕ) (phases : List Phase) (b : Rows) : Type 0 where
  pub places : start + length phases < 2 ^ 64
  pub each : (i : ℕ) (d : Phase) → i < length phases → MayTake (slice_index_or phases i d) b
  pub pass : (i : ℕ) → i < length phases → admits (start + i) ≡ true

-- each of the phases took the block
pub record IsWorked (old new : List Phase) (b : Rows) : Type 0 where
  pub count : length new ≡ length old
  pub each : (i : ℕ) (d : Phase) → i < length old → TakesBlock (slice_index_or old i d) (slice_index_or new i d) b
