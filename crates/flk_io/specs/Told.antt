-- What a shelf and a sink tell of their bytes, and how many of their calls failed.
use Rattle.std.specs.Prelude.{◌≡◌, ℕ, List, Option}
use Rattle.flk_io.specs.Causes.{CountsOn, OthersStay, AllStay}

-- what a shelf tells of its names, and how many of its calls failed
pub record ShelfTold : Type 0 where
  -- what is left to read under a name, where that is told
  pub left : List ℕ → Option (List ℕ)
  -- what was added under a name, where that is told
  pub added : List ℕ → Option (List ℕ)
  -- how many reads failed; the count stands still at 2^64 - 1
  pub read_faults : ℕ
  -- how many appends failed; the count stands still at 2^64 - 1
  pub append_faults : ℕ

-- what a sink tells, and how many of its writes failed
pub record SinkTold : Type 0 where
  -- what was written, where that is told
  pub written : Option (List ℕ)
  -- how many writes failed; the count stands still at 2^64 - 1
  pub faults : ℕ

-- only reads came between: nothing was added nor failed to be, and failed reads were counted on
pub record OnlyReads (old new : ShelfTold) : Type 0 where
  pub nothing_added : AllStay old.added new.added
  pub append_faults : new.append_faults ≡ old.append_faults
  pub count : CountsOn old.read_faults new.read_faults

-- only appends came between: nothing was taken nor failed to be, and failed appends were counted on
pub record OnlyAppends (old new : ShelfTold) : Type 0 where
  pub nothing_taken : AllStay old.left new.left
  pub read_faults : new.read_faults ≡ old.read_faults
  pub count : CountsOn old.append_faults new.append_faults

-- of what is left to read, only that under this name may have changed
abbrev pub ReadsUnder : List ℕ → ShelfTold → ShelfTold → Type 0
ReadsUnder name old new = OthersStay name old.left new.left

-- of what was added, only that under this name may have changed
abbrev pub AppendsUnder : List ℕ → ShelfTold → ShelfTold → Type 0
AppendsUnder name old new = OthersStay name old.added new.added
