-- What a run of the program leaves, by its status. `old` and `new` are what the shelf tells at entry and at the end,
-- `was` and `is` what the sink tells.
use Rattle.std.specs.Prelude.{◌≡◌, ◌≢◌, ℕ, ◌<◌, ◌≤◌, List, [], length, map, slice_index_or}
use Rattle.std.specs.Io.KnownBytes.{Appends}
use Rattle.flk_io.specs.Causes.{Rose, AddsFront}
use Rattle.flk_io.specs.Told.{ShelfTold, SinkTold}
use Rattle.flk_top.specs.Command.{IsInput, IsOutput, Asks, inputs_of}
use Rattle.flk_top.specs.Faults.{read_line}
use Rattle.flk_top.specs.Outcome.{Outcome}
use Rattle.flk_top.specs.Told.{Files, Agrees, TellsInputs, AreAppended, AreBegun}
use Rattle.flk_top.specs.Answer.{IsDue, ComesToTurn}
use Rattle.flk_top.specs.declared.command.Command.{Command}

-- the outcome came whole: its status is answered, its text written and its pieces appended
pub record IsDone (o : Outcome) (result : ℕ) (old new : ShelfTold) (was is : SinkTold) : Type 0 where
  pub status : result ≡ o.status
  pub text : Appends was.written is.written o.text
  pub pieces : AreAppended old.added new.added o.pieces

-- The outcome was cut off: a read failed (4), an append failed, the text's write failed, a read failed and then the
-- write of its line (5), or memory was short (6).
pub data IsCut (words : List (List ℕ)) (o : Outcome) (result : ℕ)
    (old new : ShelfTold) (was is : SinkTold) : Type 0 where
  read : (name : List ℕ) → IsInput words name → result ≡ 4 → Rose old.read_faults new.read_faults
      → Appends was.written is.written read_line → AreBegun old.added new.added o.pieces
      → IsCut words o result old new was is
  append : o.pieces ≢ [] → result ≡ 5 → Rose old.append_faults new.append_faults
      → is ≡ was → AreBegun old.added new.added o.pieces
      → IsCut words o result old new was is
  write : result ≡ 5 → Rose was.faults is.faults
      → AddsFront was.written is.written o.text → AreAppended old.added new.added o.pieces
      → IsCut words o result old new was is
  read_and_write : (name : List ℕ) → IsInput words name → result ≡ 5 → Rose old.read_faults new.read_faults
      → Rose was.faults is.faults → AddsFront was.written is.written read_line → AreBegun old.added new.added o.pieces
      → IsCut words o result old new was is
  memory : result ≡ 6 → is ≡ was → AreBegun old.added new.added o.pieces
      → IsCut words o result old new was is

-- No count falls. Below 4 all stay; a failed read is told by 4, 5 or 6, and a failed append or write by 5. Where an
-- append failed, nothing is written.
pub record IsCounted (result : ℕ) (old new : ShelfTold) (was is : SinkTold) : Type 0 where
  pub reads_later : old.read_faults ≤ new.read_faults
  pub appends_later : old.append_faults ≤ new.append_faults
  pub writes_later : was.faults ≤ is.faults
  pub reads_stay : result < 4 → new.read_faults ≡ old.read_faults
  pub appends_stay : result < 4 → new.append_faults ≡ old.append_faults
  pub writes_stay : result < 4 → is.faults ≡ was.faults
  pub read_failed : old.read_faults < new.read_faults → 4 ≤ result
  pub append_failed : old.append_faults < new.append_faults → result ≡ 5
  pub append_silent : old.append_faults < new.append_faults → is ≡ was
  pub write_failed : was.faults < is.faults → result ≡ 5

-- Only inputs of the words are read, and only outputs are appended to; no read fails without an input, nor an append
-- without an output.
pub record IsConfined (words : List (List ℕ)) (old new : ShelfTold) : Type 0 where
  pub left : (name : List ℕ) → ¬ IsInput words name → new.left name ≡ old.left name
  pub added : (name : List ℕ) → ¬ IsOutput words name → new.added name ≡ old.added name
  pub reads : ((name : List ℕ) → ¬ IsInput words name) → new.read_faults ≡ old.read_faults
  pub appends : ((name : List ℕ) → ¬ IsOutput words name) → new.append_faults ≡ old.append_faults

-- Below 4 an outcome came whole that is due for some files that agree with all that is told.
abbrev pub DoneIsDue : (words : List (List ℕ)) → (result : ℕ) → (old new : ShelfTold) → (was is : SinkTold) → Type 0
DoneIsDue words result old new was is =
    result < 4
    → (files : Files) × (o : Outcome) × Agrees old files × IsDue words files o × IsDone o result old new was is

-- From 4 on such an outcome was cut off.
abbrev pub CutIsDue : (words : List (List ℕ)) → (result : ℕ) → (old new : ShelfTold) → (was is : SinkTold) → Type 0
CutIsDue words result old new was is =
    4 ≤ result
    → (files : Files) × (o : Outcome) × Agrees old files × IsDue words files o × IsCut words o result old new was is

-- An input is left as at entry where its turn doesn't come.
abbrev pub ReadsInTurn : (words : List (List ℕ)) → (old new : ShelfTold) → Type 0
ReadsInTurn words old new =
    (files : Files) → TellsInputs words old files → (q : Command) → Asks words q
    → (i : ℕ) → i < length (inputs_of q words) → ¬ ComesToTurn q (map files (inputs_of q words)) i
    → new.left (slice_index_or (inputs_of q words) i []) ≡ old.left (slice_index_or (inputs_of q words) i [])

-- all that is promised of a run, whatever its command is
pub record IsRun (words : List (List ℕ)) (result : ℕ) (old new : ShelfTold) (was is : SinkTold) : Type 0 where
  pub known : result ≤ 6
  pub done : DoneIsDue words result old new was is
  pub cut : CutIsDue words result old new was is
  pub counts : IsCounted result old new was is
  pub names : IsConfined words old new
  pub turn : ReadsInTurn words old new
