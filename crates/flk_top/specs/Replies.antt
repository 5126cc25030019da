-- What a reply says, and what composing it leaves of the shelf. Contracts of private functions cite this file.
use Rattle.std.specs.Prelude.{◌≡◌, ◌≢◌, ◌⊎◌, ℕ, ◌<◌, List, [], length, map, Some, slice_index_or, Contains, string_bytes, Result, IsErrOf}
use Rattle.std.specs.List.{AllZip}
use Rattle.flk_io.specs.Causes.{Rose, CountsOn}
use Rattle.flk_io.specs.Told.{ShelfTold}
use Rattle.flk_top.specs.Answer.{IsDueFor, IsDue, ComesToTurn}
use Rattle.flk_top.specs.Faults.{read_line}
use Rattle.flk_top.specs.Outcome.{Outcome}
use Rattle.flk_top.specs.Status.{status_number}
use Rattle.flk_top.specs.Told.{Files, Agrees, MayHold, AreAppended, AreBegun}
use Rattle.flk_top.specs.declared.command.Command.{Command}
use Rattle.flk_top.specs.declared.reply.CutOff.{CutOff}
use Rattle.flk_top.specs.declared.reply.CutOff.TheVariants.{OutOfMemory, AppendFailed}
use Rattle.flk_top.specs.declared.reply.Reply.{Reply}
use Rattle.flk_top.specs.declared.reply.Status.TheVariants.{ReadFailed}

-- ---- a command that appends nothing

-- the outcome that a reply tells where nothing is appended
abbrev pub outcome_of : Reply → Outcome
outcome_of r = record { status = status_number r.status; text = string_bytes r.text; pieces = [] }

-- Unless it tells of a failed read, the reply is due for some contents of the inputs, which are those told where they
-- are told.
abbrev pub IsExplained : Command → (names : List (List ℕ)) → ShelfTold → Reply → Type 0
IsExplained q names told r =
    r.status ≢ ReadFailed
    → (contents : List (List ℕ)) × AllZip MayHold (map told.left names) contents × IsDueFor q [] contents (outcome_of r)

-- The reply tells of a failed read only where one came, and else the count of failed reads is as it was.
pub record IsHonest (old new : ShelfTold) (r : Reply) : Type 0 where
  pub text : r.status ≡ ReadFailed → string_bytes r.text ≡ read_line
  pub rose : r.status ≡ ReadFailed → Rose old.read_faults new.read_faults
  pub quiet : r.status ≢ ReadFailed → new.read_faults ≡ old.read_faults

-- what is left under each name but these is as it was
abbrev pub ReadsOnly : (names : List (List ℕ)) → (old new : ShelfTold) → Type 0
ReadsOnly names old new = (name : List ℕ) → ¬ Contains names name → new.left name ≡ old.left name

-- an input that doesn't come to its turn is left as it was
abbrev pub AwaitsTurns : Command → (names : List (List ℕ)) → (old new : ShelfTold) → Type 0
AwaitsTurns q names old new =
    (contents : List (List ℕ)) → map old.left names ≡ map Some contents
    → (i : ℕ) → i < length names → ¬ ComesToTurn q contents i
    → new.left (slice_index_or names i []) ≡ old.left (slice_index_or names i [])

-- ---- any command

-- the outcome is due for some files that agree with what is told
abbrev pub IsDueSomewhere : (words : List (List ℕ)) → ShelfTold → Outcome → Type 0
IsDueSomewhere words told o = (files : Files) × Agrees told files × IsDue words files o

-- the reply tells the status and the text of the outcome
pub record Tells (r : Reply) (o : Outcome) : Type 0 where
  pub status : o.status ≡ status_number r.status
  pub text : o.text ≡ string_bytes r.text

-- the reply tells an outcome that is due, and its pieces were appended
abbrev pub IsTold : (words : List (List ℕ)) → (old new : ShelfTold) → Reply → Type 0
IsTold words old new r =
    (o : Outcome) × IsDueSomewhere words old o × Tells r o × AreAppended old.added new.added o.pieces

-- the pieces of an outcome that is due were begun
abbrev pub IsBegun : (words : List (List ℕ)) → (old new : ShelfTold) → Type 0
IsBegun words old new = (o : Outcome) × IsDueSomewhere words old o × AreBegun old.added new.added o.pieces

-- The pieces of an outcome that is due were begun, and then memory was short, or an append failed.
abbrev pub IsCutOff : (words : List (List ℕ)) → (old new : ShelfTold) → CutOff → Type 0
IsCutOff words old new OutOfMemory = IsBegun words old new × (new.append_faults ≡ old.append_faults)
IsCutOff words old new AppendFailed =
    Rose old.append_faults new.append_faults
    × (o : Outcome) × IsDueSomewhere words old o × (o.pieces ≢ []) × AreBegun old.added new.added o.pieces

-- no count of the shelf falls
pub record CountOn (old new : ShelfTold) : Type 0 where
  pub reads : CountsOn old.read_faults new.read_faults
  pub appends : CountsOn old.append_faults new.append_faults

-- ---- a command that appends

-- of what was added, only that under these names may have changed
abbrev pub AppendsOnly : (names : List (List ℕ)) → (old new : ShelfTold) → Type 0
AppendsOnly names old new = (name : List ℕ) → ¬ Contains names name → new.added name ≡ old.added name

-- an end for a failed append comes only where one came, and else the count of failed appends is as it was
pub record HasAppendCause {T : Type 0} (old new : ShelfTold) (result : Result T CutOff) : Type 0 where
  pub rose : IsErrOf result AppendFailed → Rose old.append_faults new.append_faults
  pub kept : IsErrOf result AppendFailed ⊎ (new.append_faults ≡ old.append_faults)
