-- How far the data of a generated recording were given.
use Rattle.std.specs.Prelude.{◌≡◌, ℕ, ◌-◌, ◌<◌, Bool, true, false, List, ◌++◌}
use Rattle.flk_gen.specs.Recording.{records_in, generated_lines}
use Rattle.flk_gen.specs.Stands.{Stands, samples_left}
use Rattle.flk_gen.specs.Workload.{values}
use Rattle.flk_gen.specs.declared.recording.Recording.{Recording}

-- how many records are to come
abbrev pub records_left : Recording → ℕ
records_left r = samples_left r.workload

-- n records were given of the recording of this seed and so many seconds
pub record HasGiven (r : Recording) (seed seconds n : ℕ) : Type 0 where
  pub workload : Stands r.workload seed (records_in seconds) n
  pub last : 0 < n → r.last ≡ values seed (n - 1)

-- Of n records given, these bytes are the lines of the next ones, and all up to `next` are now given; where it is said
-- that there were more, there is at least one, and else all were given before.
pub record Continues (more : Bool) (seed seconds n : ℕ) (bytes : List ℕ) (new : Recording) : Type 0 where
  pub next : ℕ
  pub given : HasGiven new seed seconds next
  pub lines : generated_lines seed next ≡ generated_lines seed n ++ bytes
  pub further : more ≡ true → n < next
  pub end : more ≡ false → (n ≡ records_in seconds) × (next ≡ n)
