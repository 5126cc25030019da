-- Where a workload is in its recording.
use Rattle.std.specs.Prelude.{◌≡◌, ℕ, ◌+◌, ◌-◌, ◌/◌, ◌%◌, ◌≤◌}
use Rattle.flk_gen.specs.Workload.{draw}
use Rattle.flk_gen.specs.declared.workload.Workload.{Workload}

-- n samples were given of the recording of this seed, which has so many in all
pub record Stands (w : Workload) (seed all n : ℕ) : Type 0 where
  pub within : n ≤ all
  pub all_is : w.all ≡ all
  pub given : w.given ≡ n
  pub place : w.place ≡ n % 1200
  pub this : w.this ≡ draw seed (1 + n / 1200)
  pub next : w.next ≡ draw seed (2 + n / 1200)

-- how many samples are to come
abbrev pub samples_left : Workload → ℕ
samples_left w = w.all - w.given
