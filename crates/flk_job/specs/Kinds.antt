-- The number of each kind of fault of a job.
use Rattle.std.specs.Prelude.{ℕ}
use Rattle.flk_job.specs.declared.kind.Kind.{Kind}
use Rattle.flk_job.specs.declared.kind.Kind.TheVariants.{Toml, Unknown, Absent, OtherType, Range, Length}

-- the number that is printed
abbrev pub kind_number : Kind → ℕ
kind_number Toml = 1
kind_number Unknown = 2
kind_number Absent = 3
kind_number OtherType = 4
kind_number Range = 5
kind_number Length = 6
