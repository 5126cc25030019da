-- The number of each kind of fault.
use Rattle.std.specs.Prelude.{ℕ}
use Rattle.flk_field.specs.declared.kind.Kind.{Kind}
use Rattle.flk_field.specs.declared.kind.Kind.TheVariants.{End, Fields, Number, Range, Word, Revision, Rates, Length}

-- the number that is printed
abbrev pub kind_number : Kind → ℕ
kind_number End = 1
kind_number Fields = 2
kind_number Number = 3
kind_number Range = 4
kind_number Word = 5
kind_number Revision = 6
kind_number Rates = 7
kind_number Length = 8
