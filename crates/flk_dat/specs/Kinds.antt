-- The number of each kind of fault.
use Rattle.std.specs.Prelude.{ℕ}
use Rattle.flk_dat.specs.declared.kind.Kind.{Kind}
use Rattle.flk_dat.specs.declared.kind.Kind.TheVariants.{Fields, Number, Range, Order, Short, Long, Missing, Length}

-- the number that is printed
abbrev pub data_kind_number : Kind → ℕ
data_kind_number Fields = 1
data_kind_number Number = 2
data_kind_number Range = 3
data_kind_number Order = 4
data_kind_number Short = 5
data_kind_number Long = 6
data_kind_number Missing = 7
data_kind_number Length = 8
