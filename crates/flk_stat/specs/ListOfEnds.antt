-- The ends that a list of ends has.
use Rattle.std.specs.Prelude.{ℕ, ℤ, List, min, vec_capacity}
use Rattle.flk_stat.specs.declared.list_of_ends.ListOfEnds.{ListOfEnds}
use Rattle.flk_stat.specs.Ranked.{together}

-- the ends, in some order
abbrev pub ends_of : ListOfEnds → List ℤ
ends_of l = together l.narrow.items l.wide.items

-- for how many ends there is room, whatever their size
abbrev pub capacity_of : ListOfEnds → ℕ
capacity_of l = min (vec_capacity l.narrow) (vec_capacity l.wide)
