use Rattle.std.proofs.Common.{ℕ, ◌<◌}
use Rattle.flk_section.specs.Kinds.{kind_at, IsKindAt}
use Rattle.flk_section.proofs.kind.are_of_design.Given as goal

abbrev pub invariant-loop-i : goal.invariant-loop-i
invariant-loop-i l = record { seen : (j : ℕ) → j < l.i → IsKindAt j (kind_at j) l.gains }
