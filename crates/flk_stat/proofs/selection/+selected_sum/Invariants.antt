use Rattle.std.proofs.Common.{length}
use Rattle.flk_stat.proofs.selection.+selected_sum.Given as goal

-- one rank fewer each time
abbrev pub decreases-selected_sum : goal.decreases-selected_sum
decreases-selected_sum l = length l.wanted.now
