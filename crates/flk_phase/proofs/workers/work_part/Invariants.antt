-- The phases before the i-th have taken the block, and the others are as they were.
use Rattle.std.proofs.Common.{◌≡◌, ℕ, ◌<◌, ◌≤◌, get_or}
use Rattle.flk_phase.specs.declared.phase.Phase.{Phase}
use Rattle.flk_phase.specs.Taking.{TakesBlock}
use Rattle.flk_phase.proofs.workers.work_part.Given as goal

abbrev pub invariant-loop-i : goal.invariant-loop-i
invariant-loop-i g l = record {
  done : (k : ℕ) (d : Phase) → k < l.i → TakesBlock (get_or l.initial.part k d) (get_or l.part k d) l.block;
  rest : (k : ℕ) (d : Phase) → l.i ≤ k → get_or l.part k d ≡ get_or l.initial.part k d;
}
