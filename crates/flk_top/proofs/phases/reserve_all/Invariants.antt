use Rattle.std.proofs.Common.{◌≡◌, ℕ, ◌<◌, ◌≤◌, length, get_or}
use Rattle.flk_phase.specs.declared.phase.Phase.{Phase}
use Rattle.flk_top.specs.Working.{IsReserved}
use Rattle.flk_top.proofs.phases.reserve_all.Given as goal

abbrev pub invariant-loop-i : goal.invariant-loop-i
invariant-loop-i l = record {
  count : length l.phases ≡ length l.initial.phases;
  done : (k : ℕ) (d : Phase) → k < l.i → IsReserved l.samples (get_or l.initial.phases k d) (get_or l.phases k d);
  rest : (k : ℕ) (d : Phase) → l.i ≤ k → get_or l.phases k d ≡ get_or l.initial.phases k d;
}
