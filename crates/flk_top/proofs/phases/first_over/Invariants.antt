use Rattle.flk_top.specs.Working.{IsFirstOverOfPhases}
use Rattle.flk_top.proofs.phases.first_over.Given as goal

abbrev pub invariant-loop-i : goal.invariant-loop-i
invariant-loop-i l = IsFirstOverOfPhases l.phases l.i l.first
