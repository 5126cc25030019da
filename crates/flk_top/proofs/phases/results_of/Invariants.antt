use Rattle.std.proofs.Common.{take}
use Rattle.std.specs.List.{AllZip}
use Rattle.flk_top.specs.Working.{IsEndOf}
use Rattle.flk_top.proofs.phases.results_of.Given as goal

abbrev pub invariant-loop-phase : goal.invariant-loop-phase
invariant-loop-phase l = AllZip IsEndOf (take l.phase-index l.phases) l.results.items
