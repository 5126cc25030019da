use Rattle.std.proofs.Common.{◌+◌, ◌≤◌, true, List, length, take}
use Rattle.flk_change.specs.declared.flag.Flag.{Flag}
use Rattle.flk_change.specs.Pass.{MayResolve, HavePassed, AreHulls, HasNext, closed_number}
use Rattle.flk_change.proofs.PassesLemmas.{Among}
use Rattle.flk_change.proofs.pass.met.Given as goal

-- what the first passes tell
abbrev pub invariant-loop-k : goal.invariant-loop-k
invariant-loop-k l = record {
  some : 1 ≤ l.k;
  hulls : (flags : List Flag) → MayResolve flags l.fn.i true → HavePassed l.fn.window l.halves flags l.fn.i l.passes
      → AreHulls l.fn.window l.halves (Among (HasNext flags l.fn.i) (take l.k l.passes)) (closed_number l.fn.window (length l.halves) (l.fn.i + 1)) l.outcome;
}
