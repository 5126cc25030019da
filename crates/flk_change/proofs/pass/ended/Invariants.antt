use Rattle.std.proofs.Common.{ℕ, ◌≤◌, List, length, take}
use Rattle.flk_change.specs.declared.flag.Flag.{Flag}
use Rattle.flk_change.specs.Pass.{HavePassed, AreHulls, HasLast, all_number}
use Rattle.flk_change.proofs.PassesLemmas.{Among}
use Rattle.flk_change.proofs.pass.ended.Given as goal

-- what the first passes tell
abbrev pub invariant-loop-k : goal.invariant-loop-k
invariant-loop-k l = record {
  some : 1 ≤ l.k;
  hulls : (window : ℕ) (flags : List Flag) → HavePassed window l.halves flags (length l.halves) l.passes
      → AreHulls window l.halves (Among (HasLast flags (length l.halves)) (take l.k l.passes)) (all_number window (length l.halves)) l.outcome;
}
