use Rattle.std.proofs.Common.{◌≡◌, ◌*◌, ◌^◌, ℕ}
use Rattle.flk_text.specs.DigitsRead.{IsLong}
use Rattle.flk_cfg.proofs.valid.is_short.Given as goal

abbrev pub invariant-loop-left : goal.invariant-loop-left
invariant-loop-left l = record {
  front : (places : ℕ) × (l.number ≡ l.left * 10 ^ places);
  long : IsLong l.left → IsLong l.number;
}

abbrev pub decreases-loop-left : goal.decreases-loop-left
decreases-loop-left l = l.left
