use Rattle.std.proofs.Common.{◌≡◌, ◌⊎◌, ◌≤◌}
use Rattle.flk_change.specs.Changes.{IsGreatestOrZero, IsAmong, excesses}
use Rattle.flk_change.specs.Pass.{least_swing, greatest_swing}
use Rattle.flk_change.proofs.swings.swings_of.Given as goal

-- what the half-periods so far give
abbrev pub invariant-loop-i : goal.invariant-loop-i
invariant-loop-i l = record {
  furthest_low : IsGreatestOrZero (IsAmong (least_swing l.halves l.fn.level) l.fn.first l.i) l.low;
  furthest_high : IsGreatestOrZero (IsAmong (greatest_swing l.halves l.fn.level) l.fn.first l.i) l.high;
  certain : l.certain ≡ excesses (least_swing l.halves l.fn.level) l.fn.first l.i;
  possible : l.possible ≡ excesses (greatest_swing l.halves l.fn.level) l.fn.first l.i;
  within : (l.i ≤ l.fn.stop) ⊎ (l.i ≡ l.fn.first);
}
