use Rattle.std.proofs.Common.{◌≡◌, length}
use Rattle.flk_change.proofs.CandidateLemmas.{DropsReached}
use Rattle.flk_change.proofs.candidates.drop_up_to.Given as goal

-- those that are dropped so far are the last ones
abbrev pub invariant-loop-last : goal.invariant-loop-last
invariant-loop-last l = record {
  capacity : l.ring.capacity ≡ l.initial.ring.capacity;
  reached : DropsReached l.v l.initial.ring.items l.ring.items;
}

abbrev pub decreases-loop-last : goal.decreases-loop-last
decreases-loop-last l = length l.ring.items
