-- the half-periods that are left decide
use Rattle.std.proofs.Common.{◌≡◌, drop}
use Rattle.flk_change.proofs.ExtremeLemmas.{least_low, greatest_high}
use Rattle.flk_change.proofs.wide.span.Given as goal

abbrev pub invariant-loop-v : goal.invariant-loop-v
invariant-loop-v l = record {
  least : least_low l.all.lo (drop l.v-index l.halves) ≡ least_low l.initial.all.lo l.halves;
  greatest : greatest_high l.all.hi (drop l.v-index l.halves) ≡ greatest_high l.initial.all.hi l.halves;
}
