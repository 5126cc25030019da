-- What the block holds so far.
use Rattle.std.proofs.Common.{◌≡◌, ◌+◌, ◌-◌, length}
use Rattle.flk_phase.proofs.tests.block_of.Given as goal

abbrev pub invariant-loop-row : goal.invariant-loop-row
invariant-loop-row l = record {
  analog : l.block.analog ≡ 2;
  digital : l.block.digital ≡ 0;
  room : l.block.room ≡ l.stop - l.first;
  count : length l.block.records + l.first ≡ l.row;
}
