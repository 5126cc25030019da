use Rattle.std.proofs.Common.{◌-◌, length}
use Rattle.flk_dat.specs.Takings.{Taking}
use Rattle.flk_dat.proofs.reader.Reader.take.Given as goal

abbrev pub invariant-loop-at : goal.invariant-loop-at
invariant-loop-at l = Taking l.fn.self l.self l.fn.out l.out l.piece l.at

abbrev pub decreases-loop-at : goal.decreases-loop-at
decreases-loop-at l = length l.piece - l.at
