use Rattle.std.proofs.Common.{◌≡◌, ◌+◌, ◌-◌, ◌<◌, ◌≤◌, [], length}
use Rattle.flk_dat.specs.Takings.{Taking}
use Rattle.flk_dat.proofs.reader.Reader.take_whole.Given as goal

abbrev pub invariant-loop-number : goal.invariant-loop-number
invariant-loop-number l = record {
  taking : Taking l.fn.self l.self l.fn.out l.out l.piece l.at;
  rest : l.self.rest ≡ [];
  due : l.self.given < l.self.records;
  room : length l.out.records < l.out.room;
  whole : l.at + l.size ≤ length l.piece;
}

abbrev pub decreases-loop-number : goal.decreases-loop-number
decreases-loop-number l = length l.piece - l.at
