use Rattle.flk_dat.proofs.LoopLemmas.{some_taken}
use Rattle.flk_dat.proofs.reader.Reader.step.Goals as goal

pub returns-in-Ascii-clause-taken : goal.returns-in-Ascii-clause-taken
returns-in-Ascii-clause-taken c = some_taken c.args.self.now c.take_line.new.self c.args.out.now c.take_line.new.out c.args.piece.now c.take_line.result c.requires.room c.take_line.ensures.taken
