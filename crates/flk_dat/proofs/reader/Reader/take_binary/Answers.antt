use Rattle.flk_dat.proofs.LoopLemmas.{some_taken}
use Rattle.flk_dat.proofs.reader.Reader.take_binary.Goals as goal

pub returns-else-is_empty-clause-taken : goal.returns-else-is_empty-clause-taken
returns-else-is_empty-clause-taken c = some_taken c.args.self.now c.take_due.new.self c.args.out.now c.take_due.new.out c.args.piece.now c.take_due.result c.requires.room c.take_due.ensures.taken
