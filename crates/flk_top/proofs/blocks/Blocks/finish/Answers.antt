use Rattle.flk_top.proofs.BlocksLemmas.{accepted_at_end, fault_at_end}
use Rattle.flk_top.proofs.blocks.Blocks.finish.Goals as goal

pub returns-in-Ok-clause-ends : goal.returns-in-Ok-clause-ends
returns-in-Ok-clause-ends c = λ l bytes past h.
    accepted_at_end l c.args.self.now c.args.self.now.block c.finish.new.out bytes past h c.requires.fed c.finish.ensures.grows c.in-Ok.ensures.accepted

pub returns-in-Err-clause-ends : goal.returns-in-Err-clause-ends
returns-in-Err-clause-ends c = λ l bytes past h.
    fault_at_end l c.args.self.now c.args.self.now.block c.finish.new.out c.in-Err.fault bytes past h c.requires.fed c.finish.ensures.grows c.in-Err.ensures.fault
