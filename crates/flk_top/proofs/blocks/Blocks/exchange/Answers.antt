use Rattle.flk_top.proofs.BlocksLemmas.{exchanged}
use Rattle.flk_top.proofs.blocks.Blocks.exchange.Goals as goal

pub returns-clause-read : goal.returns-clause-read
returns-clause-read c = λ l bytes rs h can.
    rw (c.swap.ensures.x_after, c.swap.ensures.y_after) (exchanged l c.args.self.now c.args.other.now bytes rs h can)
