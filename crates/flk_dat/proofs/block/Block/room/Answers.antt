use Rattle.std.proofs.Common.{arith}
use Rattle.flk_dat.proofs.BlockLemmas.{records_count}
use Rattle.flk_dat.proofs.block.Block.room.Goals as goal

pub returns-clause-within : goal.returns-clause-within
returns-clause-within c = omega (arith, records_count c.self.inside.room c.self.inside.rows c.self.inside.columns c.args.self.now c.self.view_is, c.self.invariant.within)
