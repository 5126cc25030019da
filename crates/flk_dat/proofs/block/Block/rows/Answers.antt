use Rattle.std.proofs.Common.{sym}
use Rattle.flk_dat.proofs.BlockLemmas.{records_count, block_shape}
use Rattle.flk_dat.proofs.block.Block.rows.Goals as goal

pub returns-clause-rows : goal.returns-clause-rows
returns-clause-rows c = sym (records_count c.self.inside.room c.self.inside.rows c.self.inside.columns c.args.self.now c.self.view_is)

pub returns-clause-shape : goal.returns-clause-shape
returns-clause-shape c = block_shape c.self.inside.room c.self.inside.rows c.self.inside.columns c.args.self.now c.self.view_is c.self.invariant
