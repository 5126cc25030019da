use Rattle.std.proofs.Common.{[], ap}
use Rattle.flk_dat.specs.Records.{Rows}
use Rattle.flk_dat.proofs.BlockLemmas.{no_rows}
use Rattle.flk_dat.proofs.block.Block.clear.Goals as goal

pub returns : goal.returns
returns c = rw (no_rows c.self.inside.columns) (ap (λ (b : Rows). record b { records = [] }) c.self.view_is)
