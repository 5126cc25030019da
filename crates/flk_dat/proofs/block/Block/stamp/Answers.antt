use Rattle.std.proofs.Common.{None, sym, ap, ◌∙◌, arith}
use Rattle.flk_dat.specs.Records.{DataRecord}
use Rattle.flk_dat.proofs.BlockLemmas.{records_count, record_is}
use Rattle.flk_dat.proofs.block.Block.stamp.Goals as goal

pub get-requires : goal.get-requires
get-requires c = omega (arith, records_count c.self.inside.room c.self.inside.rows c.self.inside.columns c.args.self.now c.self.view_is, c.requires, c.self.invariant.within, c.self.invariant.stamps)

pub returns : goal.returns
returns c =
    c.get.ensures None ∙ sym (ap (λ (r : DataRecord). r.stamp) (record_is c.self.inside.room c.self.inside.rows c.self.inside.columns c.args.self.now c.args.row c.self.view_is c.requires))
