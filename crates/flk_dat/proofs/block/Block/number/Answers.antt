use Rattle.std.proofs.Common.{sym, ap, ◌∙◌, arith}
use Rattle.flk_dat.specs.Records.{DataRecord, no_record}
use Rattle.flk_dat.proofs.BlockLemmas.{records_count, record_is, block_shape}
use Rattle.flk_dat.proofs.block.Block.number.Goals as goal

pub get-requires : goal.get-requires
get-requires c = omega (arith, records_count c.self.inside.room c.self.inside.rows c.self.inside.columns c.args.self.now c.self.view_is, c.requires, c.self.invariant.within, c.self.invariant.numbers)

pub returns-clause-number : goal.returns-clause-number
returns-clause-number c =
    c.get.ensures 0 ∙ sym (ap (λ (r : DataRecord). r.number) (record_is c.self.inside.room c.self.inside.rows c.self.inside.columns c.args.self.now c.args.row c.self.view_is c.requires))

pub returns-clause-width : goal.returns-clause-width
returns-clause-width c = (block_shape c.self.inside.room c.self.inside.rows c.self.inside.columns c.args.self.now c.self.view_is c.self.invariant).width c.args.row no_record c.requires
