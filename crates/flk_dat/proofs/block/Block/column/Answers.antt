use Rattle.std.proofs.Common.{◌≡◌, ◌<◌, [], length, map, get_or, take, pos, refl, ap, ◌∙◌, arith}
use Rattle.std.proofs.lemmas.List.{get_or_read_under}
use Rattle.flk_dat.specs.Records.{DataRecord, Rows}
use Rattle.flk_dat.proofs.BlockLemmas.{column_values}
use Rattle.flk_dat.proofs.block.Block.column.Goals as goal

pub returns : goal.returns
returns c =
    let cs = c.self.inside.columns in
    let n = c.self.inside.rows in
    let channel = c.args.channel in
    let columns = cs.analog.items in
    let same : length columns ≡ c.args.self.now.analog = ap (λ (b : Rows). b.analog) c.self.view_is in
    let there : channel < length columns = omega (arith, same, c.requires) in
    let is : c.index.result.now ≡ get_or columns channel [] = get_or_read_under columns channel (length columns) c.index.result.now [] c.index.ensures there refl in
    ap (take n) (c.as_slice.ensures ∙ is) ∙ column_values n c.self.inside.room cs channel c.self.invariant there
    ∙ ap (λ (b : Rows). map (λ (r : DataRecord). get_or r.analog channel (pos 0)) b.records) c.self.view_is
