use Rattle.std.proofs.Common.{◌≡◌, ◌<◌, List, [], length, get_or, Bool, false, refl, sym, ap, ◌∙◌, arith}
use Rattle.std.proofs.lemmas.List.{get_or_read_under}
use Rattle.flk_dat.specs.Records.{DataRecord, Rows}
use Rattle.flk_dat.proofs.ColumnLemmas.{row_at}
use Rattle.flk_dat.proofs.BlockLemmas.{records_count, record_is}
use Rattle.flk_dat.proofs.block.Block.digital.Goals as goal

pub index-requires : goal.index-requires
index-requires c =
    let same : length c.self.inside.columns.digital.items ≡ c.args.self.now.digital = ap (λ (b : Rows). b.digital) c.self.view_is in
    omega (arith, same, c.requires.channel)

pub get-requires : goal.get-requires
get-requires c =
    let columns = c.self.inside.columns.digital.items in
    let same : length columns ≡ c.args.self.now.digital = ap (λ (b : Rows). b.digital) c.self.view_is in
    let there : c.args.channel < length columns = omega (arith, same, c.requires.channel) in
    let is : c.index.result.now ≡ get_or columns c.args.channel [] =
    get_or_read_under columns c.args.channel (length columns) c.index.result.now [] c.index.ensures there refl in
    omega (arith, records_count c.self.inside.room c.self.inside.rows c.self.inside.columns c.args.self.now c.self.view_is, c.requires.row, c.self.invariant.within, ap length is, c.self.invariant.digital c.args.channel there)

pub returns : goal.returns
returns c =
    let columns = c.self.inside.columns.digital.items in
    let same : length columns ≡ c.args.self.now.digital = ap (λ (b : Rows). b.digital) c.self.view_is in
    let there : c.args.channel < length columns = omega (arith, same, c.requires.channel) in
    let is : c.index.result.now ≡ get_or columns c.args.channel [] =
    get_or_read_under columns c.args.channel (length columns) c.index.result.now [] c.index.ensures there refl in
    let here = record_is c.self.inside.room c.self.inside.rows c.self.inside.columns c.args.self.now c.args.row c.self.view_is c.requires.row in
    (c.get.ensures false ∙ ap (λ (x : List Bool). get_or x c.args.row false) is
    ∙ sym (ap (λ (r : DataRecord). get_or r.digital c.args.channel false) here ∙ row_at c.args.row false false columns c.args.channel there))
