use Rattle.std.proofs.Common.{◌≡◌, ◌++◌, ◌∷◌, [], pos, false, refl, ap, ◌∙◌, arith, rules}
use Rattle.flk_dat.specs.Records.{DataRecord, Rows}
use Rattle.flk_dat.specs.Blocks.{row_in, ChangesRow}
use Rattle.flk_dat.specs.Heads.{headed}
use Rattle.flk_dat.specs.declared.columns.Columns.{Columns}
use Rattle.flk_dat.specs.declared.head.Head.{Head}
use Rattle.flk_dat.proofs.ColumnLemmas.{places_reach}
use Rattle.flk_dat.proofs.BlockLemmas.{Put, next_below, laid_put, block_put}
use Rattle.flk_dat.proofs.block.Block.push.Goals as goal

pub put_row-requires-clause-places : goal.put_row-requires-clause-places
put_row-requires-clause-places c =
    let cs = c.self.inside.columns in
    let n = c.self.inside.rows in
    let room = c.self.inside.room in
    let below = next_below room n cs c.args.self.now c.self.view_is c.requires.room in
    places_reach n room cs.analog.items c.self.invariant.analog below

pub put_row-requires-2-clause-places : goal.put_row-requires-2-clause-places
put_row-requires-2-clause-places c =
    let cs = c.self.inside.columns in
    let n = c.self.inside.rows in
    let room = c.self.inside.room in
    let below = next_below room n cs c.args.self.now c.self.view_is c.requires.room in
    places_reach n room cs.digital.items c.self.invariant.digital below

pub put-requires : goal.put-requires
put-requires c =
    let cs = c.self.inside.columns in
    let n = c.self.inside.rows in
    let room = c.self.inside.room in
    let below = next_below room n cs c.args.self.now c.self.view_is c.requires.room in
    omega (arith, below, c.self.invariant.numbers)

pub put-requires-2 : goal.put-requires-2
put-requires-2 c =
    let cs = c.self.inside.columns in
    let n = c.self.inside.rows in
    let room = c.self.inside.room in
    let below = next_below room n cs c.args.self.now c.self.view_is c.requires.room in
    omega (arith, below, c.self.invariant.stamps)

pub overflow_add-self : goal.overflow_add-self
overflow_add-self c =
    let cs = c.self.inside.columns in
    let n = c.self.inside.rows in
    let room = c.self.inside.room in
    let below = next_below room n cs c.args.self.now c.self.view_is c.requires.room in
    search (rules, below)

pub invariant_of-self : goal.invariant_of-self
invariant_of-self c =
    let cs = c.self.inside.columns in
    let n = c.self.inside.rows in
    let room = c.self.inside.room in
    let below = next_below room n cs c.args.self.now c.self.view_is c.requires.room in
    let mid : Columns = record cs { analog = c.put_row.new.columns; digital = c.put_row-2.new.columns } in
    let new : Columns = record mid { numbers = c.put.new.self; stamps = c.put-2.new.self } in
    let h : Head = record { number = c.args.number; stamp = c.args.stamp } in
    let values : ChangesRow n cs mid = record { numbers = refl; stamps = refl; analog = c.put_row.ensures.changed (pos 0); digital = c.put_row-2.ensures.changed false } in
    let put : Put n h cs mid new = record { values = values; numbers = c.put.ensures; stamps = c.put-2.ensures; analog = refl; digital = refl } in
    laid_put room n h cs mid new c.self.invariant below put

pub returns : goal.returns
returns c =
    let cs = c.self.inside.columns in
    let n = c.self.inside.rows in
    let room = c.self.inside.room in
    let below = next_below room n cs c.args.self.now c.self.view_is c.requires.room in
    let mid : Columns = record cs { analog = c.put_row.new.columns; digital = c.put_row-2.new.columns } in
    let new : Columns = record mid { numbers = c.put.new.self; stamps = c.put-2.new.self } in
    let h : Head = record { number = c.args.number; stamp = c.args.stamp } in
    let values : ChangesRow n cs mid = record { numbers = refl; stamps = refl; analog = c.put_row.ensures.changed (pos 0); digital = c.put_row-2.ensures.changed false } in
    let put : Put n h cs mid new = record { values = values; numbers = c.put.ensures; stamps = c.put-2.ensures; analog = refl; digital = refl } in
    let a : row_in n (pos 0) mid.analog.items ≡ c.args.analog.now = c.put_row.ensures.row (pos 0) in
    let d : row_in n false mid.digital.items ≡ c.args.digital.now = c.put_row-2.ensures.row false in
    let r : DataRecord = record { number = c.args.number; stamp = c.args.stamp; analog = c.args.analog.now; digital = c.args.digital.now } in
    let same : headed h n mid ≡ r = rw (a, d) refl in
    block_put room n h cs mid new c.args.self.now c.self.view_is c.self.invariant below put
    ∙ ap (λ (x : DataRecord). let b : Rows = record c.args.self.now { records = c.args.self.now.records ++ x ∷ [] } in b) same
