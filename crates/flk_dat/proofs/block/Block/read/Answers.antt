use Rattle.std.proofs.Common.{◌≡◌, length, refl, ap, ◌∙◌, arith, rules}
use Rattle.flk_num.proofs.StopLemmas.{err_exit}
use Rattle.flk_dat.specs.Records.{Rows}
use Rattle.flk_dat.specs.Heads.{headed, FaultOf}
use Rattle.flk_dat.specs.declared.columns.Columns.{Columns}
use Rattle.flk_dat.specs.declared.kind.Fault.{Fault}
use Rattle.flk_dat.proofs.ColumnLemmas.{places_reach}
use Rattle.flk_dat.proofs.BlockLemmas.{Put, next_below, laid_put, block_of, block_behind, block_put}
use Rattle.flk_dat.proofs.block.Block.read.Goals as goal

pub read_record-requires-clause-row : goal.read_record-requires-clause-row
read_record-requires-clause-row c =
    let cs = c.self.inside.columns in
    let n = c.self.inside.rows in
    let room = c.self.inside.room in
    let below = next_below room n cs c.args.self.now c.self.view_is c.requires.room in
    record {
      analog = ap (λ (b : Rows). b.analog) c.self.view_is ∙ c.requires.columns.analog;
      digital = ap (λ (b : Rows). b.digital) c.self.view_is ∙ c.requires.columns.digital;
      analog_places = places_reach n room cs.analog.items c.self.invariant.analog below;
      digital_places = places_reach n room cs.digital.items c.self.invariant.digital below;
    }

pub returns-in_err-head : goal.returns-in_err-head
returns-in_err-head c =
    let cs = c.self.inside.columns in
    let n = c.self.inside.rows in
    let room = c.self.inside.room in
    let channels = c.args.channels.now in
    let mid = c.read_record.new.columns in
    let f = c.in_err-head.field-0.0 in
    err_exit c.from_residual.result _ (λ (x : Fault). (block_of room n mid ≡ c.args.self.now) × FaultOf channels.form channels c.args.before c.args.bytes.now x.field x.kind) f c.from_residual.ensures.1
    (block_behind room n cs mid c.args.self.now c.self.view_is c.read_record.ensures.changed, c.in_err-head.ensures.fault)

pub put-requires : goal.put-requires
put-requires c =
    let cs = c.self.inside.columns in
    let n = c.self.inside.rows in
    let room = c.self.inside.room in
    let below = next_below room n cs c.args.self.now c.self.view_is c.requires.room in
    omega (arith, below, c.self.invariant.numbers, ap length c.read_record.ensures.changed.numbers)

pub put-requires-2 : goal.put-requires-2
put-requires-2 c =
    let cs = c.self.inside.columns in
    let n = c.self.inside.rows in
    let room = c.self.inside.room in
    let below = next_below room n cs c.args.self.now c.self.view_is c.requires.room in
    omega (arith, below, c.self.invariant.stamps, ap length c.read_record.ensures.changed.stamps)

pub overflow_add-self : goal.overflow_add-self
overflow_add-self c =
    let cs = c.self.inside.columns in
    let n = c.self.inside.rows in
    let room = c.self.inside.room in
    let below = next_below room n cs c.args.self.now c.self.view_is c.requires.room in
    search (rules, below)

pub invariant_of-self-2 : goal.invariant_of-self-2
invariant_of-self-2 c =
    let cs = c.self.inside.columns in
    let n = c.self.inside.rows in
    let room = c.self.inside.room in
    let below = next_below room n cs c.args.self.now c.self.view_is c.requires.room in
    let mid = c.read_record.new.columns in
    let new : Columns = record mid { numbers = c.put.new.self; stamps = c.put-2.new.self } in
    let h = c.in_ok-head.head in
    let put : Put n h cs mid new = record { values = c.read_record.ensures.changed; numbers = c.put.ensures; stamps = c.put-2.ensures; analog = refl; digital = refl } in
    laid_put room n h cs mid new c.self.invariant below put

pub returns : goal.returns
returns c =
    let cs = c.self.inside.columns in
    let n = c.self.inside.rows in
    let room = c.self.inside.room in
    let below = next_below room n cs c.args.self.now c.self.view_is c.requires.room in
    let mid = c.read_record.new.columns in
    let new : Columns = record mid { numbers = c.put.new.self; stamps = c.put-2.new.self } in
    let h = c.in_ok-head.head in
    let put : Put n h cs mid new = record { values = c.read_record.ensures.changed; numbers = c.put.ensures; stamps = c.put-2.ensures; analog = refl; digital = refl } in
    record {
      given = headed h n mid;
      records = block_put room n h cs mid new c.args.self.now c.self.view_is c.self.invariant below put;
      good = c.in_ok-head.ensures.good;
      number = refl;
    }
