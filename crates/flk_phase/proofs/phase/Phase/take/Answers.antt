use Rattle.std.proofs.Common.{arith, refl, sym, ap, length, ◌≡◌, ◌+◌, slice_index_or, pos}
use Rattle.std.proofs.lemmas.List.{length-map}
use Rattle.flk_dat.specs.Records.{DataRecord}
use Rattle.flk_phase.specs.Halves.{spare_of as spare_of_halves}
use Rattle.flk_phase.specs.Phase.{channel_of, spare_of, column_of}
use Rattle.flk_phase.proofs.TakingLemmas.{takes_column, leaves_column}
use Rattle.flk_phase.proofs.phase.Phase.take.Goals as goal

pub returns-then-is_some : goal.returns-then-is_some
returns-then-is_some c =
    let old = c.args.self.now in
    let records = c.args.block.now.records in
    let xs = column_of (channel_of old) records in
    let count = length-map records (λ (r : DataRecord). slice_index_or r.analog (channel_of old) (pos 0)) in
    let spare : spare_of_halves c.lower.new.self + length xs ≡ spare_of old =
    omega (arith, c.lower.ensures.spare, c.spare.ensures, c.requires.room, count, ap length c.column-column.ensures) in
    leaves_column old _ xs (record { scale = refl; channel = refl; setup = refl; taken = refl; meter = refl; severities = refl; halves = c.lower.ensures.same }) spare (sym c.if-is_some.ensures) refl

pub returns : goal.returns
returns c =
    let old = c.args.self.now in
    let records = c.args.block.now.records in
    let xs = column_of (channel_of old) records in
    let count = length-map records (λ (r : DataRecord). slice_index_or r.analog (channel_of old) (pos 0)) in
    let spare : spare_of_halves c.lower-2.new.self + length xs ≡ spare_of old =
    omega (arith, c.lower-2.ensures.spare, c.spare.ensures, c.requires.room, count, ap length c.column-column.ensures) in
    let e = c.take_column-self.ensures in
    takes_column old c.take_column-self.new.self _ c.column-column.result.now xs c.take_column-self.result c.column-column.ensures
    (record { scale = refl; channel = refl; setup = refl; taken = refl; meter = refl; severities = refl; halves = c.lower-2.ensures.same }) e.alike spare (sym c.if-is_some.ensures) refl e.none e.some
