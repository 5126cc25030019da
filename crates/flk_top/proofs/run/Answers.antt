use Rattle.std.proofs.Common.{rules, string_bytes}
use Rattle.std.specs.Io.KnownBytes.{Appends}
use Rattle.flk_io.specs.Causes.{Rose, AddsFront}
use Rattle.flk_top.proofs.RunLemmas.{done_due, done_cut, done_levels, done_report, written_cut, cut_off_cut}
use Rattle.flk_top.proofs.run.Goals as goal

-- ---- the text is written whole

pub returns-in-Ok-write_all-clause-done : goal.returns-in-Ok-write_all-clause-done
returns-in-Ok-write_all-clause-done g c =
    let was = g.K.Sink.told c.args.sink.now in
    let is = g.K.Sink.told c.write_all.new.sink in
    let text : Appends was.written is.written (string_bytes c.in-Ok.reply.text) = search rules in
    done_due c.args.words.now c.number-in-Ok-write_all.result (g.F.Shelf.told c.args.shelf.now) (g.F.Shelf.told c.answer.new.shelf) was is c.in-Ok.reply c.number-in-Ok-write_all.ensures c.in-Ok.ensures.whole text

pub returns-in-Ok-write_all-clause-cut : goal.returns-in-Ok-write_all-clause-cut
returns-in-Ok-write_all-clause-cut g c =
    let was = g.K.Sink.told c.args.sink.now in
    let is = g.K.Sink.told c.write_all.new.sink in
    let text : Appends was.written is.written (string_bytes c.in-Ok.reply.text) = search rules in
    done_cut c.args.words.now c.number-in-Ok-write_all.result (g.F.Shelf.told c.args.shelf.now) (g.F.Shelf.told c.answer.new.shelf) was is c.in-Ok.reply c.number-in-Ok-write_all.ensures c.in-Ok.ensures.honest c.in-Ok.ensures.failed text

pub returns-in-Ok-write_all-clause-levels : goal.returns-in-Ok-write_all-clause-levels
returns-in-Ok-write_all-clause-levels g c =
    let was = g.K.Sink.told c.args.sink.now in
    let is = g.K.Sink.told c.write_all.new.sink in
    let old = g.F.Shelf.told c.args.shelf.now in
    let new = g.F.Shelf.told c.answer.new.shelf in
    let text : Appends was.written is.written (string_bytes c.in-Ok.reply.text) = search rules in
    done_levels c.args.words.now c.number-in-Ok-write_all.result old new was is
    (done_due c.args.words.now c.number-in-Ok-write_all.result old new was is c.in-Ok.reply c.number-in-Ok-write_all.ensures c.in-Ok.ensures.whole text)

pub returns-in-Ok-write_all-clause-report : goal.returns-in-Ok-write_all-clause-report
returns-in-Ok-write_all-clause-report g c =
    let was = g.K.Sink.told c.args.sink.now in
    let is = g.K.Sink.told c.write_all.new.sink in
    let old = g.F.Shelf.told c.args.shelf.now in
    let new = g.F.Shelf.told c.answer.new.shelf in
    let text : Appends was.written is.written (string_bytes c.in-Ok.reply.text) = search rules in
    done_report c.args.words.now c.number-in-Ok-write_all.result old new was is
    (done_due c.args.words.now c.number-in-Ok-write_all.result old new was is c.in-Ok.reply c.number-in-Ok-write_all.ensures c.in-Ok.ensures.whole text)

-- ---- a write failed

pub returns-clause-cut : goal.returns-clause-cut
returns-clause-cut g c =
    let was = g.K.Sink.told c.args.sink.now in
    let is = g.K.Sink.told c.write_all.new.sink in
    let rose : Rose was.faults is.faults = search rules in
    let front : AddsFront was.written is.written (string_bytes c.in-Ok.reply.text) = search rules in
    written_cut c.args.words.now (g.F.Shelf.told c.args.shelf.now) (g.F.Shelf.told c.answer.new.shelf) was is c.in-Ok.reply c.in-Ok.ensures.honest c.in-Ok.ensures.whole c.in-Ok.ensures.failed rose front

-- ---- there is no text

pub returns-in-Err-clause-cut : goal.returns-in-Err-clause-cut
returns-in-Err-clause-cut g c =
    cut_off_cut c.args.words.now c.number.result (g.F.Shelf.told c.args.shelf.now) (g.F.Shelf.told c.answer.new.shelf) (g.K.Sink.told c.args.sink.now) c.in-Err.cut_off c.number.ensures c.in-Err.ensures.cut
