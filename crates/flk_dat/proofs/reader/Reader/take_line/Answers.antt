use Rattle.std.proofs.Common.{◌≡◌, ◌+◌, ◌<◌, ℕ, take, get_or, ◌++◌, length, refl, sym, subst, ◌∙◌, arith}
use Rattle.flk_field.specs.declared.form.Form.{Form}
use Rattle.flk_dat.specs.Records.{IsPresent}
use Rattle.flk_dat.proofs.LineEnds.{mark_of}
use Rattle.flk_dat.proofs.StateLemmas.{Given}
use Rattle.flk_dat.proofs.TakingLemmas.{takes_held_at, takes_whole, stops_due, stops_same}
use Rattle.flk_dat.proofs.AsciiSteps.{writes_line, fault_of_line}
use Rattle.flk_dat.proofs.ReaderLines.{end_of, end_ends, line_whole, line_stops, line_held, line_too_long, line_given}
use Rattle.flk_dat.proofs.reader.Reader.take_line.Goals as goal

pub returns-in-Ok-clause-taken : goal.returns-in-Ok-clause-taken
returns-in-Ok-clause-taken c =
    let old = c.args.self.now in
    let piece = c.args.piece.now in
    let all : length piece ≡ end_of old piece = sym c.if-end-piece.true ∙ c.line_end-end.ensures.place in
    let e = c.in-Ok.ensures in
    takes_held_at old _ c.args.out.now piece c.line_end-end.result c.if-end-piece.true (record { layout_same = refl; fault = refl; given = refl; before = refl }) c.requires.due e.0 (line_held old piece c.requires.form all e.1) c.requires.some

pub returns-in-Err-clause-taken : goal.returns-in-Err-clause-taken
returns-in-Err-clause-taken c =
    let old = c.args.self.now in
    let piece = c.args.piece.now in
    let all : length piece ≡ end_of old piece = sym c.if-end-piece.true ∙ c.line_end-end.ensures.place in
    let e = c.in-Err.ensures in
    let f = c.in-Err.fault in
    stops_due old _ c.args.out.now piece f refl refl c.requires.due (line_too_long old piece f.field f.kind c.requires.form all e.2 e.0 e.1)

pub returns-in-Ok-read_held-clause-taken : goal.returns-in-Ok-read_held-clause-taken
returns-in-Ok-read_held-clause-taken c =
    let old = c.args.self.now in
    let piece = c.args.piece.now in
    let n = c.line_end-end.result in
    let mark = mark_of (get_or piece n 0) in
    let lt : n < length piece = omega (arith, c.line_end-end.ensures.within, c.if-end-piece.false) in
    let gains = c.in-Ok-read_held.ensures.record_read in
    let r = gains.given in
    let read = writes_line old.channels.form old.channels (old.rest ++ take n piece) r c.requires.form gains.good.writes in
    let present = subst (λ (f : Form). IsPresent f old.channels.selected.items r) c.requires.form gains.good.present in
    let end = end_ends old piece n c.line_end-end.ensures.place lt in
    let given = line_given old _ c.count.new.self c.in-Ok-read_held.number c.after.result (get_or piece n 0) c.requires.form refl refl refl c.in-Ok-read_held.ensures.cleared c.count.ensures c.after.ensures end in
    takes_whole old c.count.new.self c.args.out.now c.read_held.new.out piece (n + 1) mark r (subst (λ (k : ℕ). Given old c.count.new.self k mark) (sym gains.number) given) c.requires.due gains.records
    (line_whole old piece n r c.requires.form c.line_end-end.ensures.place lt read gains.good.follows present)

pub returns-in-Err-read_held-clause-taken : goal.returns-in-Err-read_held-clause-taken
returns-in-Err-read_held-clause-taken c =
    let old = c.args.self.now in
    let piece = c.args.piece.now in
    let n = c.line_end-end.result in
    let lt : n < length piece = omega (arith, c.line_end-end.ensures.within, c.if-end-piece.false) in
    let f = c.in-Err-read_held.fault in
    let e = c.in-Err-read_held.ensures.record_read in
    let fault = fault_of_line old.channels.form old.channels old.before (old.rest ++ take n piece) f.field f.kind c.requires.form e.1 in
    stops_same old _ c.args.out.now c.read_held.new.out piece f e.0 (stops_due old _ c.args.out.now piece f refl refl c.requires.due (line_stops old piece n f.field f.kind c.requires.form c.line_end-end.ensures.place lt fault))

pub read_held-requires-clause-whole : goal.read_held-requires-clause-whole
read_held-requires-clause-whole c = λ other. absurd (other c.requires.form)
