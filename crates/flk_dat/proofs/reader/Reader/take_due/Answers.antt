use Rattle.std.proofs.Common.{◌≡◌, ◌+◌, ◌-◌, ◌<◌, ◌≤◌, ℕ, List, [], take, ◌++◌, length, refl, sym, ap, subst, ◌∙◌, arith}
use Rattle.flk_dat.proofs.StateLemmas.{Given}
use Rattle.flk_dat.proofs.TakingLemmas.{takes_held_at, takes_whole, stops_due, stops_same}
use Rattle.flk_dat.proofs.BinarySteps.{size_of, writes_binary, fault_of_whole, record_whole, record_stops, record_held, record_given}
use Rattle.flk_dat.proofs.reader.Reader.take_due.Goals as goal

pub returns-then-piece-due-clause-taken : goal.returns-then-piece-due-clause-taken
returns-then-piece-due-clause-taken c =
    let old = c.args.self.now in
    let piece = c.args.piece.now in
    let few = old.part c.requires.form in
    let have : length c.as_slice.result.now ≡ length old.rest = ap length c.as_slice.ensures in
    let less : length old.rest + length piece < size_of old = omega (arith, few, have, old.channels.size_is, c.if-piece-due.true) in
    takes_held_at old _ c.args.out.now piece (length piece) refl (record { layout_same = refl; fault = refl; given = refl; before = refl }) c.requires.due c.hold.ensures (record_held old piece c.requires.form less) c.requires.some

pub returns-in-Ok-clause-taken : goal.returns-in-Ok-clause-taken
returns-in-Ok-clause-taken c =
    let old = c.args.self.now in
    let piece = c.args.piece.now in
    let n = old.channels.size - length c.as_slice.result.now in
    let due : n ≡ size_of old - length old.rest = ap (λ (k : ℕ). k - length c.as_slice.result.now) old.channels.size_is ∙ ap (λ (x : List ℕ). size_of old - length x) c.as_slice.ensures in
    let within : n ≤ length piece = omega (arith, c.if-piece-due.false) in
    let gains = c.in-Ok.ensures.record_read in
    let r = gains.given in
    let read = writes_binary old.channels.form old.channels (old.rest ++ take n piece) r c.requires.form gains.good.writes in
    let given = record_given old _ c.count.new.self c.in-Ok.number c.new.result c.requires.form refl refl refl c.in-Ok.ensures.cleared c.count.ensures c.new.ensures in
    takes_whole old c.count.new.self c.args.out.now c.read_held.new.out piece n [] r (subst (λ (k : ℕ). Given old c.count.new.self k []) (sym gains.number) given) c.requires.due gains.records
    (record_whole old piece n r c.requires.form (old.part c.requires.form) due within read gains.good.follows gains.good.present)

pub returns-in-Err-clause-taken : goal.returns-in-Err-clause-taken
returns-in-Err-clause-taken c =
    let old = c.args.self.now in
    let piece = c.args.piece.now in
    let n = old.channels.size - length c.as_slice.result.now in
    let due : n ≡ size_of old - length old.rest = ap (λ (k : ℕ). k - length c.as_slice.result.now) old.channels.size_is ∙ ap (λ (x : List ℕ). size_of old - length x) c.as_slice.ensures in
    let within : n ≤ length piece = omega (arith, c.if-piece-due.false) in
    let f = c.in-Err.fault in
    let e = c.in-Err.ensures.record_read in
    let fault = fault_of_whole old.channels.form old.channels old.before (old.rest ++ take n piece) f.field f.kind c.requires.form e.1 in
    stops_same old _ c.args.out.now c.read_held.new.out piece f e.0 (stops_due old _ c.args.out.now piece f refl refl c.requires.due (record_stops old piece n f.field f.kind c.requires.form (old.part c.requires.form) due within fault))
