use Rattle.std.proofs.Common.{◌≡◌, ◌++◌, ◌+◌, [], ap, sym, ◌∙◌, get_or, length, min, take, arith}
use Rattle.flk_io.specs.Files.{rest, extra, place, room_of}
use Rattle.flk_io.proofs.Lookups.{IsChange, held-none, held-was, held-changed, held-others, held-kept}
use Rattle.flk_io.proofs.memory_files.append_to.Goals as goal

pub returns-in-None-clause-count : goal.returns-in-None-clause-count
returns-in-None-clause-count c =
    let none : room_of c.args.files.now c.args.name.now ≡ 0 = held-none 0 place c.args.files.now c.args.name.now c.in-None.ensures.none in
    rw none (omega arith)

pub returns-in-Some-clause-count : goal.returns-in-Some-clause-count
returns-in-Some-clause-count c =
    let f = get_or c.args.files.now c.in-Some.i c.index-files-i.result in
    let change : IsChange c.args.files.now c.args.name.now c.in-Some.i f c.add.new.self = record { first = c.in-Some.ensures.found; item = ap (λ x. get_or c.args.files.now c.in-Some.i x) c.index-files-i.is; same = c.add.ensures.name } in
    c.add.ensures.count ∙ ap (λ n. min c.args.most (min (length c.args.bytes.now) n)) (sym (held-was 0 place change))

pub returns-in-Some-clause-added : goal.returns-in-Some-clause-added
returns-in-Some-clause-added c =
    let f = get_or c.args.files.now c.in-Some.i c.index-files-i.result in
    let change : IsChange c.args.files.now c.args.name.now c.in-Some.i f c.add.new.self = record { first = c.in-Some.ensures.found; item = ap (λ x. get_or c.args.files.now c.in-Some.i x) c.index-files-i.is; same = c.add.ensures.name } in
    held-changed [] extra change ∙ c.add.ensures.added ∙ ap (λ xs. xs ++ take c.add.result c.args.bytes.now) (sym (held-was [] extra change))

pub returns-in-Some-clause-room : goal.returns-in-Some-clause-room
returns-in-Some-clause-room c =
    let f = get_or c.args.files.now c.in-Some.i c.index-files-i.result in
    let change : IsChange c.args.files.now c.args.name.now c.in-Some.i f c.add.new.self = record { first = c.in-Some.ensures.found; item = ap (λ x. get_or c.args.files.now c.in-Some.i x) c.index-files-i.is; same = c.add.ensures.name } in
    ap (λ n. n + c.add.result) (held-changed 0 place change) ∙ c.add.ensures.place ∙ sym (held-was 0 place change)

pub returns-in-Some-clause-others : goal.returns-in-Some-clause-others
returns-in-Some-clause-others c =
    let f = get_or c.args.files.now c.in-Some.i c.index-files-i.result in
    let change : IsChange c.args.files.now c.args.name.now c.in-Some.i f c.add.new.self = record { first = c.in-Some.ensures.found; item = ap (λ x. get_or c.args.files.now c.in-Some.i x) c.index-files-i.is; same = c.add.ensures.name } in
    held-others [] extra change

pub returns-in-Some-clause-other_rooms : goal.returns-in-Some-clause-other_rooms
returns-in-Some-clause-other_rooms c =
    let f = get_or c.args.files.now c.in-Some.i c.index-files-i.result in
    let change : IsChange c.args.files.now c.args.name.now c.in-Some.i f c.add.new.self = record { first = c.in-Some.ensures.found; item = ap (λ x. get_or c.args.files.now c.in-Some.i x) c.index-files-i.is; same = c.add.ensures.name } in
    held-others 0 place change

pub returns-in-Some-clause-left : goal.returns-in-Some-clause-left
returns-in-Some-clause-left c =
    let f = get_or c.args.files.now c.in-Some.i c.index-files-i.result in
    let change : IsChange c.args.files.now c.args.name.now c.in-Some.i f c.add.new.self = record { first = c.in-Some.ensures.found; item = ap (λ x. get_or c.args.files.now c.in-Some.i x) c.index-files-i.is; same = c.add.ensures.name } in
    held-kept [] rest change c.add.ensures.rest
