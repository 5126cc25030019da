use Rattle.std.proofs.Common.{◌≡◌, ◌++◌, [], ap, sym, ◌∙◌, get_or, length, min, take, arith}
use Rattle.flk_io.specs.Files.{rest, extra, place, left_of}
use Rattle.flk_io.proofs.Lookups.{IsChange, held-none, held-was, held-changed, held-others, held-kept}
use Rattle.flk_io.proofs.memory_files.read_from.Goals as goal

pub returns-in-None-clause-count : goal.returns-in-None-clause-count
returns-in-None-clause-count c =
    let none : left_of c.args.files.now c.args.name.now ≡ [] = held-none [] rest c.args.files.now c.args.name.now c.in-None.ensures.none in
    rw none (omega arith)

pub returns-in-Some-clause-count : goal.returns-in-Some-clause-count
returns-in-Some-clause-count c =
    let f = get_or c.args.files.now c.in-Some.i c.index-files-i.result in
    let change : IsChange c.args.files.now c.args.name.now c.in-Some.i f c.give.new.self = record { first = c.in-Some.ensures.found; item = ap (λ x. get_or c.args.files.now c.in-Some.i x) c.index-files-i.is; same = c.give.ensures.name } in
    c.give.ensures.count ∙ ap (λ xs. min c.args.most (min (length c.args.buf.now) (length xs))) (sym (held-was [] rest change))

pub returns-in-Some-clause-gave : goal.returns-in-Some-clause-gave
returns-in-Some-clause-gave c =
    let f = get_or c.args.files.now c.in-Some.i c.index-files-i.result in
    let change : IsChange c.args.files.now c.args.name.now c.in-Some.i f c.give.new.self = record { first = c.in-Some.ensures.found; item = ap (λ x. get_or c.args.files.now c.in-Some.i x) c.index-files-i.is; same = c.give.ensures.name } in
    held-was [] rest change ∙ c.give.ensures.gave ∙ ap (λ xs. take c.give.result c.give.new.buf ++ xs) (sym (held-changed [] rest change))

pub returns-in-Some-clause-others : goal.returns-in-Some-clause-others
returns-in-Some-clause-others c =
    let f = get_or c.args.files.now c.in-Some.i c.index-files-i.result in
    let change : IsChange c.args.files.now c.args.name.now c.in-Some.i f c.give.new.self = record { first = c.in-Some.ensures.found; item = ap (λ x. get_or c.args.files.now c.in-Some.i x) c.index-files-i.is; same = c.give.ensures.name } in
    held-others [] rest change

pub returns-in-Some-clause-added : goal.returns-in-Some-clause-added
returns-in-Some-clause-added c =
    let f = get_or c.args.files.now c.in-Some.i c.index-files-i.result in
    let change : IsChange c.args.files.now c.args.name.now c.in-Some.i f c.give.new.self = record { first = c.in-Some.ensures.found; item = ap (λ x. get_or c.args.files.now c.in-Some.i x) c.index-files-i.is; same = c.give.ensures.name } in
    held-kept [] extra change c.give.ensures.extra

pub returns-in-Some-clause-room : goal.returns-in-Some-clause-room
returns-in-Some-clause-room c =
    let f = get_or c.args.files.now c.in-Some.i c.index-files-i.result in
    let change : IsChange c.args.files.now c.args.name.now c.in-Some.i f c.give.new.self = record { first = c.in-Some.ensures.found; item = ap (λ x. get_or c.args.files.now c.in-Some.i x) c.index-files-i.is; same = c.give.ensures.name } in
    held-kept 0 place change c.give.ensures.place
