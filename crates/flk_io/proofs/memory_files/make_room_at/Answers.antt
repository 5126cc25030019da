use Rattle.std.proofs.Common.{◌+◌, [], ap, sym, ◌∙◌, get_or}
use Rattle.flk_io.specs.Files.{rest, extra, place}
use Rattle.flk_io.proofs.Lookups.{OnOk-map, OnErr-map, IsChange, held-was, held-changed, held-others, held-kept}
use Rattle.flk_io.proofs.memory_files.make_room_at.Goals as goal

pub returns-clause-ok : goal.returns-clause-ok
returns-clause-ok c =
    let f = get_or c.args.files.now c.args.i c.index-files-i.result in
    let change : IsChange c.args.files.now c.args.name.now c.args.i f c.make_room.new.self = record { first = c.requires.first; item = ap (λ x. get_or c.args.files.now c.args.i x) c.index-files-i.is; same = c.make_room.ensures.name } in
    OnOk-map c.make_room.result (λ e. held-changed 0 place change ∙ e ∙ ap (λ n. n + c.args.bytes) (sym (held-was 0 place change))) c.make_room.ensures.ok

pub returns-clause-err : goal.returns-clause-err
returns-clause-err c =
    let f = get_or c.args.files.now c.args.i c.index-files-i.result in
    let change : IsChange c.args.files.now c.args.name.now c.args.i f c.make_room.new.self = record { first = c.requires.first; item = ap (λ x. get_or c.args.files.now c.args.i x) c.index-files-i.is; same = c.make_room.ensures.name } in
    OnErr-map c.make_room.result (λ e. held-kept 0 place change e) c.make_room.ensures.err

pub returns-clause-others : goal.returns-clause-others
returns-clause-others c =
    let f = get_or c.args.files.now c.args.i c.index-files-i.result in
    let change : IsChange c.args.files.now c.args.name.now c.args.i f c.make_room.new.self = record { first = c.requires.first; item = ap (λ x. get_or c.args.files.now c.args.i x) c.index-files-i.is; same = c.make_room.ensures.name } in
    held-others 0 place change

pub returns-clause-left : goal.returns-clause-left
returns-clause-left c =
    let f = get_or c.args.files.now c.args.i c.index-files-i.result in
    let change : IsChange c.args.files.now c.args.name.now c.args.i f c.make_room.new.self = record { first = c.requires.first; item = ap (λ x. get_or c.args.files.now c.args.i x) c.index-files-i.is; same = c.make_room.ensures.name } in
    held-kept [] rest change c.make_room.ensures.rest

pub returns-clause-added : goal.returns-clause-added
returns-clause-added c =
    let f = get_or c.args.files.now c.args.i c.index-files-i.result in
    let change : IsChange c.args.files.now c.args.name.now c.args.i f c.make_room.new.self = record { first = c.requires.first; item = ap (λ x. get_or c.args.files.now c.args.i x) c.index-files-i.is; same = c.make_room.ensures.name } in
    held-kept [] extra change c.make_room.ensures.extra
