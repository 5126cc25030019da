use Rattle.std.proofs.Common.{[], ap, ◌∙◌, get_or}
use Rattle.flk_io.specs.Files.{rest, extra, place}
use Rattle.flk_io.proofs.Lookups.{IsChange, held-changed, held-others, held-kept}
use Rattle.flk_io.proofs.memory_files.set_at.Goals as goal

pub returns-clause-put : goal.returns-clause-put
returns-clause-put c =
    let f = get_or c.args.files.now c.args.i c.index-files-i.result in
    let change : IsChange c.args.files.now c.args.name.now c.args.i f c.set.new.self = record { first = c.requires.first; item = ap (λ x. get_or c.args.files.now c.args.i x) c.index-files-i.is; same = c.set.ensures.name } in
    held-changed [] rest change ∙ c.set.ensures.rest

pub returns-clause-others : goal.returns-clause-others
returns-clause-others c =
    let f = get_or c.args.files.now c.args.i c.index-files-i.result in
    let change : IsChange c.args.files.now c.args.name.now c.args.i f c.set.new.self = record { first = c.requires.first; item = ap (λ x. get_or c.args.files.now c.args.i x) c.index-files-i.is; same = c.set.ensures.name } in
    held-others [] rest change

pub returns-clause-added : goal.returns-clause-added
returns-clause-added c =
    let f = get_or c.args.files.now c.args.i c.index-files-i.result in
    let change : IsChange c.args.files.now c.args.name.now c.args.i f c.set.new.self = record { first = c.requires.first; item = ap (λ x. get_or c.args.files.now c.args.i x) c.index-files-i.is; same = c.set.ensures.name } in
    held-kept [] extra change c.set.ensures.extra

pub returns-clause-room : goal.returns-clause-room
returns-clause-room c =
    let f = get_or c.args.files.now c.args.i c.index-files-i.result in
    let change : IsChange c.args.files.now c.args.name.now c.args.i f c.set.new.self = record { first = c.requires.first; item = ap (λ x. get_or c.args.files.now c.args.i x) c.index-files-i.is; same = c.set.ensures.name } in
    held-kept 0 place change c.set.ensures.place
