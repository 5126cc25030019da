use Rattle.std.proofs.Common.{rules, length, ◌+◌, ◌≤◌}
use Rattle.flk_io.proofs.Pieces.{Consumes-end, TakesFront-more}
use Rattle.flk_io.proofs.whole.read_all.Goals as goal

pub returns-then-count-eq0-clause-all : goal.returns-then-count-eq0-clause-all
returns-then-count-eq0-clause-all g c =
    (Consumes-end _ _ _ _ _ _ c.loop-piece.invariant.front c.if-count-eq0.true c.in-Ok.ensures.takes.1, c.in-Ok.ensures.takes.2 c.if-count-eq0.true)

pub returns-in-Err-extend_from_slice-clause-front : goal.returns-in-Err-extend_from_slice-clause-front
returns-in-Err-extend_from_slice-clause-front g c =
    let small : length c.loop-piece.bytes.items + c.in-Ok.count ≤ c.args.limit + 1 = search (rules, c.in-Ok.ensures.takes.0, c.min-room.ensures) in
    TakesFront-more ((g.F.Shelf.told c.args.shelf.now).left c.args.name.now) ((g.F.Shelf.told c.loop-piece.shelf).left c.args.name.now) ((g.F.Shelf.told c.read.new.self).left c.args.name.now)
    c.loop-piece.bytes.items c.read.new.buf c.in-Ok.count (c.args.limit + 1) c.loop-piece.invariant.front c.in-Ok.ensures.takes.1 small
