use Rattle.std.proofs.Common.{rules, refl, ◌≡◌, ◌∙◌, Bool, true, false, subst}
use Rattle.std.specs.Io.KnownBytes.{Appends}
use Rattle.flk_io.specs.Causes.{AddsFront}
use Rattle.flk_io.proofs.Told.{OnlyAppends-same, OnlyAppends-trans}
use Rattle.flk_gen.specs.Progress.{Continues}
use Rattle.flk_gen.specs.Recording.{generated_data}
use Rattle.flk_top.proofs.GenData.{given_none, given_more, given_all, front_of_all, front_so_far, on_err}
use Rattle.flk_top.proofs.generate.append_records.Goals as goal

pub loop-piece-init : goal.loop-piece-init
loop-piece-init g c = record {
  given = λ seed seconds has. given_none _ seed seconds c.args.recording.now has;
  others = λ other differs. refl;
  only_appends = OnlyAppends-same (g.F.Shelf.told c.args.shelf.now);
  faults = refl;
}

pub loop-piece-preserved : goal.loop-piece-preserved
loop-piece-preserved g c =
    let old = (g.F.Shelf.told c.args.shelf.now).added c.args.name.now in
    let mid = (g.F.Shelf.told c.loop-piece.shelf).added c.args.name.now in
    let new = (g.F.Shelf.told c.append_all.new.shelf).added c.args.name.now in
    let piece = c.next_piece.new.piece.items in
    let more : c.in_ok-next_piece.field-0 ≡ true = search rules in
    let here : Appends mid new piece = search rules in
    record {
      given = λ seed seconds has.
          let so_far = c.loop-piece.invariant.given seed seconds has in
          let goes_on = c.in_ok-next_piece.ensures.gives seed seconds so_far.count so_far.given in
          let P : Bool → Type 0 = λ b. Continues b seed seconds so_far.count piece c.next_piece.new.self in
          given_more old mid new seed seconds c.loop-piece.recording c.next_piece.new.self piece so_far (subst P more goes_on) here;
      others = λ other differs. c.in_ok-append_all.ensures.others other differs ∙ c.loop-piece.invariant.others other differs;
      only_appends = OnlyAppends-trans c.loop-piece.invariant.only_appends c.in_ok-append_all.ensures.only_appends;
      faults = c.in_ok-append_all.ensures.cause.kept ∙ c.loop-piece.invariant.faults;
    }

pub returns-in_err-next_piece-clause-front : goal.returns-in_err-next_piece-clause-front
returns-in_err-next_piece-clause-front g c = λ seed seconds has.
    let old = (g.F.Shelf.told c.args.shelf.now).added c.args.name.now in
    let new = (g.F.Shelf.told c.loop-piece.shelf).added c.args.name.now in
    on_err _ (AddsFront old new (generated_data seed seconds)) (front_so_far old new seed seconds c.loop-piece.recording (c.loop-piece.invariant.given seed seconds has))

pub returns-in_err-append_all-clause-front : goal.returns-in_err-append_all-clause-front
returns-in_err-append_all-clause-front g c =
    let old = (g.F.Shelf.told c.args.shelf.now).added c.args.name.now in
    let mid = (g.F.Shelf.told c.loop-piece.shelf).added c.args.name.now in
    let new = (g.F.Shelf.told c.append_all.new.shelf).added c.args.name.now in
    let piece = c.next_piece.new.piece.items in
    let more : c.in_ok-next_piece.field-0 ≡ true = search rules in
    let front : AddsFront mid new piece = search rules in
    λ seed seconds has.
    let so_far = c.loop-piece.invariant.given seed seconds has in
    let goes_on = c.in_ok-next_piece.ensures.gives seed seconds so_far.count so_far.given in
    let P : Bool → Type 0 = λ b. Continues b seed seconds so_far.count piece c.next_piece.new.self in
    on_err _ (AddsFront old new (generated_data seed seconds)) (front_of_all old mid new seed seconds c.loop-piece.recording c.next_piece.new.self piece so_far (subst P more goes_on) front)

pub returns-clause-whole : goal.returns-clause-whole
returns-clause-whole g c =
    let old = (g.F.Shelf.told c.args.shelf.now).added c.args.name.now in
    let new = (g.F.Shelf.told c.loop-piece.shelf).added c.args.name.now in
    let piece = c.next_piece.new.piece.items in
    let no : c.in_ok-next_piece.field-0 ≡ false = search rules in
    λ seed seconds has.
    let so_far = c.loop-piece.invariant.given seed seconds has in
    let ends = c.in_ok-next_piece.ensures.gives seed seconds so_far.count so_far.given in
    let P : Bool → Type 0 = λ b. Continues b seed seconds so_far.count piece c.next_piece.new.self in
    given_all old new seed seconds c.loop-piece.recording c.next_piece.new.self piece so_far (subst P no ends)
