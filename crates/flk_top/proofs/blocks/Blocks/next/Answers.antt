use Rattle.std.proofs.Common.{arith, ◌++◌, ◌∙◌, subst, ap}
use Rattle.flk_io.proofs.Told.{OnlyReads-trans}
use Rattle.flk_dat.specs.Records.{Rows}
use Rattle.flk_top.specs.Blocks.{EndsAs, records_of}
use Rattle.flk_top.specs.declared.blocks.Progress.{Progress}
use Rattle.flk_top.proofs.BlocksLemmas.{gone_refilled, gone_fed, gives_end, gives_fault, begins_full, begins_end, begins_fault, fed_few}
use Rattle.flk_top.proofs.blocks.Blocks.next.Goals as goal

pub refill-requires : goal.refill-requires
refill-requires g c =
    let l = c.requires.0 in
    let bytes = c.requires.1 in
    let rs = c.requires.2 in
    let h = c.requires.3 in
    let gone = c.loop-self.invariant.gone l bytes rs h in
    (l, bytes ++ gone.more, rs ++ records_of c.loop-self.self, gone.has)

pub finish-requires-clause-given : goal.finish-requires-clause-given
finish-requires-clause-given g c =
    let l = c.requires.0 in
    let bytes = c.requires.1 in
    let rs = c.requires.2 in
    let h = c.requires.3 in
    let left = (g.F.Shelf.told c.args.shelf.now).left c.args.name.now in
    let now = (g.F.Shelf.told c.loop-self.shelf).left c.args.name.now in
    let after = (g.F.Shelf.told c.refill.new.shelf).left c.args.name.now in
    let gone = gone_refilled l c.loop-self.self c.refill.new.self bytes rs left now after (c.loop-self.invariant.gone l bytes rs h) c.refill.ensures.block c.in_ok-some.ensures.read in
    (l, bytes ++ gone.more, rs, gone.has)

pub feed-requires-clause-given : goal.feed-requires-clause-given
feed-requires-clause-given g c =
    let l = c.requires.0 in
    let bytes = c.requires.1 in
    let rs = c.requires.2 in
    let h = c.requires.3 in
    let left = (g.F.Shelf.told c.args.shelf.now).left c.args.name.now in
    let now = (g.F.Shelf.told c.loop-self.shelf).left c.args.name.now in
    let after = (g.F.Shelf.told c.refill.new.shelf).left c.args.name.now in
    let gone = gone_refilled l c.loop-self.self c.refill.new.self bytes rs left now after (c.loop-self.invariant.gone l bytes rs h) c.refill.ensures.block c.in_ok-some.ensures.read in
    (l, bytes ++ gone.more, rs, gone.has)

-- ---- the end of the file

pub returns-then-not-some-clause-gives : goal.returns-then-not-some-clause-gives
returns-then-not-some-clause-gives g c = λ l bytes rs h.
    let left = (g.F.Shelf.told c.args.shelf.now).left c.args.name.now in
    let now = (g.F.Shelf.told c.loop-self.shelf).left c.args.name.now in
    let after = (g.F.Shelf.told c.refill.new.shelf).left c.args.name.now in
    let gone = gone_refilled l c.loop-self.self c.refill.new.self bytes rs left now after (c.loop-self.invariant.gone l bytes rs h) c.refill.ensures.block c.in_ok-some.ensures.read in
    let at_end = (c.in_ok-some.ensures.end c.if-not-some.true).1 in
    gives_end c.finish.result l c.finish.new.self bytes gone.more rs left after (gone.took, at_end) (c.finish.ensures.ends l (bytes ++ gone.more) rs gone.has)

pub returns-then-not-some-clause-begins : goal.returns-then-not-some-clause-begins
returns-then-not-some-clause-begins g c = λ l bytes rs h.
    let left = (g.F.Shelf.told c.args.shelf.now).left c.args.name.now in
    let now = (g.F.Shelf.told c.loop-self.shelf).left c.args.name.now in
    let after = (g.F.Shelf.told c.refill.new.shelf).left c.args.name.now in
    let gone = gone_refilled l c.loop-self.self c.refill.new.self bytes rs left now after (c.loop-self.invariant.gone l bytes rs h) c.refill.ensures.block c.in_ok-some.ensures.read in
    let at_end = (c.in_ok-some.ensures.end c.if-not-some.true).1 in
    begins_end c.finish.result l c.finish.new.self bytes gone.more rs left after (gone.took, at_end) (c.finish.ensures.ends l (bytes ++ gone.more) rs gone.has)

pub returns-then-not-some-clause-further : goal.returns-then-not-some-clause-further
returns-then-not-some-clause-further g c = λ is.
    let l = c.requires.0 in
    let bytes = c.requires.1 in
    let rs = c.requires.2 in
    let h = c.requires.3 in
    let left = (g.F.Shelf.told c.args.shelf.now).left c.args.name.now in
    let now = (g.F.Shelf.told c.loop-self.shelf).left c.args.name.now in
    let after = (g.F.Shelf.told c.refill.new.shelf).left c.args.name.now in
    let gone = gone_refilled l c.loop-self.self c.refill.new.self bytes rs left now after (c.loop-self.invariant.gone l bytes rs h) c.refill.ensures.block c.in_ok-some.ensures.read in
    let P : Progress → Type 0 = λ p. EndsAs p l (bytes ++ gone.more) (rs ++ records_of c.finish.new.self) in
    absurd (subst P is (c.finish.ensures.ends l (bytes ++ gone.more) rs gone.has))

-- ---- a fault on the way

pub returns-in-Err-clause-gives : goal.returns-in-Err-clause-gives
returns-in-Err-clause-gives g c = λ l bytes rs h.
    let left = (g.F.Shelf.told c.args.shelf.now).left c.args.name.now in
    let now = (g.F.Shelf.told c.loop-self.shelf).left c.args.name.now in
    let after = (g.F.Shelf.told c.refill.new.shelf).left c.args.name.now in
    let gone = gone_refilled l c.loop-self.self c.refill.new.self bytes rs left now after (c.loop-self.invariant.gone l bytes rs h) c.refill.ensures.block c.in_ok-some.ensures.read in
    gives_fault l c.in-Err.fault bytes gone.more (rs ++ records_of c.feed.new.self) left after gone.took (c.in-Err.ensures.fault l (bytes ++ gone.more) rs gone.has)

pub returns-in-Err-clause-begins : goal.returns-in-Err-clause-begins
returns-in-Err-clause-begins g c = λ l bytes rs h.
    let left = (g.F.Shelf.told c.args.shelf.now).left c.args.name.now in
    let now = (g.F.Shelf.told c.loop-self.shelf).left c.args.name.now in
    let after = (g.F.Shelf.told c.refill.new.shelf).left c.args.name.now in
    let gone = gone_refilled l c.loop-self.self c.refill.new.self bytes rs left now after (c.loop-self.invariant.gone l bytes rs h) c.refill.ensures.block c.in_ok-some.ensures.read in
    begins_fault l c.in-Err.fault bytes (rs ++ records_of c.feed.new.self) left
    (gives_fault l c.in-Err.fault bytes gone.more (rs ++ records_of c.feed.new.self) left after gone.took (c.in-Err.ensures.fault l (bytes ++ gone.more) rs gone.has))

-- ---- on with the loop

pub loop-self-smaller : goal.loop-self-smaller
loop-self-smaller g c =
    let l = c.requires.0 in
    let bytes = c.requires.1 in
    let rs = c.requires.2 in
    let h = c.requires.3 in
    let gone = c.loop-self.invariant.gone l bytes rs h in
    omega (arith, fed_few l c.loop-self.self (bytes ++ gone.more) (rs ++ records_of c.loop-self.self) gone.has, c.in-Ok.ensures.further, c.refill.ensures.fed)

pub loop-self-preserved : goal.loop-self-preserved
loop-self-preserved g c =
    record {
      gone = λ l bytes rs h.
          let left = (g.F.Shelf.told c.args.shelf.now).left c.args.name.now in
          let now = (g.F.Shelf.told c.loop-self.shelf).left c.args.name.now in
          let after = (g.F.Shelf.told c.refill.new.shelf).left c.args.name.now in
          let gone = gone_refilled l c.loop-self.self c.refill.new.self bytes rs left now after (c.loop-self.invariant.gone l bytes rs h) c.refill.ensures.block c.in_ok-some.ensures.read in
          gone_fed l c.refill.new.self c.feed.new.self bytes rs left after gone c.in-Ok.ensures.read;
      fed = omega (arith, c.loop-self.invariant.fed, c.in-Ok.ensures.further, c.refill.ensures.fed);
      further = λ some. omega (arith, c.loop-self.invariant.fed, c.in-Ok.ensures.further, c.refill.ensures.fed);
      columns = c.feed.ensures.columns ∙ ap (λ (b : Rows). b.analog) c.refill.ensures.block ∙ c.loop-self.invariant.columns;
      others = λ name other. c.refill.ensures.others name other ∙ c.loop-self.invariant.others name other;
      only_reads = OnlyReads-trans c.loop-self.invariant.only_reads c.refill.ensures.only_reads;
      faults = c.in_ok-some.ensures.cause.kept ∙ c.loop-self.invariant.faults;
    }

-- ---- a full block

pub returns-clause-gives : goal.returns-clause-gives
returns-clause-gives g c = λ l bytes rs h.
    let gone = c.loop-self.invariant.gone l bytes rs h in
    (gone.more, gone.took, gone.has, omega (arith, c.loop-self-test.false, c.rows.ensures.rows, c.room.ensures.room, c.room.ensures.within))

pub returns-clause-begins : goal.returns-clause-begins
returns-clause-begins g c = λ l bytes rs h.
    let left = (g.F.Shelf.told c.args.shelf.now).left c.args.name.now in
    let now = (g.F.Shelf.told c.loop-self.shelf).left c.args.name.now in
    begins_full l c.loop-self.self bytes rs left now (c.loop-self.invariant.gone l bytes rs h)

pub returns-clause-further : goal.returns-clause-further
returns-clause-further g c = λ is.
    let l = c.requires.0 in
    let bytes = c.requires.1 in
    let rs = c.requires.2 in
    let h = c.requires.3 in
    let gone = c.loop-self.invariant.gone l bytes rs h in
    c.loop-self.invariant.further (omega (arith, gone.has.some, c.loop-self-test.false, c.rows.ensures.rows, c.room.ensures.room))
