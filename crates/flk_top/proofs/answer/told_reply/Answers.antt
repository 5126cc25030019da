use Rattle.std.proofs.Common.{rules, refl}
use Rattle.flk_top.specs.Command.{Asks}
use Rattle.flk_top.specs.declared.command.Command.TheVariants.{Levels, Check, Tables, Report}
use Rattle.flk_top.proofs.RunLemmas.{tables_replies, explained_all, input_read, confined_reads, turns_await}
use Rattle.flk_top.proofs.answer.told_reply.Goals as goal

-- ---- levels

pub returns-in-Levels-clause-due : goal.returns-in-Levels-clause-due
returns-in-Levels-clause-due g c =
    let asks : Asks c.args.words.now (Levels c.in-Levels.command) = search rules in
    explained_all c.args.words.now (g.F.Shelf.told c.args.shelf.now) (Levels c.in-Levels.command) c.levels_reply.result asks refl c.levels_reply.ensures.due

pub returns-in-Levels-clause-failed : goal.returns-in-Levels-clause-failed
returns-in-Levels-clause-failed g c =
    let asks : Asks c.args.words.now (Levels c.in-Levels.command) = search rules in
    input_read c.args.words.now (Levels c.in-Levels.command) _ _ c.levels_reply.result asks refl

pub returns-in-Levels-clause-names : goal.returns-in-Levels-clause-names
returns-in-Levels-clause-names g c =
    let asks : Asks c.args.words.now (Levels c.in-Levels.command) = search rules in
    confined_reads c.args.words.now (g.F.Shelf.told c.args.shelf.now) (g.F.Shelf.told c.levels_reply.new.shelf) (Levels c.in-Levels.command) _ _ asks refl c.levels_reply.ensures.only_reads c.levels_reply.ensures.names

pub returns-in-Levels-clause-turn : goal.returns-in-Levels-clause-turn
returns-in-Levels-clause-turn g c =
    let asks : Asks c.args.words.now (Levels c.in-Levels.command) = search rules in
    turns_await c.args.words.now (g.F.Shelf.told c.args.shelf.now) (g.F.Shelf.told c.levels_reply.new.shelf) (Levels c.in-Levels.command) asks c.levels_reply.ensures.turn

-- ---- check

pub returns-in-Check-clause-due : goal.returns-in-Check-clause-due
returns-in-Check-clause-due g c =
    let asks : Asks c.args.words.now Check = search rules in
    explained_all c.args.words.now (g.F.Shelf.told c.args.shelf.now) Check c.check_reply.result asks refl c.check_reply.ensures.due

pub returns-in-Check-clause-failed : goal.returns-in-Check-clause-failed
returns-in-Check-clause-failed g c =
    let asks : Asks c.args.words.now Check = search rules in
    input_read c.args.words.now Check _ _ c.check_reply.result asks refl

pub returns-in-Check-clause-names : goal.returns-in-Check-clause-names
returns-in-Check-clause-names g c =
    let asks : Asks c.args.words.now Check = search rules in
    confined_reads c.args.words.now (g.F.Shelf.told c.args.shelf.now) (g.F.Shelf.told c.check_reply.new.shelf) Check _ _ asks refl c.check_reply.ensures.only_reads c.check_reply.ensures.names

pub returns-in-Check-clause-turn : goal.returns-in-Check-clause-turn
returns-in-Check-clause-turn g c =
    let asks : Asks c.args.words.now Check = search rules in
    turns_await c.args.words.now (g.F.Shelf.told c.args.shelf.now) (g.F.Shelf.told c.check_reply.new.shelf) Check asks c.check_reply.ensures.turn

-- ---- tables

pub returns-in-Tables-clause-due : goal.returns-in-Tables-clause-due
returns-in-Tables-clause-due g c =
    let asks : Asks c.args.words.now (Tables c.in-Tables.lamp c.in-Tables.rate) = search rules in
    tables_replies c.args.words.now (g.F.Shelf.told c.args.shelf.now) c.in-Tables.lamp c.in-Tables.rate c.tables_reply.result asks c.tables_reply.ensures

-- ---- report

pub returns-in-Report-clause-due : goal.returns-in-Report-clause-due
returns-in-Report-clause-due g c =
    let asks : Asks c.args.words.now (Report c.in-Report.command) = search rules in
    explained_all c.args.words.now (g.F.Shelf.told c.args.shelf.now) (Report c.in-Report.command) c.report_reply.result asks refl c.report_reply.ensures.due

pub returns-in-Report-clause-failed : goal.returns-in-Report-clause-failed
returns-in-Report-clause-failed g c =
    let asks : Asks c.args.words.now (Report c.in-Report.command) = search rules in
    input_read c.args.words.now (Report c.in-Report.command) _ _ c.report_reply.result asks refl

pub returns-in-Report-clause-names : goal.returns-in-Report-clause-names
returns-in-Report-clause-names g c =
    let asks : Asks c.args.words.now (Report c.in-Report.command) = search rules in
    confined_reads c.args.words.now (g.F.Shelf.told c.args.shelf.now) (g.F.Shelf.told c.report_reply.new.shelf) (Report c.in-Report.command) _ _ asks refl c.report_reply.ensures.only_reads c.report_reply.ensures.names

pub returns-in-Report-clause-turn : goal.returns-in-Report-clause-turn
returns-in-Report-clause-turn g c =
    let asks : Asks c.args.words.now (Report c.in-Report.command) = search rules in
    turns_await c.args.words.now (g.F.Shelf.told c.args.shelf.now) (g.F.Shelf.told c.report_reply.new.shelf) (Report c.in-Report.command) asks c.report_reply.ensures.turn
