use Rattle.flk_io.proofs.Told.{OnlyReads-trans}
use Rattle.flk_top.specs.Faults.{match_line}
use Rattle.flk_top.specs.declared.command.Command.TheVariants.{Levels}
use Rattle.flk_top.proofs.HonestReplies.{refused_honest, honest_on}
use Rattle.flk_top.proofs.Replies.{levels_unread, levels_unmatched, levels_explained, levels_in_turn, data_await, data_untouched, one_only, two_only}
use Rattle.flk_top.proofs.levels.levels_reply.Goals as goal

-- ---- the channel can be measured

pub measured_reply-requires-clause-matched : goal.measured_reply-requires-clause-matched
measured_reply-requires-clause-matched g c =
    let m = c.in-Ok-match_levels.ensures.matched in
    (m.0, record { matches = m.1; scale = m.2; rate = m.3 })

pub returns-in-Ok-match_levels-clause-due : goal.returns-in-Ok-match_levels-clause-due
returns-in-Ok-match_levels-clause-due g c =
    let m = c.in-Ok-match_levels.ensures.matched in
    levels_explained c.args.words.now (g.F.Shelf.told c.args.shelf.now) (g.F.Shelf.told c.read_configuration.new.shelf) c.word.result.now c.word-in-Ok-match_levels.result.now
    c.args.command c.in-Ok.config m.0 c.in-Ok-match_levels.matched c.measured_reply.result
    c.requires c.word.ensures c.word-in-Ok-match_levels.ensures c.read_configuration.ensures.others c.in-Ok.ensures.configuration (record { matches = m.1; scale = m.2; rate = m.3 }) c.measured_reply.ensures.due

pub returns-in-Ok-match_levels-clause-honest : goal.returns-in-Ok-match_levels-clause-honest
returns-in-Ok-match_levels-clause-honest g c =
    honest_on (g.F.Shelf.told c.args.shelf.now) (g.F.Shelf.told c.read_configuration.new.shelf) (g.F.Shelf.told c.measured_reply.new.shelf) c.measured_reply.result c.in-Ok.ensures.quiet c.measured_reply.ensures.honest

pub returns-in-Ok-match_levels-clause-only_reads : goal.returns-in-Ok-match_levels-clause-only_reads
returns-in-Ok-match_levels-clause-only_reads g c = OnlyReads-trans c.read_configuration.ensures.only_reads c.measured_reply.ensures.only_reads

pub returns-in-Ok-match_levels-clause-names : goal.returns-in-Ok-match_levels-clause-names
returns-in-Ok-match_levels-clause-names g c =
    two_only c.args.words.now (g.F.Shelf.told c.args.shelf.now) (g.F.Shelf.told c.read_configuration.new.shelf) (g.F.Shelf.told c.measured_reply.new.shelf) c.word.result.now c.word-in-Ok-match_levels.result.now
    c.word.ensures c.word-in-Ok-match_levels.ensures c.read_configuration.ensures.others c.measured_reply.ensures.others

pub returns-in-Ok-match_levels-clause-turn : goal.returns-in-Ok-match_levels-clause-turn
returns-in-Ok-match_levels-clause-turn g c =
    let m = c.in-Ok-match_levels.ensures.matched in
    levels_in_turn c.args.words.now (g.F.Shelf.told c.args.shelf.now) (g.F.Shelf.told c.measured_reply.new.shelf) c.word.result.now c.args.command c.in-Ok.config m.0 c.in-Ok-match_levels.matched
    c.word.ensures c.in-Ok.ensures.configuration (record { matches = m.1; scale = m.2; rate = m.3 })

-- ---- the configuration is refused

pub returns-in-Err-Fault-clause-due : goal.returns-in-Err-Fault-clause-due
returns-in-Err-Fault-clause-due g c =
    let refusal = rw c.in-Err-Fault.field-0-is at c.in-Err-Fault.ensures.refusal in
    rw c.in-Err-Fault.reply-is (levels_unread c.args.words.now (g.F.Shelf.told c.args.shelf.now) c.word.result.now c.args.command c.in-Err-Fault.reply c.word.ensures refusal)

-- ---- the channel can't be measured

pub returns-clause-due : goal.returns-clause-due
returns-clause-due g c =
    levels_unmatched c.args.words.now (g.F.Shelf.told c.args.shelf.now) c.word.result.now c.args.command c.in-Ok.config c.in-Err.fault c.match_reply.result
    c.word.ensures c.in-Ok.ensures.configuration c.in-Err.ensures.fault c.match_reply.ensures

pub returns-clause-honest : goal.returns-clause-honest
returns-clause-honest g c =
    refused_honest (match_line c.in-Err.fault) (g.F.Shelf.told c.args.shelf.now) (g.F.Shelf.told c.read_configuration.new.shelf) c.match_reply.result c.match_reply.ensures c.in-Ok.ensures.quiet

pub returns-clause-names : goal.returns-clause-names
returns-clause-names g c =
    one_only c.args.words.now (g.F.Shelf.told c.args.shelf.now) (g.F.Shelf.told c.read_configuration.new.shelf) c.word.result.now c.word.ensures c.read_configuration.ensures.others

pub returns-clause-turn : goal.returns-clause-turn
returns-clause-turn g c =
    let old = g.F.Shelf.told c.args.shelf.now in
    let new = g.F.Shelf.told c.read_configuration.new.shelf in
    data_await (Levels c.args.command) c.args.words.now old new (data_untouched c.args.words.now old new c.word.result.now c.word.ensures c.requires.names c.read_configuration.ensures.others)
