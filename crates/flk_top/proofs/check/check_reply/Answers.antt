use Rattle.flk_io.proofs.Told.{OnlyReads-trans}
use Rattle.flk_top.proofs.HonestReplies.{honest_on}
use Rattle.flk_top.proofs.Replies.{check_unread, check_explained, check_in_turn, two_only}
use Rattle.flk_top.proofs.check.check_reply.Goals as goal

-- ---- the configuration is read

pub returns-in-Ok-clause-due : goal.returns-in-Ok-clause-due
returns-in-Ok-clause-due g c =
    check_explained c.args.words.now (g.F.Shelf.told c.args.shelf.now) (g.F.Shelf.told c.read_configuration.new.shelf) c.word.result.now c.word-in-Ok.result.now c.in-Ok.config c.summary_reply.result
    c.requires c.word.ensures c.word-in-Ok.ensures c.read_configuration.ensures.others c.in-Ok.ensures.configuration c.summary_reply.ensures.due

pub returns-in-Ok-clause-honest : goal.returns-in-Ok-clause-honest
returns-in-Ok-clause-honest g c =
    honest_on (g.F.Shelf.told c.args.shelf.now) (g.F.Shelf.told c.read_configuration.new.shelf) (g.F.Shelf.told c.summary_reply.new.shelf) c.summary_reply.result c.in-Ok.ensures.quiet c.summary_reply.ensures.honest

pub returns-in-Ok-clause-only_reads : goal.returns-in-Ok-clause-only_reads
returns-in-Ok-clause-only_reads g c = OnlyReads-trans c.read_configuration.ensures.only_reads c.summary_reply.ensures.only_reads

pub returns-in-Ok-clause-names : goal.returns-in-Ok-clause-names
returns-in-Ok-clause-names g c =
    two_only c.args.words.now (g.F.Shelf.told c.args.shelf.now) (g.F.Shelf.told c.read_configuration.new.shelf) (g.F.Shelf.told c.summary_reply.new.shelf) c.word.result.now c.word-in-Ok.result.now
    c.word.ensures c.word-in-Ok.ensures c.read_configuration.ensures.others c.summary_reply.ensures.others

pub returns-in-Ok-clause-turn : goal.returns-in-Ok-clause-turn
returns-in-Ok-clause-turn g c =
    check_in_turn c.args.words.now (g.F.Shelf.told c.args.shelf.now) (g.F.Shelf.told c.summary_reply.new.shelf) c.word.result.now c.in-Ok.config c.word.ensures c.in-Ok.ensures.configuration

-- ---- it is refused

pub returns-in-Err-Fault-clause-due : goal.returns-in-Err-Fault-clause-due
returns-in-Err-Fault-clause-due g c =
    let refusal = rw c.in-Err-Fault.field-0-is at c.in-Err-Fault.ensures.refusal in
    rw c.in-Err-Fault.reply-is (check_unread c.args.words.now (g.F.Shelf.told c.args.shelf.now) c.word.result.now c.in-Err-Fault.reply c.word.ensures refusal)
