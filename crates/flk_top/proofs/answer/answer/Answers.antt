use Rattle.std.proofs.Common.{rules}
use Rattle.flk_io.proofs.Told.{OnlyReads-same}
use Rattle.flk_top.specs.Command.{Asks}
use Rattle.flk_top.specs.declared.command.Command.TheVariants.{Gen}
use Rattle.flk_top.proofs.GenReplies.{gen_told, gen_cut_off, gen_confined}
use Rattle.flk_top.proofs.RunLemmas.{usage_due, reply_told, nothing_begun, reads_count, no_reply, memory_short}
use Rattle.flk_top.proofs.answer.answer.Goals as goal

-- ---- words of no command

pub returns-in_err-usage_reply-clause-cut : goal.returns-in_err-usage_reply-clause-cut
returns-in_err-usage_reply-clause-cut g c =
    let told = g.F.Shelf.told c.args.shelf.now in
    memory_short c.args.words.now told told c.from_residual.result (OnlyReads-same told) c.from_residual.ensures.1

pub returns-in_default-clause-whole : goal.returns-in_default-clause-whole
returns-in_default-clause-whole g c =
    let told = g.F.Shelf.told c.args.shelf.now in
    let r = c.in_ok-usage_reply.field-0 in
    reply_told c.args.words.now told told r (OnlyReads-same told) (λ fine. usage_due c.args.words.now told r c.in_default.ensures.none c.in_ok-usage_reply.ensures.0 c.in_ok-usage_reply.ensures.1)

-- ---- a command that appends nothing

pub returns-in_err-told_reply-in_default-asked : goal.returns-in_err-told_reply-in_default-asked
returns-in_err-told_reply-in_default-asked g c =
    let old = g.F.Shelf.told c.args.shelf.now in
    let new = g.F.Shelf.told c.told_reply.new.shelf in
    let r = c.from_residual-in_err-told_reply-in_default-asked.result in
    let is = c.from_residual-in_err-told_reply-in_default-asked.ensures.1 in
    record {
      whole = no_reply r _ _ is;
      failed = no_reply r _ _ is;
      honest = no_reply r _ _ is;
      cut = memory_short c.args.words.now old new r c.told_reply.ensures.only_reads is;
      quiet = no_reply r _ _ is;
      counts = reads_count old new c.told_reply.ensures.only_reads;
      names = c.told_reply.ensures.names;
      turn = c.told_reply.ensures.turn;
    }

pub returns-in_ok-told_reply-in_default-asked : goal.returns-in_ok-told_reply-in_default-asked
returns-in_ok-told_reply-in_default-asked g c =
    let old = g.F.Shelf.told c.args.shelf.now in
    let new = g.F.Shelf.told c.told_reply.new.shelf in
    let r = c.in_ok-told_reply-in_default-asked.field-0 in
    let is = c.in_ok-told_reply-in_default-asked.ensures in
    record {
      whole = reply_told c.args.words.now old new r c.told_reply.ensures.only_reads is.due;
      failed = λ failed. (is.failed failed, nothing_begun c.args.words.now old new c.told_reply.ensures.only_reads);
      honest = is.honest;
      cut = tt;
      quiet = c.told_reply.ensures.only_reads.append_faults;
      counts = reads_count old new c.told_reply.ensures.only_reads;
      names = c.told_reply.ensures.names;
      turn = c.told_reply.ensures.turn;
    }

-- ---- gen

pub returns-in-Gen-clause-whole : goal.returns-in-Gen-clause-whole
returns-in-Gen-clause-whole g c =
    let asks : Asks c.args.words.now (Gen c.in-Gen.command) = search rules in
    gen_told c.args.words.now (g.F.Shelf.told c.args.shelf.now) (g.F.Shelf.told c.gen_reply.new.shelf) c.in-Gen.command c.gen_reply.result asks c.gen_reply.ensures.whole

pub returns-in-Gen-clause-cut : goal.returns-in-Gen-clause-cut
returns-in-Gen-clause-cut g c =
    let asks : Asks c.args.words.now (Gen c.in-Gen.command) = search rules in
    gen_cut_off c.args.words.now (g.F.Shelf.told c.args.shelf.now) (g.F.Shelf.told c.gen_reply.new.shelf) c.in-Gen.command c.gen_reply.result asks c.gen_reply.ensures.front c.gen_reply.ensures.cause

pub returns-in-Gen-clause-names : goal.returns-in-Gen-clause-names
returns-in-Gen-clause-names g c =
    let asks : Asks c.args.words.now (Gen c.in-Gen.command) = search rules in
    gen_confined c.args.words.now (g.F.Shelf.told c.args.shelf.now) (g.F.Shelf.told c.gen_reply.new.shelf) c.in-Gen.command asks c.gen_reply.ensures.only_appends c.gen_reply.ensures.names
