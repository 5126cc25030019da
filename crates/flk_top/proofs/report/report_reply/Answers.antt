use Rattle.std.proofs.Common.{◌∙◌}
use Rattle.flk_io.proofs.Told.{OnlyReads-trans}
use Rattle.flk_top.proofs.HonestReplies.{honest_on}
use Rattle.flk_top.proofs.ReportFiles.{read_in_turn, report_no_job, report_no_configuration, report_explained}
use Rattle.flk_top.proofs.ReportFiles.{both_only, all_only, no_configuration_turn, data_turn}
use Rattle.flk_top.proofs.report.report_reply.Goals as goal

-- ---- the job is refused

pub returns-in-Err-Fault-clause-due : goal.returns-in-Err-Fault-clause-due
returns-in-Err-Fault-clause-due g c =
    let refusal = rw c.in-Err-Fault.field-0-is at c.in-Err-Fault.ensures.refusal in
    rw c.in-Err-Fault.reply-is (report_no_job c.args.words.now (g.F.Shelf.told c.args.shelf.now) c.word.result.now c.args.command c.in-Err-Fault.reply c.word.ensures refusal)

-- ---- the configuration is refused

pub returns-in-Err-Fault-read_configuration-clause-due : goal.returns-in-Err-Fault-read_configuration-clause-due
returns-in-Err-Fault-read_configuration-clause-due g c =
    let refusal = rw c.in-Err-Fault-read_configuration.field-0-is at c.in-Err-Fault-read_configuration.ensures.refusal in
    rw c.in-Err-Fault-read_configuration.reply-is
    (report_no_configuration c.args.words.now (g.F.Shelf.told c.args.shelf.now) (g.F.Shelf.told c.read_job_file.new.shelf) c.word.result.now c.word-2.result.now c.args.command
    c.in-Ok.job c.in-Err-Fault-read_configuration.reply c.requires.asks.names c.word.ensures c.word-2.ensures c.read_job_file.ensures.others c.in-Ok.ensures.job refusal)

pub returns-in-Err-Fault-read_configuration-clause-names : goal.returns-in-Err-Fault-read_configuration-clause-names
returns-in-Err-Fault-read_configuration-clause-names g c =
    both_only c.args.words.now (g.F.Shelf.told c.args.shelf.now) (g.F.Shelf.told c.read_job_file.new.shelf) (g.F.Shelf.told c.read_configuration.new.shelf) c.word.result.now c.word-2.result.now
    c.word.ensures c.word-2.ensures c.read_job_file.ensures.others c.read_configuration.ensures.others

pub returns-in-Err-Fault-read_configuration-clause-turn : goal.returns-in-Err-Fault-read_configuration-clause-turn
returns-in-Err-Fault-read_configuration-clause-turn g c =
    let in_turn = read_in_turn c.args.words.now c.word.result.now c.word-2.result.now
    (g.F.Shelf.told c.args.shelf.now) (g.F.Shelf.told c.read_job_file.new.shelf) (g.F.Shelf.told c.read_configuration.new.shelf)
    c.requires.asks.names c.word.ensures c.word-2.ensures c.read_job_file.ensures.others c.read_configuration.ensures.others in
    no_configuration_turn c.args.words.now (g.F.Shelf.told c.args.shelf.now) (g.F.Shelf.told c.read_job_file.new.shelf) (g.F.Shelf.told c.read_configuration.new.shelf)
    c.word.result.now c.word-2.result.now c.args.command c.in-Ok.job in_turn c.in-Ok.ensures.job

pub returns-in-Err-OutOfMemory-read_configuration-clause-names : goal.returns-in-Err-OutOfMemory-read_configuration-clause-names
returns-in-Err-OutOfMemory-read_configuration-clause-names g c =
    both_only c.args.words.now (g.F.Shelf.told c.args.shelf.now) (g.F.Shelf.told c.read_job_file.new.shelf) (g.F.Shelf.told c.read_configuration.new.shelf) c.word.result.now c.word-2.result.now
    c.word.ensures c.word-2.ensures c.read_job_file.ensures.others c.read_configuration.ensures.others

pub returns-in-Err-OutOfMemory-read_configuration-clause-turn : goal.returns-in-Err-OutOfMemory-read_configuration-clause-turn
returns-in-Err-OutOfMemory-read_configuration-clause-turn g c =
    let in_turn = read_in_turn c.args.words.now c.word.result.now c.word-2.result.now
    (g.F.Shelf.told c.args.shelf.now) (g.F.Shelf.told c.read_job_file.new.shelf) (g.F.Shelf.told c.read_configuration.new.shelf)
    c.requires.asks.names c.word.ensures c.word-2.ensures c.read_job_file.ensures.others c.read_configuration.ensures.others in
    no_configuration_turn c.args.words.now (g.F.Shelf.told c.args.shelf.now) (g.F.Shelf.told c.read_job_file.new.shelf) (g.F.Shelf.told c.read_configuration.new.shelf)
    c.word.result.now c.word-2.result.now c.args.command c.in-Ok.job in_turn c.in-Ok.ensures.job

-- ---- both are accepted

pub returns-clause-due : goal.returns-clause-due
returns-clause-due g c =
    let in_turn = read_in_turn c.args.words.now c.word.result.now c.word-2.result.now
    (g.F.Shelf.told c.args.shelf.now) (g.F.Shelf.told c.read_job_file.new.shelf) (g.F.Shelf.told c.read_configuration.new.shelf)
    c.requires.asks.names c.word.ensures c.word-2.ensures c.read_job_file.ensures.others c.read_configuration.ensures.others in
    report_explained c.args.words.now (g.F.Shelf.told c.args.shelf.now) (g.F.Shelf.told c.read_job_file.new.shelf) (g.F.Shelf.told c.read_configuration.new.shelf)
    c.word.result.now c.word-2.result.now c.word-3.result.now c.args.command c.in-Ok.job c.in-Ok-read_configuration.config c.job_reply.result
    in_turn c.word-3.ensures c.in-Ok.ensures.job c.in-Ok-read_configuration.ensures.configuration c.job_reply.ensures.due

pub returns-clause-honest : goal.returns-clause-honest
returns-clause-honest g c =
    honest_on (g.F.Shelf.told c.args.shelf.now) (g.F.Shelf.told c.read_configuration.new.shelf) (g.F.Shelf.told c.job_reply.new.shelf) c.job_reply.result
    (c.in-Ok-read_configuration.ensures.quiet ∙ c.in-Ok.ensures.quiet) c.job_reply.ensures.honest

pub returns-clause-only_reads : goal.returns-clause-only_reads
returns-clause-only_reads g c =
    OnlyReads-trans c.read_job_file.ensures.only_reads (OnlyReads-trans c.read_configuration.ensures.only_reads c.job_reply.ensures.only_reads)

pub returns-clause-names : goal.returns-clause-names
returns-clause-names g c =
    all_only c.args.words.now (g.F.Shelf.told c.args.shelf.now) (g.F.Shelf.told c.read_job_file.new.shelf) (g.F.Shelf.told c.read_configuration.new.shelf) (g.F.Shelf.told c.job_reply.new.shelf)
    c.word.result.now c.word-2.result.now c.word-3.result.now c.word.ensures c.word-2.ensures c.word-3.ensures
    c.read_job_file.ensures.others c.read_configuration.ensures.others c.job_reply.ensures.others

pub returns-clause-turn : goal.returns-clause-turn
returns-clause-turn g c =
    let in_turn = read_in_turn c.args.words.now c.word.result.now c.word-2.result.now
    (g.F.Shelf.told c.args.shelf.now) (g.F.Shelf.told c.read_job_file.new.shelf) (g.F.Shelf.told c.read_configuration.new.shelf)
    c.requires.asks.names c.word.ensures c.word-2.ensures c.read_job_file.ensures.others c.read_configuration.ensures.others in
    data_turn c.args.words.now (g.F.Shelf.told c.args.shelf.now) (g.F.Shelf.told c.read_job_file.new.shelf) (g.F.Shelf.told c.read_configuration.new.shelf) (g.F.Shelf.told c.job_reply.new.shelf)
    c.word.result.now c.word-2.result.now c.word-3.result.now c.args.command c.in-Ok.job c.in-Ok-read_configuration.config
    in_turn c.word-3.ensures c.in-Ok.ensures.job c.in-Ok-read_configuration.ensures.configuration c.job_reply.ensures.turn
