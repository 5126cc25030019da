use Rattle.std.proofs.Common.{List, length, ◌++◌, IfOk, None, sym, subst}
use Rattle.flk_dat.specs.Records.{DataRecord}
use Rattle.flk_phase.specs.declared.phase.Phase.{Phase}
use Rattle.flk_result.specs.Conditions.{AreEnough}
use Rattle.flk_section.specs.Filter.{FilterNumbers}
use Rattle.flk_top.specs.Blocks.{EndsAs}
use Rattle.flk_top.specs.ReportDue.{job_layout, conditions_in}
use Rattle.flk_top.specs.Working.{HaveWorked, AreWorked, AreLast}
use Rattle.flk_top.specs.declared.blocks.Progress.{Progress}
use Rattle.flk_top.proofs.ReportReplies.{IsLastReply, last_over, last_fault, last_reported, last_enough}
use Rattle.flk_top.proofs.report.last_reply.Goals as goal

-- ---- a channel is over range

pub over_reply-requires-clause-some : goal.over_reply-requires-clause-some
over_reply-requires-clause-some g c =
    let last = c.requires.last.2 in
    let worked = subst (AreWorked c.args.phases.now.items c.work_block.new.phases.items c.args.block.now.records) c.in-Some.is c.in_ok-record.ensures in
    (worked c.args.job.now c.args.config.now c.requires.last.0 last.records last.worked).some

pub over_reply-requires-clause-there : goal.over_reply-requires-clause-there
over_reply-requires-clause-there g c =
    let last = c.requires.last.2 in
    let worked = subst (AreWorked c.args.phases.now.items c.work_block.new.phases.items c.args.block.now.records) c.in-Some.is c.in_ok-record.ensures in
    (worked c.args.job.now c.args.config.now c.requires.last.0 last.records last.worked).there

pub returns-in-Some-clause-due : goal.returns-in-Some-clause-due
returns-in-Some-clause-due g c =
    let worked = subst (AreWorked c.args.phases.now.items c.work_block.new.phases.items c.args.block.now.records) c.in-Some.is c.in_ok-record.ensures in
    last_over c.args.progress c.args.job.now c.args.config.now c.args.phases.now.items c.work_block.new.phases.items c.args.block.now.records c.in-Some.record c.in-Some.turn c.over_reply.result worked c.over_reply.ensures

-- ---- the end of the file, or a fault

pub unreachable-requires : goal.unreachable-requires
unreachable-requires g c =
    let last = c.requires.last.2 in
    subst (λ (p : Progress). EndsAs p (job_layout c.args.job.now c.args.config.now) c.requires.last.1 (last.records ++ c.args.block.now.records)) c.in-Full.is last.ends

pub report_done-requires-clause-worked : goal.report_done-requires-clause-worked
report_done-requires-clause-worked g c =
    let j = c.args.job.now in
    let config = c.args.config.now in
    let old = c.args.phases.now.items in
    let new = c.work_block.new.phases.items in
    let more = c.args.block.now.records in
    let worked = subst (AreWorked old new more) c.in_default.is c.in_ok-record.ensures in
    let last = subst (λ (p : Progress). AreLast p j config c.requires.last.0 old more c.requires.last.1) c.in-Ended.is c.requires.last.2 in
    let P : List Phase → Type 0 = λ ps. (filter : FilterNumbers) × (rs : List DataRecord) × HaveWorked j config filter ps rs × AreEnough (conditions_in j config filter) (length rs) in
    subst P (sym c.deref.ensures.value) (last_enough j config c.requires.last.0 old new more c.requires.last.1 c.requires.matches worked last)

pub returns-in-Ended-clause-due : goal.returns-in-Ended-clause-due
returns-in-Ended-clause-due g c =
    let j = c.args.job.now in
    let config = c.args.config.now in
    let old = c.args.phases.now.items in
    let new = c.work_block.new.phases.items in
    let more = c.args.block.now.records in
    let worked = subst (λ (ps : List Phase). AreWorked old ps more None) (sym c.deref.ensures.value) (subst (AreWorked old new more) c.in_default.is c.in_ok-record.ensures) in
    let due = last_reported j config old c.deref.result.now more c.report_done.result worked c.report_done.ensures.reported in
    subst (λ (p : Progress). IfOk c.report_done.result (IsLastReply p j config old more)) (sym c.in-Ended.is) due

pub returns-in-Fault-clause-due : goal.returns-in-Fault-clause-due
returns-in-Fault-clause-due g c =
    let j = c.args.job.now in
    let config = c.args.config.now in
    let old = c.args.phases.now.items in
    let new = c.work_block.new.phases.items in
    let more = c.args.block.now.records in
    let worked = subst (AreWorked old new more) c.in_default.is c.in_ok-record.ensures in
    let due = last_fault c.in-Fault.fault j config old new more c.data_reply.result worked c.data_reply.ensures in
    subst (λ (p : Progress). IfOk c.data_reply.result (IsLastReply p j config old more)) (sym c.in-Fault.is) due
