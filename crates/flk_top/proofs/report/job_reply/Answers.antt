use Rattle.flk_top.proofs.ReportReplies.{filter_design, job_unmatched, job_uncertified, job_worked}
use Rattle.flk_top.proofs.report.job_reply.Goals as goal

pub returns-in-Err-clause-due : goal.returns-in-Err-clause-due
returns-in-Err-clause-due g c =
    let left = (g.F.Shelf.told c.args.shelf.now).left c.args.name.now in
    job_unmatched c.args.job.now c.args.config.now left c.in-Err.fault c.match_reply.result c.in-Err.ensures.fault c.match_reply.ensures

pub phases_reply-requires-clause-design : goal.phases_reply-requires-clause-design
phases_reply-requires-clause-design g c κs within =
    let found = c.in-Ok.ensures.certified in
    filter_design c.args.job.now.lamp c.args.config.now.rate c.in-Ok.certified.sections.items c.in-Ok.certified.whole found.0 found.1

pub returns-in-Ok-clause-due : goal.returns-in-Ok-clause-due
returns-in-Ok-clause-due g c =
    let left = (g.F.Shelf.told c.args.shelf.now).left c.args.name.now in
    let found = c.in-Ok.ensures.certified in
    job_worked c.args.job.now c.args.config.now left c.in-Ok.certified.sections.items c.in-Ok.certified.whole c.phases_reply.result c.in_default.ensures.matched found.0 found.1 c.phases_reply.ensures.due

pub returns-in-Err-Fault-clause-due : goal.returns-in-Err-Fault-clause-due
returns-in-Err-Fault-clause-due g c =
    let left = (g.F.Shelf.told c.args.shelf.now).left c.args.name.now in
    let refused = rw c.in-Err-Fault.field-0-is at c.in-Err-Fault.ensures.refused in
    job_uncertified c.args.job.now c.args.config.now left c.in-Err-Fault.fault c.lamp_reply.result c.in_default.ensures.matched refused c.lamp_reply.ensures
