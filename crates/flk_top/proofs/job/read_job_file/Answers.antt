use Rattle.std.proofs.Common.{rules, ◌≡◌, ◌+◌, Err, string_bytes}
use Rattle.flk_io.specs.Causes.{TakesAll, TakesFront}
use Rattle.flk_num.specs.declared.stop.Stop.TheVariants.{Fault}
use Rattle.flk_job.specs.Job.{longest_job, IsJob, IsJobAnswer}
use Rattle.flk_job.specs.Kinds.{kind_number}
use Rattle.flk_job.specs.declared.kind.Kind.TheVariants.{Length}
use Rattle.flk_top.specs.Faults.{job_line}
use Rattle.flk_top.specs.declared.reply.Status.TheVariants.{Refused}
use Rattle.flk_top.proofs.JobReplies.{too_long_job, fault_of_job}
use Rattle.flk_top.proofs.job.read_job_file.Goals as goal
use Rattle.flk_top.proofs.AgreeingFiles.{MayHold-all}

pub returns-in-Ok-read_job-clause-job : goal.returns-in-Ok-read_job-clause-job
returns-in-Ok-read_job-clause-job g c =
    let left = (g.F.Shelf.told c.args.shelf.now).left c.args.name.now in
    let after = (g.F.Shelf.told c.read_all.new.shelf).left c.args.name.now in
    let bytes = c.in-Ok.bytes.items in
    let took : TakesAll left after bytes = search rules in
    let found : IsJob c.deref.result.now c.in-Ok-read_job.job = search rules in
    let is : IsJob bytes c.in-Ok-read_job.job = rw c.deref.ensures.value at found in
    (bytes, MayHold-all left after bytes took, is)

pub returns-in-Err-TooLong-clause-refusal : goal.returns-in-Err-TooLong-clause-refusal
returns-in-Err-TooLong-clause-refusal g c = λ fine.
    let left = (g.F.Shelf.told c.args.shelf.now).left c.args.name.now in
    let after = (g.F.Shelf.told c.read_all.new.shelf).left c.args.name.now in
    let reply = c.in_ok-too_long_reply-in-Err-TooLong.field-0 in
    let took : TakesFront left after (longest_job + 1) = search rules in
    let told : (reply.status ≡ Refused) × (string_bytes reply.text ≡ job_line 0 (kind_number Length)) = search rules in
    too_long_job left after reply took told

pub returns-in-Err-Fault-clause-refusal : goal.returns-in-Err-Fault-clause-refusal
returns-in-Err-Fault-clause-refusal g c = λ fine.
    let left = (g.F.Shelf.told c.args.shelf.now).left c.args.name.now in
    let after = (g.F.Shelf.told c.read_all.new.shelf).left c.args.name.now in
    let bytes = c.in-Ok.bytes.items in
    let fault = c.in-Err-Fault.fault in
    let reply = c.in_ok-job_reply-in-Err-Fault.field-0 in
    let took : TakesAll left after bytes = search rules in
    let found : IsJobAnswer c.deref.result.now (Err (Fault fault)) = search rules in
    let first : IsJobAnswer bytes (Err (Fault fault)) = rw c.deref.ensures.value at found in
    let told : (reply.status ≡ Refused) × (string_bytes reply.text ≡ job_line fault.key fault.kind) = search rules in
    fault_of_job left after bytes fault reply took first told
