-- From the bytes of a job to its first fault.
use Rattle.std.proofs.Common.{◌≡◌, ℕ, ◌+◌, List, Option, Err, refl, ap, ◌∙◌, string_bytes}
use Rattle.flk_io.specs.Causes.{TakesAll, TakesFront}
use Rattle.flk_num.specs.declared.stop.Stop.TheVariants.{Fault}
use Rattle.flk_job.specs.Job.{longest_job, IsJobAnswer}
use Rattle.flk_job.specs.Kinds.{kind_number}
use Rattle.flk_job.specs.declared.kind.JobFault.{JobFault}
use Rattle.flk_job.specs.declared.kind.Kind.TheVariants.{Length}
use Rattle.flk_top.specs.Faults.{job_line}
use Rattle.flk_top.specs.Outcome.{refusal}
use Rattle.flk_top.specs.Replies.{outcome_of}
use Rattle.flk_top.specs.ReportDue.{IsJobFault}
use Rattle.flk_top.specs.Told.{MayHold}
use Rattle.flk_top.specs.declared.reply.Reply.{Reply}
use Rattle.flk_top.specs.declared.reply.Status.TheVariants.{Refused}
use Rattle.flk_top.proofs.Outcomes.{is_refusal}
use Rattle.flk_top.proofs.Replies.{too_long_may_be}
use Rattle.flk_top.proofs.AgreeingFiles.{MayHold-all}

-- the reply is a refusal of bytes that may stand there
abbrev pub IsRefusedJob : Option (List ℕ) → Reply → Type 0
IsRefusedJob left r =
    (bytes : List ℕ) × (line : List ℕ) × MayHold left bytes × IsJobFault bytes line × (outcome_of r ≡ refusal line)

pub too_long_job : (left after : Option (List ℕ)) (r : Reply) → TakesFront left after (longest_job + 1)
    → (r.status ≡ Refused) × (string_bytes r.text ≡ job_line 0 (kind_number Length)) → IsRefusedJob left r
too_long_job left after r took told =
    let found = too_long_may_be left after longest_job took in
    (found.0, string_bytes r.text, found.1, (0, Length, (refl, found.2), told.1), is_refusal r (string_bytes r.text) told.0 refl)

pub fault_of_job : (left after : Option (List ℕ)) (bytes : List ℕ) (fault : JobFault) (r : Reply) → TakesAll left after bytes
    → IsJobAnswer bytes (Err (Fault fault)) → (r.status ≡ Refused) × (string_bytes r.text ≡ job_line fault.key fault.kind) → IsRefusedJob left r
fault_of_job left after bytes fault r took is told =
    let line : string_bytes r.text ≡ job_line fault.key (kind_number is.0) = told.1 ∙ ap (λ k. job_line fault.key k) is.1 in
    (bytes, string_bytes r.text, MayHold-all left after bytes took, (fault.key, is.0, is.2, line), is_refusal r (string_bytes r.text) told.0 refl)
