-- The three files of a report: what was read of them, and what awaits its turn.
use Rattle.std.proofs.Common.{◌≡◌, ◌≢◌, ℕ, zero, suc, List, [], ◌∷◌, map, Option, Some, None, Result, Ok, Err, IfOk, sym, ap, ◌∙◌, subst, arith}
use Rattle.std.specs.Prelude.{Contains}
use Rattle.flk_io.specs.Told.{ShelfTold, ReadsUnder}
use Rattle.flk_cfg.specs.declared.config.Config.{Config}
use Rattle.flk_job.specs.Job.{IsJob}
use Rattle.flk_job.specs.Matching.{IsMatch}
use Rattle.flk_job.specs.declared.job.Job.{Job}
use Rattle.flk_top.specs.Answer.{ComesToTurn}
use Rattle.flk_top.specs.Certified.{IsCertifiedLamp}
use Rattle.flk_top.specs.Command.{job_name, report_configuration_name, report_data_name, AreReportNames}
use Rattle.flk_top.specs.Configuration.{IsConfiguration}
use Rattle.flk_top.specs.Replies.{outcome_of, IsExplained, ReadsOnly, AwaitsTurns}
use Rattle.flk_top.specs.ReportDue.{IsDueForJob, no_job, no_configuration, read}
use Rattle.flk_top.specs.Told.{MayHold}
use Rattle.flk_top.specs.declared.certified.CertifiedSection.{CertifiedSection}
use Rattle.flk_top.specs.declared.command.Command.TheVariants.{Report}
use Rattle.flk_top.specs.declared.command.ReportCommand.{ReportCommand}
use Rattle.flk_top.specs.declared.reply.Reply.{Reply}
use Rattle.flk_top.specs.declared.reply.Status.TheVariants.{ReadFailed}
use Rattle.flk_top.proofs.AgreeingFiles.{told_or_none, may_be_told, contains_first, contains_next}
use Rattle.flk_top.proofs.JobReplies.{IsRefusedJob}
use Rattle.flk_top.proofs.Replies.{IsRefusedConfiguration}

abbrev pub three_names : List (List ℕ) → List (List ℕ)
three_names words = job_name words ∷ report_configuration_name words ∷ report_data_name words ∷ []

-- the names of the reads are those of the words, and what is told after each
pub record ReadInTurn (words : List (List ℕ)) (first second : List ℕ) (old mid late : ShelfTold) : Type 0 where
  pub names : AreReportNames words
  pub first_is : first ≡ job_name words
  pub second_is : second ≡ report_configuration_name words
  pub job : ReadsUnder first old mid
  pub configuration : ReadsUnder second mid late

pub read_in_turn : (words : List (List ℕ)) (first second : List ℕ) (old mid late : ShelfTold) → AreReportNames words → first ≡ job_name words → second ≡ report_configuration_name words
    → ReadsUnder first old mid → ReadsUnder second mid late → ReadInTurn words first second old mid late
read_in_turn words first second old mid late names is there reads later =
    record { names = names; first_is = is; second_is = there; job = reads; configuration = later }

-- ---- what was read may be what stood there at entry

-- the configuration when the job was read
pub configuration_waits : (words : List (List ℕ)) (first : List ℕ) (old mid : ShelfTold) → AreReportNames words → first ≡ job_name words → ReadsUnder first old mid
    → mid.left (report_configuration_name words) ≡ old.left (report_configuration_name words)
configuration_waits words first old mid names is reads = reads (report_configuration_name words) (λ same. names.job_configuration (sym (same ∙ is)))

pub data_waits : (words : List (List ℕ)) (first : List ℕ) (old mid : ShelfTold) → AreReportNames words → first ≡ job_name words → ReadsUnder first old mid
    → mid.left (report_data_name words) ≡ old.left (report_data_name words)
data_waits words first old mid names is reads = reads (report_data_name words) (λ same. names.job_data (sym (same ∙ is)))

-- the data when both were read
pub data_wait_on : (words : List (List ℕ)) (first second : List ℕ) (old mid late : ShelfTold) → ReadInTurn words first second old mid late
    → late.left (report_data_name words) ≡ old.left (report_data_name words)
data_wait_on words first second old mid late h =
    h.configuration (report_data_name words) (λ same. h.names.configuration_data (sym (same ∙ h.second_is)))
    ∙ data_waits words first old mid h.names h.first_is h.job

moved : (name there bytes : List ℕ) (old new : ShelfTold) → there ≡ name → new.left name ≡ old.left name → MayHold (new.left there) bytes → MayHold (old.left name) bytes
moved name there bytes old new is same may = subst (λ (left : Option (List ℕ)). MayHold left bytes) (ap new.left is ∙ same) may

-- what may stand there, or is told
abbrev any_of : ShelfTold → List ℕ → List ℕ
any_of told name = told_or_none (told.left name)

-- ---- what the reply is due for

pub report_no_job : (words : List (List ℕ)) (told : ShelfTold) (first : List ℕ) (command : ReportCommand) (r : Reply) → first ≡ job_name words
    → (r.status ≢ ReadFailed → IsRefusedJob (told.left first) r) → IsExplained (Report command) (three_names words) told r
report_no_job words told first command r is refused = λ fine.
    let out = refused fine in
    let conf = report_configuration_name words in
    let last = report_data_name words in (
      out.0 ∷ any_of told conf ∷ any_of told last ∷ [],
      (subst (λ (n : List ℕ). MayHold (told.left n) out.0) is out.2, (may_be_told (told.left conf), (may_be_told (told.left last), tt))),
      no_job out.1 out.3 out.4,
    )

pub report_no_configuration : (words : List (List ℕ)) (old mid : ShelfTold) (first second : List ℕ) (command : ReportCommand) (j : Job) (r : Reply) → AreReportNames words → first ≡ job_name words
    → second ≡ report_configuration_name words → ReadsUnder first old mid → (bytes : List ℕ) × MayHold (old.left first) bytes × IsJob bytes j
    → (r.status ≢ ReadFailed → IsRefusedConfiguration (mid.left second) r) → IsExplained (Report command) (three_names words) old r
report_no_configuration words old mid first second command j r names is there reads job refused = λ fine.
    let out = refused fine in
    let conf = report_configuration_name words in
    let last = report_data_name words in (
      job.0 ∷ out.0 ∷ any_of old last ∷ [],
      (subst (λ (n : List ℕ). MayHold (old.left n) job.0) is job.1, (moved conf second out.0 old mid there (configuration_waits words first old mid names is reads) out.2, (may_be_told (old.left last), tt))),
      no_configuration j out.1 job.2 out.3 out.4,
    )

pub report_explained : {E : Type 0} (words : List (List ℕ)) (old mid late : ShelfTold) (first second third : List ℕ) (command : ReportCommand) (j : Job) (c : Config) (r : Result Reply E)
    → ReadInTurn words first second old mid late → third ≡ report_data_name words → (bytes : List ℕ) × MayHold (old.left first) bytes × IsJob bytes j
    → (bytes : List ℕ) × MayHold (mid.left second) bytes × IsConfiguration bytes c → IfOk r (λ x. x.status ≢ ReadFailed → (bytes : List ℕ) × MayHold (late.left third) bytes × IsDueForJob j c bytes (outcome_of x))
    → IfOk r (IsExplained (Report command) (three_names words) old)
report_explained words old mid late first second third command j c (Ok x) h there job configuration reply = λ fine.
    let out = reply fine in
    let conf = report_configuration_name words in
    let last = report_data_name words in (
      job.0 ∷ configuration.0 ∷ out.0 ∷ [],
      (
        subst (λ (n : List ℕ). MayHold (old.left n) job.0) h.first_is job.1,
        (
          moved conf second configuration.0 old mid h.second_is (configuration_waits words first old mid h.names h.first_is h.job) configuration.1,
          (moved last third out.0 old late there (data_wait_on words first second old mid late h) out.1, tt),
        ),
      ),
      read j c job.2 configuration.2 out.2,
    )
report_explained words old mid late first second third command j c (Err e) h there job configuration reply = tt

-- ---- nothing is read under other names

not_first : (words : List (List ℕ)) (n other : List ℕ) → n ≡ job_name words → ¬ Contains (three_names words) other → other ≢ n
not_first words n other is never same =
    never (subst (λ (m : List ℕ). Contains (m ∷ report_configuration_name words ∷ report_data_name words ∷ []) other) (same ∙ is) (contains_first (report_configuration_name words ∷ report_data_name words ∷ []) other))

not_second : (words : List (List ℕ)) (n other : List ℕ) → n ≡ report_configuration_name words → ¬ Contains (three_names words) other → other ≢ n
not_second words n other is never same =
    never (contains_next (report_configuration_name words ∷ report_data_name words ∷ []) (job_name words) other
    (subst (λ (m : List ℕ). Contains (m ∷ report_data_name words ∷ []) other) (same ∙ is) (contains_first (report_data_name words ∷ []) other)))

not_third : (words : List (List ℕ)) (n other : List ℕ) → n ≡ report_data_name words → ¬ Contains (three_names words) other → other ≢ n
not_third words n other is never same =
    never (contains_next (report_configuration_name words ∷ report_data_name words ∷ []) (job_name words) other
    (contains_next (report_data_name words ∷ []) (report_configuration_name words) other (subst (λ (m : List ℕ). Contains (m ∷ []) other) (same ∙ is) (contains_first [] other))))

pub job_only : (words : List (List ℕ)) (old mid : ShelfTold) (first : List ℕ) → first ≡ job_name words → ReadsUnder first old mid → ReadsOnly (three_names words) old mid
job_only words old mid first is reads = λ other never. reads other (not_first words first other is never)

pub both_only : (words : List (List ℕ)) (old mid late : ShelfTold) (first second : List ℕ) → first ≡ job_name words → second ≡ report_configuration_name words → ReadsUnder first old mid → ReadsUnder second mid late
    → ReadsOnly (three_names words) old late
both_only words old mid late first second is there reads later = λ other never.
    later other (not_second words second other there never) ∙ reads other (not_first words first other is never)

pub all_only : (words : List (List ℕ)) (old mid late new : ShelfTold) (first second third : List ℕ) → first ≡ job_name words → second ≡ report_configuration_name words → third ≡ report_data_name words
    → ReadsUnder first old mid → ReadsUnder second mid late → ReadsUnder third late new → ReadsOnly (three_names words) old new
all_only words old mid late new first second third is there data_is job configuration last = λ other never.
    last other (not_third words third other data_is never) ∙ both_only words old mid late first second is there job configuration other never

-- ---- turns

-- what is told of the first two of some names
abbrev first_told : List (Option (List ℕ)) → Option (List ℕ)
first_told [] = None
first_told (x ∷ xs) = x

abbrev second_told : List (Option (List ℕ)) → Option (List ℕ)
second_told [] = None
second_told (x ∷ xs) = first_told xs

-- where the job is refused, the others are as at entry
pub no_job_turn : (words : List (List ℕ)) (old new : ShelfTold) (first : List ℕ) (command : ReportCommand) → AreReportNames words → first ≡ job_name words → ReadsUnder first old new
    → AwaitsTurns (Report command) (three_names words) old new
no_job_turn words old new first command names is reads = turns
  where
    turns : AwaitsTurns (Report command) (three_names words) old new
    turns contents tells zero less never = absurd (never tt)
    turns contents tells (suc zero) less never = configuration_waits words first old new names is reads
    turns contents tells (suc (suc zero)) less never = data_waits words first old new names is reads
    turns contents tells (suc (suc (suc i))) less never = absurd (omega (arith, less))

-- where the job is accepted, the configuration comes to its turn
job_turn : (words : List (List ℕ)) (old : ShelfTold) (first : List ℕ) (command : ReportCommand) (j : Job) (contents : List (List ℕ)) → first ≡ job_name words
    → (bytes : List ℕ) × MayHold (old.left first) bytes × IsJob bytes j → map old.left (three_names words) ≡ map Some contents → ComesToTurn (Report command) contents 1
job_turn words old first command j [] is job tells = cc
job_turn words old first command j (x ∷ contents) is job tells =
    let same : job.0 ≡ x = job.1 x (ap old.left is ∙ ap first_told tells) in
    (j, subst (λ (y : List ℕ). IsJob y j) same job.2)

-- where the configuration is refused, the data are as at entry
pub no_configuration_turn : (words : List (List ℕ)) (old mid new : ShelfTold) (first second : List ℕ) (command : ReportCommand) (j : Job) → ReadInTurn words first second old mid new
    → (bytes : List ℕ) × MayHold (old.left first) bytes × IsJob bytes j → AwaitsTurns (Report command) (three_names words) old new
no_configuration_turn words old mid new first second command j h job = turns
  where
    turns : AwaitsTurns (Report command) (three_names words) old new
    turns contents tells zero less never = absurd (never tt)
    turns contents tells (suc zero) less never = absurd (never (job_turn words old first command j contents h.first_is job tells))
    turns contents tells (suc (suc zero)) less never = data_wait_on words first second old mid new h
    turns contents tells (suc (suc (suc i))) less never = absurd (omega (arith, less))

-- where both are accepted, the data await the match and the lamp
pub data_turn : (words : List (List ℕ)) (old mid late new : ShelfTold) (first second third : List ℕ) (command : ReportCommand) (j : Job) (c : Config) → ReadInTurn words first second old mid late → third ≡ report_data_name words
    → (bytes : List ℕ) × MayHold (old.left first) bytes × IsJob bytes j → (bytes : List ℕ) × MayHold (mid.left second) bytes × IsConfiguration bytes c
    → (((ss : List CertifiedSection) → IsMatch j c → ¬ IsCertifiedLamp j.lamp c.rate ss) → new.left third ≡ late.left third) → AwaitsTurns (Report command) (three_names words) old new
data_turn words old mid late new first second third command j c h data_is job configuration waits = turns
  where
    last : List ℕ
    last = report_data_name words

    -- the data, unless the lamp is certified for what is told
    untouched : (x y : List ℕ) (contents : List (List ℕ)) → map old.left (three_names words) ≡ map Some (x ∷ y ∷ contents) → ¬ ComesToTurn (Report command) (x ∷ y ∷ contents) 2 → new.left last ≡ old.left last
    untouched x y contents tells never =
        let job_is : job.0 ≡ x = job.1 x (ap old.left h.first_is ∙ ap first_told tells) in
        let told : mid.left second ≡ Some y = ap mid.left h.second_is ∙ configuration_waits words first old mid h.names h.first_is h.job ∙ ap second_told tells in
        let configuration_is : configuration.0 ≡ y = configuration.1 y told in
        let same = waits (λ ss is lamp. never (j, c, ss, subst (λ (z : List ℕ). IsJob z j) job_is job.2, subst (λ (z : List ℕ). IsConfiguration z c) configuration_is configuration.2, is, lamp)) in
        ap new.left (sym data_is) ∙ same ∙ ap late.left data_is ∙ data_wait_on words first second old mid late h

    turns : AwaitsTurns (Report command) (three_names words) old new
    turns contents tells zero less never = absurd (never tt)
    turns contents tells (suc zero) less never = absurd (never (job_turn words old first command j contents h.first_is job tells))
    turns [] tells (suc (suc zero)) less never = cc
    turns (x ∷ []) tells (suc (suc zero)) less never = cc
    turns (x ∷ y ∷ contents) tells (suc (suc zero)) less never = untouched x y contents tells never
    turns contents tells (suc (suc (suc i))) less never = absurd (omega (arith, less))
