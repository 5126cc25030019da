-- What is due, by the words and by the bytes of the files that their command reads: the table of the commands.
use Rattle.std.specs.Prelude.{◌≡◌, ℕ, zero, suc, List, [], ◌∷◌, map}
use Rattle.flk_num.specs.declared.lamp.Lamp.{Lamp}
use Rattle.flk_cfg.specs.declared.config.Analog.{Analog}
use Rattle.flk_cfg.specs.declared.config.Config.{Config}
use Rattle.flk_job.specs.Job.{IsJob}
use Rattle.flk_job.specs.Matching.{IsMatch}
use Rattle.flk_job.specs.declared.job.Job.{Job}
use Rattle.flk_top.specs.Certified.{IsCertifiedLamp}
use Rattle.flk_top.specs.CheckDue.{IsDueForCheck}
use Rattle.flk_top.specs.Command.{Asks, IsNoCommand, inputs_of, outputs_of}
use Rattle.flk_top.specs.Configuration.{IsConfiguration}
use Rattle.flk_top.specs.Faults.{usage_line}
use Rattle.flk_top.specs.GenDue.{IsDueForGen}
use Rattle.flk_top.specs.LevelsDue.{IsDueForLevels}
use Rattle.flk_top.specs.Matching.{Matches}
use Rattle.flk_top.specs.Outcome.{Outcome, refusal}
use Rattle.flk_top.specs.ReportDue.{IsDueForReport}
use Rattle.flk_top.specs.Tables.{IsDueForTables}
use Rattle.flk_top.specs.Told.{Files}
use Rattle.flk_top.specs.declared.certified.CertifiedSection.{CertifiedSection}
use Rattle.flk_top.specs.declared.command.Command.{Command}
use Rattle.flk_top.specs.declared.command.Command.TheVariants.{Levels, Check, Tables, Report, Gen}

-- The outcome is due for a command whose outputs have these names, in the order of `outputs_of`, and whose inputs have
-- these contents, in the order of `inputs_of`.
abbrev pub IsDueFor : Command → (outputs contents : List (List ℕ)) → Outcome → Type 0
IsDueFor (Levels command) [] (configuration ∷ bytes ∷ []) o = IsDueForLevels command configuration bytes o
IsDueFor Check [] (configuration ∷ bytes ∷ []) o = IsDueForCheck configuration bytes o
IsDueFor (Tables lamp rate) [] [] o = IsDueForTables lamp rate o
IsDueFor (Report command) [] (job ∷ configuration ∷ bytes ∷ []) o = IsDueForReport job configuration bytes o
IsDueFor (Gen command) (configuration ∷ data_file ∷ []) [] o = IsDueForGen command configuration data_file o
IsDueFor q outputs contents o = ⊥

-- The outcome is due: words of no command are told, and a command's outcome depends on the bytes of its inputs alone.
pub data IsDue (words : List (List ℕ)) (files : Files) (o : Outcome) : Type 0 where
  usage : IsNoCommand words → o ≡ refusal usage_line → IsDue words files o
  asked : (q : Command) → Asks words q → IsDueFor q (outputs_of q words) (map files (inputs_of q words)) o
      → IsDue words files o

-- Input i of a command, from 0, comes to its turn: the first at once; a report's configuration once the job is
-- accepted; the data once the configuration is accepted and, for levels, has the channel to measure, for a report has
-- what the job asks for, and the lamp is certified.
abbrev pub ComesToTurn : Command → (contents : List (List ℕ)) → (i : ℕ) → Type 0
ComesToTurn q contents zero = Unit {0}
ComesToTurn (Levels command) (configuration ∷ contents) (suc i) =
    (c : Config) × (a : Analog) × (lamp : Lamp) × IsConfiguration configuration c × Matches c command.channel a lamp
ComesToTurn Check (configuration ∷ contents) (suc i) = (c : Config) × IsConfiguration configuration c
ComesToTurn (Report command) (job ∷ contents) (suc zero) = (j : Job) × IsJob job j
ComesToTurn (Report command) (job ∷ configuration ∷ contents) (suc (suc i)) =
    (j : Job) × (c : Config) × (ss : List CertifiedSection)
    × IsJob job j × IsConfiguration configuration c × IsMatch j c × IsCertifiedLamp j.lamp c.rate ss
ComesToTurn q contents i = ⊥
