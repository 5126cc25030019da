use Rattle.std.proofs.Common.{◌≡◌, ℕ, ◌<◌, List, sym, subst}
use Rattle.std.specs.Io.KnownBytes.{Appends}
use Rattle.std.specs.Process.{exit_status}
use Rattle.flk_top.specs.Headline.{MeasuredRecording, AreAccepted, TellsLevels, ReportedRecording, AreAcceptedForReport, TellsReport}
use Rattle.flk_top.specs.Told.{TellsInputs}
use Rattle.flicker.proofs.exit_code_of.Goals as goal

pub returns-clause-levels : goal.returns-clause-levels
returns-clause-levels g c =
    let same : exit_status c.from.result ≡ c.run-status.result = c.from.ensures in
    subst (λ (n : ℕ). n < 4 → (files : List ℕ → List ℕ) → TellsInputs c.args.words.now (g.F.Shelf.told c.args.shelf.now) files → (m : MeasuredRecording)
    → AreAccepted c.args.words.now files m → (x : List ℕ) × TellsLevels m n x
    × Appends (g.K.Sink.told c.args.sink.now).written (g.K.Sink.told c.run-status.new.sink).written x) (sym same) c.run-status.ensures.levels

pub returns-clause-report : goal.returns-clause-report
returns-clause-report g c =
    let same : exit_status c.from.result ≡ c.run-status.result = c.from.ensures in
    subst (λ (n : ℕ). n < 4 → (files : List ℕ → List ℕ) → TellsInputs c.args.words.now (g.F.Shelf.told c.args.shelf.now) files → (m : ReportedRecording)
    → AreAcceptedForReport c.args.words.now files m → (x : List ℕ) × TellsReport m n x
    × Appends (g.K.Sink.told c.args.sink.now).written (g.K.Sink.told c.run-status.new.sink).written x) (sym same) c.run-status.ensures.report
