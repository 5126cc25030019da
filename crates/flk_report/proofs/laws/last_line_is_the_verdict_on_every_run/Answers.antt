use Rattle.std.proofs.Common.{sym, subst}
use Rattle.flk_report.specs.Verdict.{IsOverallVerdictOn}
use Rattle.flk_report.specs.declared.verdict.Verdict.{Verdict}
use Rattle.flk_report.proofs.HeldLemmas.{every_run}
use Rattle.flk_report.proofs.TextLemmas.{last_verdict}
use Rattle.flk_report.proofs.laws.last_line_is_the_verdict_on_every_run.Goals as goal

pub returns : goal.returns
returns c = λ j rate records rs front v qs ends held.
    let P : Verdict → Type 0 = λ w. IsOverallVerdictOn w j qs in
    subst P (sym (last_verdict j rate records rs front v ends)) (every_run j rs qs held)
