use Rattle.std.proofs.Common.{sym, subst}
use Rattle.std.specs.Result.{IfErr}
use Rattle.std.specs.Prelude.{Result}
use Rattle.std.proofs.lemmas.Result.{err_from_is_err_and}
use Rattle.flk_job.specs.Matching.{IsMatchFault}
use Rattle.flk_scale.specs.declared.fault.MatchFault.{MatchFault}
use Rattle.flk_job.proofs.MatchLemmas.{channel_fault}
use Rattle.flk_job.proofs.matching.match_job.Goals as goal

pub returns-in_err-match_channels-clause-fault : goal.returns-in_err-match_channels-clause-fault
returns-in_err-match_channels-clause-fault c =
    let p = err_from_is_err_and c.from_residual.result c.from_residual.ensures.1 in
    let j = c.args.job.now in
    let cfg = c.args.c.now in
    subst (λ (x : Result (Unit {0}) MatchFault). IfErr x (IsMatchFault j cfg)) (sym p.1)
    (subst (λ (f : MatchFault). IsMatchFault j cfg f) (sym p.2) (channel_fault j cfg c.in_err-match_channels.field-0.0 c.in_err-match_channels.ensures.fault))
