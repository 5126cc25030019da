use Rattle.std.proofs.Common.{rules}
use Rattle.flk_cert.specs.Certificate.{IsFirstUnmet}
use Rattle.flk_cert.proofs.FaultLemmas.{answer_is_first}
use Rattle.flk_cert.proofs.checker.check.Goals as goal

pub returns-in-Some-clause-fault : goal.returns-in-Some-clause-fault
returns-in-Some-clause-fault c =
    let k = c.args.k.now in
    let rows = c.args.cert.now.rows in
    let fault = c.in-Some.fault in
    let first : IsFirstUnmet k rows fault.cause fault.row = search rules in
    answer_is_first k rows fault.cause fault.row c.number.result c.number.ensures first
