use Rattle.flk_top.proofs.ReportExists.{some_runs}
use Rattle.flk_top.proofs.laws.report_promise_is_not_empty.Goals as goal

pub returns : goal.returns
returns c = some_runs
