use Rattle.flk_top.proofs.ReportOnce.{workers_alike}
use Rattle.flk_top.proofs.laws.workers_change_no_answer.Goals as goal

pub returns : goal.returns
returns c = workers_alike
