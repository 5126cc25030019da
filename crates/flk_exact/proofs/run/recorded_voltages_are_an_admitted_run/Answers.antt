use Rattle.flk_exact.proofs.RunLemmas.{recorded_run_is_admitted}
use Rattle.flk_exact.proofs.run.recorded_voltages_are_an_admitted_run.Goals as goal

pub returns : goal.returns
returns c = recorded_run_is_admitted
