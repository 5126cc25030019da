use Rattle.flk_phase.proofs.TakingLemmas.{took_column}
use Rattle.flk_phase.proofs.laws.phase_with_none_over_range_took_all.Goals as goal

pub returns : goal.returns
returns c = took_column
