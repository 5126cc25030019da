use Rattle.flk_result.proofs.CoverLemmas.{signal_covered, half_periods_covered}
use Rattle.flk_result.proofs.laws.some_numbers_cover.Goals as goal

pub returns-clause-signal : goal.returns-clause-signal
returns-clause-signal c = signal_covered

pub returns-clause-half_periods : goal.returns-clause-half_periods
returns-clause-half_periods c = half_periods_covered
