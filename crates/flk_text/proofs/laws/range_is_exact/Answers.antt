use Rattle.flk_text.proofs.DecimalLaws.{zero_in_range, reduced_number, range_exact}
use Rattle.flk_text.proofs.laws.range_is_exact.Goals as goal

pub returns-clause-zero : goal.returns-clause-zero
returns-clause-zero c = zero_in_range

pub returns-clause-reduced : goal.returns-clause-reduced
returns-clause-reduced c = reduced_number

pub returns-clause-other : goal.returns-clause-other
returns-clause-other c = range_exact
