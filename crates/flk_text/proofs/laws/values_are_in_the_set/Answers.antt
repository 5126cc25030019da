use Rattle.flk_text.proofs.DecimalLaws.{value_in_set, digits_in_set}
use Rattle.flk_text.proofs.laws.values_are_in_the_set.Goals as goal

pub returns-clause-read : goal.returns-clause-read
returns-clause-read c = value_in_set

pub returns-clause-digits : goal.returns-clause-digits
returns-clause-digits c = digits_in_set
