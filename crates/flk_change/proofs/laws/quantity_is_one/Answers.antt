use Rattle.std.proofs.Common.{length}
use Rattle.flk_change.specs.Steady.{IsSteady}
use Rattle.flk_change.specs.Changes.{readings}
use Rattle.flk_change.proofs.QuantityLemmas.{quantity_unique}
use Rattle.flk_change.proofs.EnclosureLemmas.{values_have}
use Rattle.flk_change.proofs.laws.quantity_is_one.Goals as goal

pub returns-clause-exists : goal.returns-clause-exists
returns-clause-exists c = values_have

pub returns-clause-unique : goal.returns-clause-unique
returns-clause-unique c = λ q window values m k a b. quantity_unique q (IsSteady window values) window (length values) (readings window values) m k a b
