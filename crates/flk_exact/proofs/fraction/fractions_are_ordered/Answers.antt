use Rattle.flk_exact.proofs.FractionLemmas.{≤ℚ-refl, ≤ℚ-trans, ≤ℚ-total, ≤ℚ-both}
use Rattle.flk_exact.proofs.fraction.fractions_are_ordered.Goals as goal

pub returns-clause-reflexive : goal.returns-clause-reflexive
returns-clause-reflexive c = ≤ℚ-refl

pub returns-clause-transitive : goal.returns-clause-transitive
returns-clause-transitive c = ≤ℚ-trans

pub returns-clause-total : goal.returns-clause-total
returns-clause-total c = ≤ℚ-total

pub returns-clause-same : goal.returns-clause-same
returns-clause-same c = ≤ℚ-both
