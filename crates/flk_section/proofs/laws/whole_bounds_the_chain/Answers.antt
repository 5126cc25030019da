use Rattle.flk_section.proofs.WholeLemmas.{whole_bounds, whole_input, whole_rounding, whole_radius}
use Rattle.flk_section.proofs.laws.whole_bounds_the_chain.Goals as goal

pub returns-clause-bounds : goal.returns-clause-bounds
returns-clause-bounds c = whole_bounds

pub returns-clause-input : goal.returns-clause-input
returns-clause-input c = whole_input

pub returns-clause-rounding : goal.returns-clause-rounding
returns-clause-rounding c = whole_rounding

pub returns-clause-radius : goal.returns-clause-radius
returns-clause-radius c = whole_radius
