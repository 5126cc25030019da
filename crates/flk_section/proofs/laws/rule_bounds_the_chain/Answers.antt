use Rattle.flk_section.proofs.ChainBound.{chain_bounded}
use Rattle.flk_section.proofs.laws.rule_bounds_the_chain.Goals as goal

pub returns : goal.returns
returns c = chain_bounded
