use Rattle.std.proofs.Common.{arith}
use Rattle.flk_section.proofs.ChainBound.{few_samples}
use Rattle.flk_section.proofs.chain.chain_bound.Goals as goal

pub input_of_all-requires-clause-weights : goal.input_of_all-requires-clause-weights
input_of_all-requires-clause-weights c =
    let small = c.in_ok-followed.ensures.value.small_weights in
    omega (arith, small, few_samples)

pub rounding_of_all-requires-clause-shares : goal.rounding_of_all-requires-clause-shares
rounding_of_all-requires-clause-shares c =
    let small = c.in_ok-followed.ensures.value.small_shares in
    omega (arith, small, few_samples)
