use Rattle.std.proofs.Common.{arith}
use Rattle.flk_num.proofs.ScaledLemmas.{small_parts, small_total}
use Rattle.flk_num.proofs.quotient.divide_small.Goals as goal

pub overflow_add-result-3 : goal.overflow_add-result-3
overflow_add-result-3 c =
    omega (
      arith,
      small_total c.args.m c.args.num c.args.den _ _ _ _ _ _ _ _ _ _ c.divide-halves.ensures.parts c.divide-high.ensures.parts c.divide-shifted.ensures.parts c.divide-low.ensures.parts c.divide-end.ensures.parts
          c.requires.m_small c.requires.num_small c.divide-halves.ensures.rest c.divide-high.ensures.rest c.divide-shifted.ensures.rest c.divide-low.ensures.rest,
    )

pub overflow_add-result-2 : goal.overflow_add-result-2
overflow_add-result-2 c =
    omega (
      arith,
      small_total c.args.m c.args.num c.args.den _ _ _ _ _ _ _ _ _ _ c.divide-halves.ensures.parts c.divide-high.ensures.parts c.divide-shifted.ensures.parts c.divide-low.ensures.parts c.divide-end.ensures.parts
          c.requires.m_small c.requires.num_small c.divide-halves.ensures.rest c.divide-high.ensures.rest c.divide-shifted.ensures.rest c.divide-low.ensures.rest,
    )

pub overflow_add-result : goal.overflow_add-result
overflow_add-result c =
    omega (
      arith,
      small_total c.args.m c.args.num c.args.den _ _ _ _ _ _ _ _ _ _ c.divide-halves.ensures.parts c.divide-high.ensures.parts c.divide-shifted.ensures.parts c.divide-low.ensures.parts c.divide-end.ensures.parts
          c.requires.m_small c.requires.num_small c.divide-halves.ensures.rest c.divide-high.ensures.rest c.divide-shifted.ensures.rest c.divide-low.ensures.rest,
    )

pub returns-clause-parts : goal.returns-clause-parts
returns-clause-parts c =
    small_parts c.args.m c.args.num c.args.den _ _ _ _ _ _ _ _ _ _ c.divide-halves.ensures.parts c.divide-high.ensures.parts c.divide-shifted.ensures.parts c.divide-low.ensures.parts c.divide-end.ensures.parts
