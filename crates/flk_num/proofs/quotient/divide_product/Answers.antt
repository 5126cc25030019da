use Rattle.std.proofs.Common.{arith, ◌*◌, ◌^◌}
use Rattle.flk_num.proofs.ScaledLemmas.{quotient_below, whole_parts}
use Rattle.flk_num.proofs.quotient.divide_product.Goals as goal

pub returns-clause-parts : goal.returns-clause-parts
returns-clause-parts c =
    whole_parts c.args.m c.args.num c.args.den _ _ _ _ c.divide-whole.ensures.parts c.divide_small-part.ensures.parts

pub returns-clause-small : goal.returns-clause-small
returns-clause-small c =
    quotient_below _ c.divide_small-part.result.rest c.args.den (c.args.m * c.args.num) (2 ^ 126)
    (whole_parts c.args.m c.args.num c.args.den _ _ _ _ c.divide-whole.ensures.parts c.divide_small-part.ensures.parts) c.requires.quotient_small

pub overflow_add-result : goal.overflow_add-result
overflow_add-result c =
    omega (
      arith,
      quotient_below _ c.divide_small-part.result.rest c.args.den (c.args.m * c.args.num) (2 ^ 126)
          (whole_parts c.args.m c.args.num c.args.den _ _ _ _ c.divide-whole.ensures.parts c.divide_small-part.ensures.parts) c.requires.quotient_small,
    )

pub overflow_mul-result : goal.overflow_mul-result
overflow_mul-result c =
    omega (
      arith,
      quotient_below _ c.divide_small-part.result.rest c.args.den (c.args.m * c.args.num) (2 ^ 126)
          (whole_parts c.args.m c.args.num c.args.den _ _ _ _ c.divide-whole.ensures.parts c.divide_small-part.ensures.parts) c.requires.quotient_small,
    )
