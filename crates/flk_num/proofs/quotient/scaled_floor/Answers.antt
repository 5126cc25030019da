use Rattle.std.proofs.Common.{arith, rules, ◌^◌}
use Rattle.std.proofs.lemmas.Int.{ints}
use Rattle.flk_exact.proofs.RoundingLemmas.{floor_of-at}
use Rattle.flk_num.proofs.ScaledLemmas.{product_small, scaled_above, scaled_below, scaled_below_more}
use Rattle.flk_num.proofs.quotient.scaled_floor.Goals as goal

pub divide_product-parts-requires-clause-quotient_small : goal.divide_product-parts-requires-clause-quotient_small
divide_product-parts-requires-clause-quotient_small c =
    let small = product_small c.args.v c.args.num c.args.den (2 ^ 126) c.requires.num_low c.requires.den_low c.requires.result_small in
    search rules

pub returns-then-v-ge0-clause-rounding : goal.returns-then-v-ge0-clause-rounding
returns-then-v-ge0-clause-rounding c =
    scaled_above c.args.v c.args.num c.args.den _ _ _ _ c.divide_product-parts.result.quotient c.divide_product-parts.result.rest
    record { num_low = c.requires.num_low; den_low = c.requires.den_low; v_size = search rules; num_size = search rules; den_size = search rules; parts = c.divide_product-parts.ensures.parts; rest = c.divide_product-parts.ensures.rest }
    (omega (arith, ints)) (search rules)

pub returns-then-v-ge0-clause-value : goal.returns-then-v-ge0-clause-value
returns-then-v-ge0-clause-value c = floor_of-at _ _ _ c.requires.den_low (returns-then-v-ge0-clause-rounding c)

pub returns-then-parts-eq0-clause-rounding : goal.returns-then-parts-eq0-clause-rounding
returns-then-parts-eq0-clause-rounding c =
    scaled_below c.args.v c.args.num c.args.den _ _ _ _ c.divide_product-parts.result.quotient c.divide_product-parts.result.rest
    record { num_low = c.requires.num_low; den_low = c.requires.den_low; v_size = search rules; num_size = search rules; den_size = search rules; parts = c.divide_product-parts.ensures.parts; rest = c.divide_product-parts.ensures.rest }
    (omega (arith, ints)) (search rules) (omega (arith, ints, c.signed-quotient.ensures))

pub returns-then-parts-eq0-clause-value : goal.returns-then-parts-eq0-clause-value
returns-then-parts-eq0-clause-value c = floor_of-at _ _ _ c.requires.den_low (returns-then-parts-eq0-clause-rounding c)

pub returns-else-parts-eq0-clause-rounding : goal.returns-else-parts-eq0-clause-rounding
returns-else-parts-eq0-clause-rounding c =
    scaled_below_more c.args.v c.args.num c.args.den _ _ _ _ c.divide_product-parts.result.quotient c.divide_product-parts.result.rest
    record { num_low = c.requires.num_low; den_low = c.requires.den_low; v_size = search rules; num_size = search rules; den_size = search rules; parts = c.divide_product-parts.ensures.parts; rest = c.divide_product-parts.ensures.rest }
    (omega (arith, ints)) (search rules) (omega (arith, ints, c.signed-quotient.ensures))

pub returns-else-parts-eq0-clause-value : goal.returns-else-parts-eq0-clause-value
returns-else-parts-eq0-clause-value c = floor_of-at _ _ _ c.requires.den_low (returns-else-parts-eq0-clause-rounding c)
