use Rattle.std.proofs.Common.{arith, rules, ◌≡◌, ◌^◌, ◌*ℤ◌, neg_ℤ}
use Rattle.std.proofs.lemmas.Int.{ints}
use Rattle.flk_exact.specs.Rounding.{floor_of}
use Rattle.flk_exact.proofs.RoundingLemmas.{IsCeil-at}
use Rattle.flk_num.proofs.ScaledLemmas.{scaled_up, scaled_up_small}
use Rattle.flk_num.proofs.quotient.scaled_ceil.Goals as goal

pub overflow_sub-result : goal.overflow_sub-result
overflow_sub-result c =
    let e : c.scaled_floor.result ≡ floor_of (neg_ℤ c.args.v *ℤ c.args.num) c.args.den = search rules in
    let s = scaled_up_small _ _ _ _ (2 ^ 126) c.requires.num_low e c.requires.result_small in
    omega (arith, ints)

pub returns-clause-value : goal.returns-clause-value
returns-clause-value c =
    let e : c.scaled_floor.result ≡ floor_of (neg_ℤ c.args.v *ℤ c.args.num) c.args.den = search rules in
    let s = scaled_up_small _ _ _ _ (2 ^ 126) c.requires.num_low e c.requires.result_small in
    scaled_up _ _ _ c.scaled_floor.result _ c.requires.num_low e (omega (arith, ints))

pub returns-clause-rounding : goal.returns-clause-rounding
returns-clause-rounding c = IsCeil-at _ _ _ c.requires.den_low (returns-clause-value c)
