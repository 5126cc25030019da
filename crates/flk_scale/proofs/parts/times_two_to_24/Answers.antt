use Rattle.std.proofs.Common.{arith, refl, ◌*◌, ◌/◌, ◌%◌, ◌^◌, ◌<◌}
use Rattle.std.proofs.lemmas.Int.{ints}
use Rattle.std.proofs.lemmas.Nat.{div-add-mod'}
use Rattle.flk_num.proofs.ScaledLemmas.{quotient_below}
use Rattle.flk_scale.proofs.PartsLemmas.{times_parts}
use Rattle.flk_scale.proofs.parts.times_two_to_24.Goals as goal

pub returns-clause-parts : goal.returns-clause-parts
returns-clause-parts c =
    let s = c.args.parts.rest * 2 ^ 24 in
    let d = c.args.divisor in
    let few : s / d < 2 ^ 24 = quotient_below (s / d) (s % d) d s (2 ^ 24) (omega (arith, div-add-mod' s d)) (omega arith) in
    times_parts c.args.parts.quotient _ c.args.parts.rest d s (2 ^ 24) (omega (arith, ints)) refl
