use Rattle.std.proofs.Common.{rules, arith, ℤ, pos, ◌-ℤ◌, ◌*ℤ◌, refl, FitsSigned}
use Rattle.std.specs.Int.{int_shr, w128}
use Rattle.std.proofs.lemmas.Int.{ints, to_z-of_z}
use Rattle.flk_stat.proofs.ShiftLemmas.{between_small, shift_small}
use Rattle.flk_stat.proofs.ends.part_between.Goals as goal

pub returns-clause-part : goal.returns-clause-part
returns-clause-part c =
    let gap : ℤ = c.args.to -ℤ c.args.from in
    let product : ℤ = pos c.args.number *ℤ gap in
    let small = between_small c.args.number c.args.from c.args.to c.requires.number c.requires.from_low c.requires.from_high c.requires.to_low c.requires.to_high in
    let less = shift_small product small in
    let number : FitsSigned w128 (pos c.args.number) = search rules in
    let gap_fits : FitsSigned w128 gap = omega (arith, ints, c.requires.from_low, c.requires.from_high, c.requires.to_low, c.requires.to_high) in
    let product_fits : FitsSigned w128 product = omega (arith, ints, small) in
    let fits : FitsSigned w128 (int_shr product 32) = omega (arith, ints, less) in
    rw (c.from.ensures, to_z-of_z w128 (pos c.args.number) number, to_z-of_z w128 c.args.to c.ranges.to, to_z-of_z w128 c.args.from c.ranges.from, to_z-of_z w128 gap gap_fits, to_z-of_z w128 product product_fits, to_z-of_z w128 (int_shr product 32) fits)
    refl

pub returns-clause-small : goal.returns-clause-small
returns-clause-small c =
    let gap : ℤ = c.args.to -ℤ c.args.from in
    let product : ℤ = pos c.args.number *ℤ gap in
    let small = between_small c.args.number c.args.from c.args.to c.requires.number c.requires.from_low c.requires.from_high c.requires.to_low c.requires.to_high in
    let less = shift_small product small in
    let number : FitsSigned w128 (pos c.args.number) = search rules in
    let gap_fits : FitsSigned w128 gap = omega (arith, ints, c.requires.from_low, c.requires.from_high, c.requires.to_low, c.requires.to_high) in
    let product_fits : FitsSigned w128 product = omega (arith, ints, small) in
    let fits : FitsSigned w128 (int_shr product 32) = omega (arith, ints, less) in
    rw (c.from.ensures, to_z-of_z w128 (pos c.args.number) number, to_z-of_z w128 c.args.to c.ranges.to, to_z-of_z w128 c.args.from c.ranges.from, to_z-of_z w128 gap gap_fits, to_z-of_z w128 product product_fits, to_z-of_z w128 (int_shr product 32) fits)
    less
