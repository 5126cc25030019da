use Rattle.std.proofs.Common.{rules, arith, ◌≡◌, ◌≤◌, ◌^◌, ℤ, pos, ◌+ℤ◌, ◌-ℤ◌, ◌*ℤ◌, ap, ◌∙◌, FitsSigned}
use Rattle.std.specs.Int.{int_shr, w128}
use Rattle.std.specs.Int.RustNames.{unsigned_abs}
use Rattle.std.proofs.lemmas.Int.{ints, to_z-of_z, to_z_pos}
use Rattle.flk_stat.proofs.ShiftLemmas.{moved_down_is}
use Rattle.flk_stat.proofs.ends.moved_down.Goals as goal

pub returns : goal.returns
returns c =
    let part : ℤ = c.part_between.result in
    let moved : ℤ = pos c.args.level +ℤ part in
    let level = to_z_pos w128 c.args.level (omega (arith, c.requires.small)) in
    let small : unsigned_abs part ≤ 2 ^ 94 = search rules in
    let is : part ≡ int_shr (pos c.args.number *ℤ (pos c.args.square -ℤ pos c.args.level)) 32 = search rules in
    let fits : FitsSigned w128 part = search rules in
    let moved_fits : FitsSigned w128 moved = omega (arith, ints, small, c.requires.small) in
    let e = moved_down_is c.args.number c.args.level c.args.square c.requires.number in
    rw (level, to_z-of_z w128 part fits, to_z-of_z w128 moved moved_fits) (ap unsigned_abs (ap (λ (z : ℤ). pos c.args.level +ℤ z) is ∙ e))
