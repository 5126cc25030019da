use Rattle.std.proofs.Common.{rules, ◌≡◌, ◌^◌, ◌≤◌, ℤ, pos, ◌+ℤ◌, ◌*ℤ◌, ◌≤ℤ◌, FitsSigned, sym, ap, subst, arith}
use Rattle.std.specs.Int.{w128}
use Rattle.std.specs.Int.RustNames.{unsigned_abs}
use Rattle.std.proofs.lemmas.Int.{ints, to_z-of_z, fits_signed_mul}
use Rattle.flk_exact.specs.Rounding.{ceil_of}
use Rattle.flk_section.specs.Radius.{radius_by}
use Rattle.flk_section.proofs.SectionLemmas.{radius_by_natural}
use Rattle.flk_section.proofs.radius.next_radius.Goals as goal

pub returns-clause-value : goal.returns-clause-value
returns-clause-value c =
    let input = c.args.input in
    let radius = c.args.radius in
    let a : unsigned_abs radius ≤ 2 ^ 60 = omega (arith, ints, c.requires.radius, c.requires.radius_small) in
    let b : unsigned_abs input ≤ 2 ^ 36 = omega (arith, ints, c.requires.input, c.requires.input_small) in
    let fits_radius : FitsSigned w128 radius = search rules in
    let fits_input : FitsSigned w128 input = search rules in
    let fits_rounding : FitsSigned w128 c.args.rounding = search rules in
    let fits_wide : FitsSigned w128 (radius *ℤ input) = fits_signed_mul w128 radius input (2 ^ 60) (2 ^ 36) a b (omega arith) in
    let up : c.rounded_up.result ≡ ceil_of (radius *ℤ input) (pos (2 ^ 32)) = simp to_z-of_z at c.rounded_up.ensures.value in
    let small : unsigned_abs c.rounded_up.result ≤ 2 ^ 93 = search rules in
    let fits_up : FitsSigned w128 c.rounded_up.result = search rules in
    let fits : FitsSigned w128 (c.rounded_up.result +ℤ c.args.rounding) = omega (arith, ints, small, c.requires.rounding, c.requires.rounding_small) in
    let is : c.rounded_up.result +ℤ c.args.rounding ≡ radius_by input c.args.rounding radius = ap (λ (z : ℤ). z +ℤ c.args.rounding) up in
    simp to_z-of_z is

pub returns-clause-natural : goal.returns-clause-natural
returns-clause-natural c =
    let is = returns-clause-value c in
    let natural = radius_by_natural c.args.input c.args.rounding c.args.radius c.requires.input c.requires.rounding c.requires.radius in
    subst (λ (z : ℤ). pos 0 ≤ℤ z) (sym is) natural
