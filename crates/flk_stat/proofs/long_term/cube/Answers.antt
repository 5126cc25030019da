use Rattle.std.proofs.Common.{rules, ℤ, ◌*ℤ◌, FitsSigned, refl}
use Rattle.std.specs.Int.{w128}
use Rattle.std.proofs.lemmas.Int.{to_z-of_z}
use Rattle.flk_stat.proofs.LongTermLemmas.{powers, fits_square, fits_cube}
use Rattle.flk_stat.proofs.long_term.cube.Goals as goal

pub overflow_mul-result-2 : goal.overflow_mul-result-2
overflow_mul-result-2 c =
    let v : ℤ = c.args.v in
    let fits : FitsSigned w128 v = search rules in
    let p = powers v c.requires in
    let square = fits_square (v *ℤ v) p.square_low p.square_high in
    let cube = fits_cube (v *ℤ v *ℤ v) p.cube_low p.cube_high in
    rw (to_z-of_z w128 v fits, to_z-of_z w128 (v *ℤ v) square) cube

pub returns-clause-value : goal.returns-clause-value
returns-clause-value c =
    let v : ℤ = c.args.v in
    let fits : FitsSigned w128 v = search rules in
    let p = powers v c.requires in
    let square = fits_square (v *ℤ v) p.square_low p.square_high in
    let cube = fits_cube (v *ℤ v *ℤ v) p.cube_low p.cube_high in
    rw (to_z-of_z w128 v fits, to_z-of_z w128 (v *ℤ v) square, to_z-of_z w128 (v *ℤ v *ℤ v) cube) refl

pub returns-clause-low : goal.returns-clause-low
returns-clause-low c =
    let v : ℤ = c.args.v in
    let fits : FitsSigned w128 v = search rules in
    let p = powers v c.requires in
    let square = fits_square (v *ℤ v) p.square_low p.square_high in
    let cube = fits_cube (v *ℤ v *ℤ v) p.cube_low p.cube_high in
    rw (to_z-of_z w128 v fits, to_z-of_z w128 (v *ℤ v) square, to_z-of_z w128 (v *ℤ v *ℤ v) cube) p.cube_low

pub returns-clause-high : goal.returns-clause-high
returns-clause-high c =
    let v : ℤ = c.args.v in
    let fits : FitsSigned w128 v = search rules in
    let p = powers v c.requires in
    let square = fits_square (v *ℤ v) p.square_low p.square_high in
    let cube = fits_cube (v *ℤ v *ℤ v) p.cube_low p.cube_high in
    rw (to_z-of_z w128 v fits, to_z-of_z w128 (v *ℤ v) square, to_z-of_z w128 (v *ℤ v *ℤ v) cube) p.cube_high
