use Rattle.std.proofs.Common.{rules, ◌≡◌, ◌^◌, ◌<◌, FitsSigned, refl, arith}
use Rattle.std.specs.Int.{w128}
use Rattle.std.specs.Int.RustNames.{unsigned_abs}
use Rattle.std.proofs.lemmas.Int.{ints, to_z-of_z}
use Rattle.flk_cert.specs.Gain.{gain_numbers}
use Rattle.flk_section.specs.Forms.{number_at_output, number_at_input}
use Rattle.flk_section.proofs.FormLemmas.{section_small, section_back_is}
use Rattle.flk_section.proofs.form.section_back.Goals as goal

pub returns-clause-some : goal.returns-clause-some
returns-clause-some c =
    let g = gain_numbers c.args.gain.now in
    let out = c.number_at_output-out.result in
    let number = c.number_at_input-number.result in
    let fits_z : FitsSigned w128 c.args.z = search rules in
    let fits_out : FitsSigned w128 out = search rules in
    let eo : out ≡ number_at_output g c.args.z c.args.part = simp to_z-of_z at c.number_at_output-out.ensures in
    let en : number ≡ number_at_input g out c.args.part = simp to_z-of_z at c.number_at_input-number.ensures in
    let so : unsigned_abs out < 2 ^ 60 = search rules in
    let sn : unsigned_abs number < 2 ^ 60 = search rules in
    (λ h. section_small g c.args.z c.args.part out number eo en so sn, λ h. refl)

pub returns-clause-value : goal.returns-clause-value
returns-clause-value c =
    let g = gain_numbers c.args.gain.now in
    let out = c.number_at_output-out.result in
    let number = c.number_at_input-number.result in
    let fits_z : FitsSigned w128 c.args.z = search rules in
    let fits_out : FitsSigned w128 out = search rules in
    let fits_number : FitsSigned w128 number = search rules in
    let eo : out ≡ number_at_output g c.args.z c.args.part = simp to_z-of_z at c.number_at_output-out.ensures in
    let en : number ≡ number_at_input g out c.args.part = simp to_z-of_z at c.number_at_input-number.ensures in
    let so : unsigned_abs out < 2 ^ 60 = search rules in
    let sn : unsigned_abs number < 2 ^ 60 = search rules in
    let su : unsigned_abs c.args.part.u < 2 ^ 60 = c.requires.part.u in
    let sv : unsigned_abs c.args.part.v < 2 ^ 60 = c.requires.part.v in
    let fits_u : FitsSigned w128 c.args.part.u = omega (arith, ints, su) in
    let fits_v : FitsSigned w128 c.args.part.v = omega (arith, ints, sv) in
    simp to_z-of_z
    (section_back_is g c.args.z c.args.part out number c.part_before.result c.unsigned_abs.result c.unsigned_abs-2.result c.unsigned_abs-3.result eo en so sn
    (simp to_z-of_z at c.part_before.ensures) c.requires.part (simp to_z-of_z at c.unsigned_abs.ensures.value) (simp to_z-of_z at c.unsigned_abs-2.ensures.value) (simp to_z-of_z at c.unsigned_abs-3.ensures.value))
