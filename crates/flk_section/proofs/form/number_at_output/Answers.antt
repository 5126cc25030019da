use Rattle.std.proofs.Common.{rules, ◌≡◌, ◌^◌, ◌<◌, ◌≤◌, ℤ, pos, ◌+ℤ◌, FitsSigned, ap, ◌∙◌, arith}
use Rattle.std.specs.Int.{w128}
use Rattle.std.specs.Int.RustNames.{unsigned_abs}
use Rattle.std.proofs.lemmas.Int.{ints, to_z-of_z}
use Rattle.flk_exact.specs.Rounding.{floor_of}
use Rattle.flk_cert.specs.declared.coefs.Coefs.{Coefs}
use Rattle.flk_cert.specs.Gain.{coefs_of, gain_numbers}
use Rattle.flk_cert.specs.Row.{fed_back}
use Rattle.flk_section.specs.Forms.{number_at_output}
use Rattle.flk_section.proofs.form.number_at_output.Goals as goal

pub returns : goal.returns
returns c =
    let part = c.args.part in
    let k : Coefs = coefs_of c.args.gain.now in
    let z : unsigned_abs c.args.z < 2 ^ 60 = c.requires.z in
    let r : unsigned_abs c.rounded_down.result ≤ 2 ^ 63 = search rules in
    let fz : FitsSigned w128 c.args.z = search rules in
    let fr : FitsSigned w128 c.rounded_down.result = search rules in
    let ft : FitsSigned w128 c.taken_up.result = search rules in
    let f : FitsSigned w128 (c.args.z +ℤ c.rounded_down.result) = omega (arith, ints, z, r) in
    let taken : c.taken_up.result ≡ fed_back k part.u part.v = c.taken_up.ensures.value ∙ ap (λ (j : Coefs). fed_back j part.u part.v) c.coefs.ensures in
    let down : c.rounded_down.result ≡ floor_of c.taken_up.result (pos (2 ^ 32)) = simp to_z-of_z at c.rounded_down.ensures.value in
    let is : c.args.z +ℤ c.rounded_down.result ≡ number_at_output (gain_numbers c.args.gain.now) c.args.z part =
    ap (λ (y : ℤ). c.args.z +ℤ y) (down ∙ ap (λ (y : ℤ). floor_of y (pos (2 ^ 32))) taken) in
    simp to_z-of_z is
