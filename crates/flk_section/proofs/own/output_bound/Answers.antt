use Rattle.std.proofs.Common.{rules, ◌≡◌, ◌^◌, ℤ, pos, ◌+ℤ◌, ◌≤ℤ◌, FitsSigned, ap, ◌∙◌, arith}
use Rattle.std.specs.Int.{w128}
use Rattle.std.proofs.lemmas.Int.{ints, to_z-of_z}
use Rattle.flk_cert.specs.Gain.{rounding_of, gain_numbers}
use Rattle.flk_section.specs.OwnBounds.{scaled_up, output_bound}
use Rattle.flk_section.proofs.OwningLemmas.{own_same}
use Rattle.flk_section.proofs.own.output_bound.Goals as goal

pub returns-clause-value : goal.returns-clause-value
returns-clause-value c =
    let g = gain_numbers c.args.gain.now in
    let b = c.args.b in
    let fits_input : FitsSigned w128 c.input.result = search rules in
    let fits_input-2 : FitsSigned w128 c.input-2.result = search rules in
    let bi = c.requires.bound.input in
    let br = c.requires.bound.rounding in
    let fits_bi : FitsSigned w128 b.input = omega (arith, ints, bi.low, bi.high) in
    let fits_br : FitsSigned w128 b.rounding = omega (arith, ints, br.low, br.high) in
    let x : c.scaled_up.result ≡ scaled_up b.input c.input.result = simp to_z-of_z at c.scaled_up.ensures.value in
    let y : c.scaled_up-2.result ≡ scaled_up b.rounding c.input-2.result = simp to_z-of_z at c.scaled_up-2.ensures.value in
    let r : c.rounding.result ≡ rounding_of c.args.gain.now = search rules in
    let low : pos 0 ≤ℤ c.rounding.result = search rules in
    let high : c.rounding.result ≤ℤ pos (2 ^ 29) = search rules in
    let range = c.scaled_up-2.ensures.range in
    let fx : FitsSigned w128 c.scaled_up.result = search rules in
    let fy : FitsSigned w128 c.scaled_up-2.result = search rules in
    let fr : FitsSigned w128 c.rounding.result = search rules in
    let ylow : pos 0 ≤ℤ c.scaled_up-2.result = search rules in
    let yhigh : c.scaled_up-2.result ≤ℤ pos (2 ^ 92) = search rules in
    let fs : FitsSigned w128 (c.scaled_up-2.result +ℤ c.rounding.result) = omega (arith, ints, ylow, yhigh, low, high) in
    let ex : c.scaled_up.result ≡ (output_bound g b).input = x ∙ ap (λ (z : ℤ). scaled_up b.input z) c.input.ensures.value in
    let ey : c.scaled_up-2.result +ℤ c.rounding.result ≡ (output_bound g b).rounding =
    ap (λ (z : ℤ). z +ℤ c.rounding.result) (y ∙ ap (λ (z : ℤ). scaled_up b.rounding z) c.input-2.ensures.value) ∙ ap (λ (z : ℤ). scaled_up b.rounding g.input +ℤ z) r in
    simp to_z-of_z (own_same (record { input = c.scaled_up.result; rounding = c.scaled_up-2.result +ℤ c.rounding.result }) (output_bound g b) ex ey)
