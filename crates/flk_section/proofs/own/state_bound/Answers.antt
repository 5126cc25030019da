use Rattle.std.proofs.Common.{rules, ◌≡◌, ◌^◌, ◌≤◌, ℤ, pos, ◌+ℤ◌, ◌≤ℤ◌, FitsSigned, sym, ap, subst, ◌∙◌, arith}
use Rattle.std.specs.Int.{w128}
use Rattle.std.specs.Int.RustNames.{unsigned_abs}
use Rattle.std.proofs.lemmas.Int.{ints, to_z-of_z}
use Rattle.flk_exact.specs.Rounding.{ceil_of}
use Rattle.flk_section.specs.OwnBounds.{scaled_up, state_bound}
use Rattle.flk_section.proofs.OwnLemmas.{unit_covers, unit_near}
use Rattle.flk_section.proofs.OwningLemmas.{own_same, up_sum}
use Rattle.flk_section.proofs.own.state_bound.Goals as goal

pub returns-clause-value : goal.returns-clause-value
returns-clause-value c =
    let b = c.args.b in
    let g = c.args.g in
    let h = c.args.h in
    let fg : FitsSigned w128 g = search rules in
    let fh : FitsSigned w128 h = search rules in
    let bi = c.requires.bound.input in
    let br = c.requires.bound.rounding in
    let fits_bi : FitsSigned w128 b.input = omega (arith, ints, bi.low, bi.high) in
    let fits_br : FitsSigned w128 b.rounding = omega (arith, ints, br.low, br.high) in
    let x : c.scaled_up.result ≡ scaled_up g b.input = simp to_z-of_z at c.scaled_up.ensures.value in
    let y : c.scaled_up-2.result ≡ scaled_up g b.rounding = simp to_z-of_z at c.scaled_up-2.ensures.value in
    let z : c.rounded_up.result ≡ ceil_of h (pos (2 ^ 32)) = simp to_z-of_z at c.rounded_up.ensures.value in
    let small : unsigned_abs c.rounded_up.result ≤ 2 ^ 93 = search rules in
    let ylow : pos 0 ≤ℤ c.scaled_up-2.result = search rules in
    let yhigh : c.scaled_up-2.result ≤ℤ pos (2 ^ 92) = search rules in
    let fx : FitsSigned w128 c.scaled_up.result = search rules in
    let fy : FitsSigned w128 c.scaled_up-2.result = search rules in
    let fz : FitsSigned w128 c.rounded_up.result = search rules in
    let fs : FitsSigned w128 (c.scaled_up-2.result +ℤ c.rounded_up.result) = omega (arith, ints, ylow, yhigh, small) in
    let e : c.scaled_up-2.result +ℤ c.rounded_up.result ≡ (state_bound g h b).rounding = ap (λ (w : ℤ). w +ℤ c.rounded_up.result) y ∙ ap (λ (w : ℤ). scaled_up g b.rounding +ℤ w) z in
    simp to_z-of_z (own_same (record { input = c.scaled_up.result; rounding = c.scaled_up-2.result +ℤ c.rounded_up.result }) (state_bound g h b) x e)

pub returns-clause-range : goal.returns-clause-range
returns-clause-range c =
    let h = c.args.h in
    let fh : FitsSigned w128 h = search rules in
    let z : c.rounded_up.result ≡ ceil_of h (pos (2 ^ 32)) = simp to_z-of_z at c.rounded_up.ensures.value in
    let near = unit_near h in
    let natural = (unit_covers h c.requires.h.low).natural in
    let high = c.requires.h.high in
    let xlow : pos 0 ≤ℤ c.scaled_up.result = search rules in
    let xhigh : c.scaled_up.result ≤ℤ pos (2 ^ 92) = search rules in
    let ylow : pos 0 ≤ℤ c.scaled_up-2.result = search rules in
    let yhigh : c.scaled_up-2.result ≤ℤ pos (2 ^ 92) = search rules in
    let fx : FitsSigned w128 c.scaled_up.result = search rules in
    let fy : FitsSigned w128 c.scaled_up-2.result = search rules in
    let fz : FitsSigned w128 c.rounded_up.result = search rules in
    let zlow : pos 0 ≤ℤ c.rounded_up.result = subst (λ (w : ℤ). pos 0 ≤ℤ w) (sym z) natural in
    let zhigh : c.rounded_up.result ≤ℤ pos (2 ^ 63) = omega (arith, ints, z, near, high) in
    let fs : FitsSigned w128 (c.scaled_up-2.result +ℤ c.rounded_up.result) = omega (arith, ints, ylow, yhigh, zlow, zhigh) in
    simp to_z-of_z record {
      input = record { low = xlow; high = omega (arith, ints, xhigh) };
      rounding = up_sum c.scaled_up-2.result c.rounded_up.result (2 ^ 92) (2 ^ 63) (2 ^ 93) (record { low = ylow; high = yhigh }) (record { low = zlow; high = zhigh }) (omega arith);
    }
