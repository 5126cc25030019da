use Rattle.std.proofs.Common.{rules, ◌≡◌, ◌^◌, ◌≤◌, ℤ, pos, ◌+ℤ◌, ◌*ℤ◌, ◌≤ℤ◌, FitsSigned, ap, ◌∙◌, arith}
use Rattle.std.specs.Int.{w128}
use Rattle.std.specs.Int.RustNames.{unsigned_abs}
use Rattle.std.proofs.lemmas.Int.{ints, to_z-of_z, fits_signed_mul}
use Rattle.flk_exact.proofs.ProductLemmas.{size_of_product_within}
use Rattle.flk_cert.specs.Row.{IsUpTo}
use Rattle.flk_exact.specs.Rounding.{ceil_of}
use Rattle.flk_section.specs.OwnBounds.{scaled_up, second_with_first}
use Rattle.flk_section.proofs.OwnLemmas.{scaled_near, scaled_covers}
use Rattle.flk_section.proofs.own.second_with_first.Goals as goal

-- the product of the feedback's size and the first bound, rounded up
up : (c : goal.After-rounded_up) → c.rounded_up.result ≡ scaled_up (pos (unsigned_abs c.args.a1)) c.args.first
up c =
    let first = c.args.first in
    let low = c.requires.first.low in
    let high = c.requires.first.high in
    let from : c.from.result ≡ pos (unsigned_abs c.args.a1) = search rules in
    let a : unsigned_abs c.from.result ≤ 2 ^ 33 = omega (arith, ap unsigned_abs from, c.requires.a1) in
    let b : unsigned_abs first ≤ 2 ^ 60 = omega (arith, ints, low, high) in
    let fits_from : FitsSigned w128 c.from.result = search rules in
    let fits_first : FitsSigned w128 first = search rules in
    let fits_wide : FitsSigned w128 (c.from.result *ℤ first) = fits_signed_mul w128 c.from.result first (2 ^ 33) (2 ^ 60) a b (omega arith) in
    let is : c.rounded_up.result ≡ ceil_of (c.from.result *ℤ first) (pos (2 ^ 32)) = simp to_z-of_z at c.rounded_up.ensures.value in
    is ∙ ap (λ (z : ℤ). ceil_of (z *ℤ first) (pos (2 ^ 32))) from

record Range (z : ℤ) : Type 0 where
  low : pos 0 ≤ℤ z
  high : z ≤ℤ pos (2 ^ 62)

range : (a1 first : ℤ) → unsigned_abs a1 ≤ 2 ^ 33 → IsUpTo (2 ^ 60) first → Range (scaled_up (pos (unsigned_abs a1)) first)
range a1 first h f =
    let low = f.low in
    let high = f.high in
    let near = scaled_near (pos (unsigned_abs a1)) first in
    let natural = (scaled_covers (pos (unsigned_abs a1)) first (omega (arith, ints)) low).natural in
    let b : unsigned_abs first ≤ 2 ^ 60 = omega (arith, ints, low, high) in
    let most = size_of_product_within (pos (unsigned_abs a1)) first (2 ^ 33) (2 ^ 60) h b in
    record { low = natural; high = omega (arith, ints, near, most) }

pub returns-clause-value : goal.returns-clause-value
returns-clause-value c =
    let e = up c in
    let r = range c.args.a1 c.args.first c.requires.a1 c.requires.first in
    let rl = r.low in
    let rh = r.high in
    let sl = c.requires.second.low in
    let sh = c.requires.second.high in
    let fs : FitsSigned w128 c.args.second = search rules in
    let fr : FitsSigned w128 c.rounded_up.result = search rules in
    let f : FitsSigned w128 (c.args.second +ℤ c.rounded_up.result) = omega (arith, ints, e, rl, rh, sl, sh) in
    let is : c.args.second +ℤ c.rounded_up.result ≡ second_with_first c.args.a1 c.args.second c.args.first = ap (λ (z : ℤ). c.args.second +ℤ z) e in
    simp to_z-of_z is

pub returns-clause-range : goal.returns-clause-range
returns-clause-range c =
    let e = up c in
    let r = range c.args.a1 c.args.first c.requires.a1 c.requires.first in
    let rl = r.low in
    let rh = r.high in
    let sl = c.requires.second.low in
    let sh = c.requires.second.high in
    let fs : FitsSigned w128 c.args.second = search rules in
    let fr : FitsSigned w128 c.rounded_up.result = search rules in
    let f : FitsSigned w128 (c.args.second +ℤ c.rounded_up.result) = omega (arith, ints, e, rl, rh, sl, sh) in
    let made : IsUpTo (2 ^ 63) (c.args.second +ℤ c.rounded_up.result) = record { low = omega (arith, ints, e, rl, sl); high = omega (arith, ints, e, rh, sh) } in
    simp to_z-of_z made
