use Rattle.std.proofs.Common.{rules, ◌≡◌, ◌^◌, ◌≤◌, ℤ, pos, neg_ℤ, ◌-ℤ◌, FitsSigned, ap, ◌∙◌, arith}
use Rattle.std.specs.Int.{w128}
use Rattle.std.specs.Int.Signed.{shr_z}
use Rattle.std.specs.Int.RustNames.{unsigned_abs}
use Rattle.std.proofs.lemmas.Int.{ints, to_z-of_z}
use Rattle.flk_exact.specs.Rounding.{floor_of, IsFloor}
use Rattle.flk_exact.proofs.RoundingLemmas.{IsFloor-floor_of}
use Rattle.flk_section.proofs.RangeLemmas.{shift_is}
use Rattle.flk_section.proofs.radius.rounded_up.Goals as goal

record Up (w : ℤ) : Type 0 where
  shift : shr_z (pos 0 -ℤ w) (2 ^ 32) ≡ floor_of (neg_ℤ w) (pos (2 ^ 32))
  small : unsigned_abs (shr_z (pos 0 -ℤ w) (2 ^ 32)) ≤ 2 ^ 93

up : (w : ℤ) → unsigned_abs w ≤ 2 ^ 125 → Up w
up w h =
    let e : pos 0 -ℤ w ≡ neg_ℤ w = omega (arith, ints) in
    let s : shr_z (pos 0 -ℤ w) (2 ^ 32) ≡ floor_of (neg_ℤ w) (pos (2 ^ 32)) = shift_is (pos 0 -ℤ w) ∙ ap (λ (z : ℤ). floor_of z (pos (2 ^ 32))) e in
    let f : IsFloor (neg_ℤ w) (pos (2 ^ 32)) (floor_of (neg_ℤ w) (pos (2 ^ 32))) = IsFloor-floor_of (neg_ℤ w) (2 ^ 32) (omega arith) in
    record { shift = s; small = omega (arith, ints, s, f.within, f.greatest, h) }

pub overflow_sub-result-2 : goal.overflow_sub-result-2
overflow_sub-result-2 c =
    let u = up c.args.wide c.requires in
    let f : FitsSigned w128 c.args.wide = search rules in
    let g : FitsSigned w128 (pos 0 -ℤ c.args.wide) = omega (arith, ints, c.requires) in
    let h : FitsSigned w128 (shr_z (pos 0 -ℤ c.args.wide) (2 ^ 32)) = omega (arith, ints, u.small) in
    simp to_z-of_z (omega (arith, ints, u.small))

pub returns-clause-value : goal.returns-clause-value
returns-clause-value c =
    let u = up c.args.wide c.requires in
    let f : FitsSigned w128 c.args.wide = search rules in
    let g : FitsSigned w128 (pos 0 -ℤ c.args.wide) = omega (arith, ints, c.requires) in
    let h : FitsSigned w128 (shr_z (pos 0 -ℤ c.args.wide) (2 ^ 32)) = omega (arith, ints, u.small) in
    let i : FitsSigned w128 (pos 0 -ℤ shr_z (pos 0 -ℤ c.args.wide) (2 ^ 32)) = omega (arith, ints, u.small) in
    simp to_z-of_z (omega (arith, ints, u.shift))

pub returns-clause-small : goal.returns-clause-small
returns-clause-small c =
    let u = up c.args.wide c.requires in
    let f : FitsSigned w128 c.args.wide = search rules in
    let g : FitsSigned w128 (pos 0 -ℤ c.args.wide) = omega (arith, ints, c.requires) in
    let h : FitsSigned w128 (shr_z (pos 0 -ℤ c.args.wide) (2 ^ 32)) = omega (arith, ints, u.small) in
    let i : FitsSigned w128 (pos 0 -ℤ shr_z (pos 0 -ℤ c.args.wide) (2 ^ 32)) = omega (arith, ints, u.small) in
    simp to_z-of_z (omega (arith, ints, u.small))
