use Rattle.std.proofs.Common.{rules, ◌≡◌, ℤ, pos, ◌+ℤ◌, ◌≤ℤ◌, ◌^◌, FitsSigned, to_z, of_z, refl, sym, ap, subst}
use Rattle.std.specs.Int.{w128}
use Rattle.std.specs.Int.RustNames.{unsigned_abs}
use Rattle.std.proofs.lemmas.Int.{to_z-of_z}
use Rattle.flk_exact.specs.Rounding.{ceil_of}
use Rattle.flk_cert.specs.declared.certificate.CertRow.{CertRow}
use Rattle.flk_cert.specs.declared.fault.Cause.TheVariants.{Shape}
use Rattle.flk_cert.specs.Certificate.{IsBound, HasRanges, row_at}
use Rattle.flk_cert.specs.Bound.{Bounds, BoundsFirst, BoundsSecond, KeepsSecond}
use Rattle.flk_cert.proofs.GainLemmas.{fits_bounds, fits_bounds_first, fits_bounds_second, fits_keeps_second}
use Rattle.flk_cert.proofs.gain.Gain.of.Goals as goal

pub input_gain-requires : goal.input_gain-requires
input_gain-requires c =
    let g : IsBound c.row_at-first.result.g = subst (λ (r : CertRow). IsBound r.g) (sym c.row_at-first.ensures) (c.requires Shape 0).range.g in
    let f : FitsSigned w128 c.row_at-first.result.g = search rules in
    simp to_z-of_z g

pub rounding_gain-requires : goal.rounding_gain-requires
rounding_gain-requires c =
    let g : IsBound c.row_at-first.result.h = subst (λ (r : CertRow). IsBound r.h) (sym c.row_at-first.ensures) (c.requires Shape 0).range.h in
    let f : FitsSigned w128 c.row_at-first.result.h = search rules in
    simp to_z-of_z g

-- a field of a number of 128 bits holds the number
held : (P : ℤ → ℤ → Type 0) (a b : ℤ) → FitsSigned w128 a → FitsSigned w128 b → P a b → P (to_z w128 (of_z w128 a)) (to_z w128 (of_z w128 b))
held P a b f g p = subst (λ (z : ℤ). P z (to_z w128 (of_z w128 b))) (sym (to_z-of_z w128 a f)) (subst (λ (z : ℤ). P a z) (sym (to_z-of_z w128 b g)) p)

pub invariant_of-result : goal.invariant_of-result
invariant_of-result c =
    let k = c.args.k.now in
    let rows = c.args.rows.now in
    let fits = c.requires in
    let input = c.input_gain.result in
    let rounding = c.rounding_gain.result in
    let first = c.row_at-first.result in
    let second = c.row_at-second.result in
    let vi : input ≡ pos (unsigned_abs k.b0) +ℤ first.g = search rules in
    let vr : rounding ≡ pos 1 +ℤ ceil_of first.h (pos (2 ^ 32)) = search rules in
    let ei : input ≡ pos (unsigned_abs k.b0) +ℤ (row_at rows 0).g = subst (λ (r : CertRow). input ≡ pos (unsigned_abs k.b0) +ℤ r.g) c.row_at-first.ensures vi in
    let er : rounding ≡ pos 1 +ℤ ceil_of (row_at rows 0).h (pos (2 ^ 32)) = subst (λ (r : CertRow). rounding ≡ pos 1 +ℤ ceil_of r.h (pos (2 ^ 32))) c.row_at-first.ensures vr in
    let fi : FitsSigned w128 input = search rules in
    let fr : FitsSigned w128 rounding = search rules in
    let f0 : FitsSigned w128 first.g = search rules in
    let f1 : FitsSigned w128 first.h = search rules in
    let f2 : FitsSigned w128 second.g = search rules in
    let f3 : FitsSigned w128 second.h = search rules in
    let of_first = subst (λ (r : CertRow). BoundsFirst k r.g r.h) (sym c.row_at-first.ensures) (fits_bounds_first k rows fits) in
    let of_second = subst (λ (r : CertRow). BoundsSecond k r.g r.h) (sym c.row_at-second.ensures) (fits_bounds_second k rows fits) in
    let low : HasRanges first = subst HasRanges (sym c.row_at-first.ensures) (fits Shape 0).range in
    let high : HasRanges second = subst HasRanges (sym c.row_at-second.ensures) (fits Shape 1).range in
    let kept = subst (λ (r : CertRow). KeepsSecond k r.h) (sym c.row_at-second.ensures) (fits_keeps_second k rows fits) in
    record {
      input_natural = held (λ i r. pos 0 ≤ℤ i) input rounding fi fr c.input_gain.ensures.natural;
      rounding_natural = held (λ i r. pos 0 ≤ℤ r) input rounding fi fr c.rounding_gain.ensures.natural;
      rounding_small = held (λ i r. r ≤ℤ pos (2 ^ 29)) input rounding fi fr c.rounding_gain.ensures.small;
      first_input_limits = held (λ g h. IsBound g) first.g first.h f0 f1 low.g;
      first_rounding_limits = held (λ g h. IsBound h) first.g first.h f0 f1 low.h;
      second_input_limits = held (λ g h. IsBound g) second.g second.h f2 f3 high.g;
      second_rounding_limits = held (λ g h. IsBound h) second.g second.h f2 f3 high.h;
      bounds = held (λ i r. Bounds k i r) input rounding fi fr (fits_bounds k rows input rounding fits ei er);
      bounds_first = held (λ g h. BoundsFirst k g h) first.g first.h f0 f1 of_first;
      bounds_second = held (λ g h. BoundsSecond k g h) second.g second.h f2 f3 of_second;
      keeps_second = held (λ g h. KeepsSecond k h) second.g second.h f2 f3 kept;
    }

pub returns : goal.returns
returns c =
    let k = c.args.k.now in
    let rows = c.args.rows.now in
    let input = c.input_gain.result in
    let rounding = c.rounding_gain.result in
    let first = c.row_at-first.result in
    let vi : input ≡ pos (unsigned_abs k.b0) +ℤ first.g = search rules in
    let vr : rounding ≡ pos 1 +ℤ ceil_of first.h (pos (2 ^ 32)) = search rules in
    let ei : input ≡ pos (unsigned_abs k.b0) +ℤ (row_at rows 0).g = subst (λ (r : CertRow). input ≡ pos (unsigned_abs k.b0) +ℤ r.g) c.row_at-first.ensures vi in
    let er : rounding ≡ pos 1 +ℤ ceil_of (row_at rows 0).h (pos (2 ^ 32)) = subst (λ (r : CertRow). rounding ≡ pos 1 +ℤ ceil_of r.h (pos (2 ^ 32))) c.row_at-first.ensures vr in
    let fi : FitsSigned w128 input = search rules in
    let fr : FitsSigned w128 rounding = search rules in
    let second = c.row_at-second.result in
    let f0 : FitsSigned w128 first.g = search rules in
    let f1 : FitsSigned w128 first.h = search rules in
    let f2 : FitsSigned w128 second.g = search rules in
    let f3 : FitsSigned w128 second.h = search rules in
    record {
      coefs = refl;
      input = held (λ i r. i ≡ pos (unsigned_abs k.b0) +ℤ (row_at rows 0).g) input rounding fi fr ei;
      rounding = held (λ i r. r ≡ pos 1 +ℤ ceil_of (row_at rows 0).h (pos (2 ^ 32))) input rounding fi fr er;
      first_input = held (λ g h. g ≡ (row_at rows 0).g) first.g first.h f0 f1 (ap (λ (r : CertRow). r.g) c.row_at-first.ensures);
      first_rounding = held (λ g h. h ≡ (row_at rows 0).h) first.g first.h f0 f1 (ap (λ (r : CertRow). r.h) c.row_at-first.ensures);
      second_input = held (λ g h. g ≡ (row_at rows 1).g) second.g second.h f2 f3 (ap (λ (r : CertRow). r.g) c.row_at-second.ensures);
      second_rounding = held (λ g h. h ≡ (row_at rows 1).h) second.g second.h f2 f3 (ap (λ (r : CertRow). r.h) c.row_at-second.ensures);
    }
