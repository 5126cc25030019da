-- A certificate that fits bounds the section's error.
use Rattle.std.proofs.Common.{◌≡◌, ℕ, ◌+◌, ◌*◌, ◌<◌, ◌≤◌, List, length, refl, sym, ap, subst, ◌∙◌, arith, ⊎_elim}
use Rattle.std.proofs.Math.IntN.{ℤ, pos, neg_ℤ, ◌+ℤ◌, ◌-ℤ◌, ◌*ℤ◌}
use Rattle.std.specs.Prelude.{◌^◌, ◌≤ℤ◌, ◌<ℤ◌}
use Rattle.std.specs.Int.RustNames.{unsigned_abs}
use Rattle.std.proofs.lemmas.Int.{ints, unsigned_abs-mul}
use Rattle.flk_exact.specs.Rounding.{ceil_of}
use Rattle.flk_exact.proofs.RoundingLemmas.{IsCeil-at}
use Rattle.flk_exact.proofs.WholeLemmas.{natural_is}
use Rattle.flk_exact.proofs.ProductLemmas.{lin}
use Rattle.flk_cert.specs.declared.certificate.CertRow.{CertRow}
use Rattle.flk_cert.specs.declared.coefs.Coefs.{Coefs}
use Rattle.flk_cert.specs.declared.gain.Gain.{Gain}
use Rattle.flk_cert.specs.declared.fault.Cause.TheVariants.{Shape, Identity, Input, Rounding}
use Rattle.flk_cert.specs.Row.{input_share, rounding_share}
use Rattle.flk_cert.specs.Certificate.{no_row, row_at, IsBound, HasRanges, Covers, FitsSection}
use Rattle.flk_cert.specs.Gain.{coefs_of, input_of, rounding_of, first_input_of, first_rounding_of, second_input_of, second_rounding_of, GainNumbers, gain_numbers, IsGainOf}
use Rattle.flk_cert.specs.Bound.{Bounds, BoundsFirst, BoundsSecond, KeepsSecond}
use Rattle.flk_cert.proofs.BoundLemmas.{abs_neg}
use Rattle.flk_cert.proofs.StepLemmas.{Meets, Several, Single, loss, fed, row_at-past}
use Rattle.flk_cert.proofs.KeptLemmas.{KeepsFirst, row_kept, several_keep_first, several_keep_both}
use Rattle.flk_cert.proofs.PromiseLemmas.{bounds_of, bounds_first_of, bounds_second_of, keeps_second_of}
use Rattle.flk_cert.proofs.CheckLemmas.{one_or_more}

-- the condition over natural numbers
covers_natural : (r : CertRow) (first second next : ℤ) (n : ℕ) (own : ℤ) → IsBound first → IsBound second → IsBound next → IsBound own → Covers r first second next n own
    → unsigned_abs r.c * unsigned_abs first + unsigned_abs r.d * unsigned_abs second + 2 ^ 64 * unsigned_abs next + n ≤ 2 ^ 64 * unsigned_abs own
covers_natural r first second next n own a b c d h =
    let e1 : pos (unsigned_abs r.c) *ℤ first ≡ pos (unsigned_abs r.c * unsigned_abs first) = ap (λ (z : ℤ). pos (unsigned_abs r.c) *ℤ z) (natural_is first a.natural) in
    let e2 : pos (unsigned_abs r.d) *ℤ second ≡ pos (unsigned_abs r.d * unsigned_abs second) = ap (λ (z : ℤ). pos (unsigned_abs r.d) *ℤ z) (natural_is second b.natural) in
    let e3 : pos (2 ^ 64) *ℤ next ≡ pos (2 ^ 64 * unsigned_abs next) = ap (λ (z : ℤ). pos (2 ^ 64) *ℤ z) (natural_is next c.natural) in
    let e4 : pos (2 ^ 64) *ℤ own ≡ pos (2 ^ 64 * unsigned_abs own) = ap (λ (z : ℤ). pos (2 ^ 64) *ℤ z) (natural_is own d.natural) in
    omega (arith, lin, e1, e2, e3, e4, h)

-- the share of rounding, by what is fed back
loss_is : (k : Coefs) (r : CertRow) → loss (2 ^ 32) k r ≡ rounding_share k r.x r.y
loss_is k r =
    let e : fed k r ≡ neg_ℤ (k.a1 *ℤ r.x +ℤ k.a2 *ℤ r.y) = omega (arith, lin) in
    let s : unsigned_abs (fed k r) ≡ unsigned_abs (k.a1 *ℤ r.x +ℤ k.a2 *ℤ r.y) = ap unsigned_abs e ∙ abs_neg (k.a1 *ℤ r.x +ℤ k.a2 *ℤ r.y) in
    ap (λ (n : ℕ). 2 ^ 32 * n + 2 ^ 64 * (unsigned_abs r.x + unsigned_abs r.y)) s

meets_row : (k : Coefs) (rows : List CertRow) (i : ℕ) → FitsSection k rows → 1 < length rows → i < length rows
    → Meets (2 ^ 32) k (unsigned_abs (row_at rows 0).g) (unsigned_abs (row_at rows 0).h) (unsigned_abs (row_at rows 1).g) (unsigned_abs (row_at rows 1).h) (row_at rows i) (row_at rows (i + 1))
meets_row k rows i fits more within =
    let r = row_at rows i in
    let n = row_at rows (i + 1) in
    let id = (fits Identity i within).several more in
    let own : HasRanges r = (fits Shape i).range in
    let first : HasRanges (row_at rows 0) = (fits Shape 0).range in
    let second : HasRanges (row_at rows 1) = (fits Shape 1).range in
    let next : HasRanges n = (fits Shape (i + 1)).range in
    record {
      first = id.first;
      second = id.second;
      input = covers_natural r (row_at rows 0).g (row_at rows 1).g n.g (input_share k r.x r.y) r.g first.g second.g next.g own.g (fits Input i within);
      rounded =
          subst (λ (m : ℕ). unsigned_abs r.c * unsigned_abs (row_at rows 0).h + unsigned_abs r.d * unsigned_abs (row_at rows 1).h + 2 ^ 64 * unsigned_abs n.h + m ≤ 2 ^ 64 * unsigned_abs r.h)
          (sym (loss_is k r)) (covers_natural r (row_at rows 0).h (row_at rows 1).h n.h (rounding_share k r.x r.y) r.h first.h second.h next.h own.h (fits Rounding i within));
    }

several_of : (k : Coefs) (rows : List CertRow) → FitsSection k rows → 1 < length rows → Several (2 ^ 32) k rows
several_of k rows fits more =
    let zero = (fits Shape 0).row_0 refl in
    let one = (fits Shape 1).row_1 refl more in
    record { more = more; x0 = zero.first; y0 = zero.second; x1 = one.first; y1 = one.second; meet = λ i within. meets_row k rows i fits more within }

single_of : (k : Coefs) (rows : List CertRow) → FitsSection k rows → length rows ≡ 1 → Single (2 ^ 32) k (unsigned_abs (row_at rows 0).g) (unsigned_abs (row_at rows 0).h)
single_of k rows fits one =
    let r = row_at rows 0 in
    let within : 0 < length rows = omega (arith, one) in
    let zero = (fits Shape 0).row_0 refl in
    let order = ((fits Shape 0).count refl).single one in
    let id = (fits Identity 0 within).single one in
    let own : HasRanges r = (fits Shape 0).range in
    let next : HasRanges (row_at rows 1) = (fits Shape 1).range in
    let input = covers_natural r r.g (row_at rows 1).g (row_at rows 1).g (input_share k r.x r.y) r.g own.g next.g next.g own.g (fits Input 0 within) in
    let rounding = covers_natural r r.h (row_at rows 1).h (row_at rows 1).h (rounding_share k r.x r.y) r.h own.h next.h next.h own.h (fits Rounding 0 within) in
    let c : unsigned_abs r.c ≡ 2 ^ 32 * unsigned_abs k.a1 = ap unsigned_abs id.0 ∙ abs_neg (pos (2 ^ 32) *ℤ k.a1) ∙ unsigned_abs-mul (pos (2 ^ 32)) k.a1 in
    let u : ℤ = pos (2 ^ 32) *ℤ k.b1 -ℤ k.a1 *ℤ k.b0 in
    let w : ℤ = pos (2 ^ 32) *ℤ k.b2 -ℤ k.a2 *ℤ k.b0 in
    let x1 : r.x *ℤ u ≡ pos (2 ^ 32) *ℤ u = ap (λ (z : ℤ). z *ℤ u) zero.first in
    let y1 : r.y *ℤ w ≡ pos 0 = ap (λ (z : ℤ). z *ℤ w) zero.second ∙ omega (arith, ints) in
    let e1 : r.x *ℤ u +ℤ r.y *ℤ w ≡ pos (2 ^ 32) *ℤ u = omega (arith, lin, x1, y1) in
    let e : input_share k r.x r.y ≡ unsigned_abs (pos (2 ^ 32) *ℤ u) = ap unsigned_abs e1 in
    let x2 : k.a1 *ℤ r.x ≡ k.a1 *ℤ pos (2 ^ 32) = ap (λ (z : ℤ). k.a1 *ℤ z) zero.first in
    let y2 : k.a2 *ℤ r.y ≡ pos 0 = ap (λ (z : ℤ). k.a2 *ℤ z) zero.second ∙ omega (arith, ints) in
    let f1 : k.a1 *ℤ r.x +ℤ k.a2 *ℤ r.y ≡ k.a1 *ℤ pos (2 ^ 32) = omega (arith, lin, x2, y2) in
    let f : unsigned_abs (k.a1 *ℤ r.x +ℤ k.a2 *ℤ r.y) ≡ unsigned_abs k.a1 * 2 ^ 32 = ap unsigned_abs f1 ∙ unsigned_abs-mul k.a1 (pos (2 ^ 32)) in
    let sx : unsigned_abs r.x ≡ 2 ^ 32 = ap unsigned_abs zero.first in
    let sy : unsigned_abs r.y ≡ 0 = ap unsigned_abs zero.second in
    let g1 : unsigned_abs r.c * unsigned_abs r.g ≡ 2 ^ 32 * unsigned_abs k.a1 * unsigned_abs r.g = ap (λ (n : ℕ). n * unsigned_abs r.g) c in
    let h1 : unsigned_abs r.c * unsigned_abs r.h ≡ 2 ^ 32 * unsigned_abs k.a1 * unsigned_abs r.h = ap (λ (n : ℕ). n * unsigned_abs r.h) c in
    record { b2 = order.0; a2 = order.1; input = omega (arith, input, e, g1); rounded = omega (arith, rounding, f, sx, sy, h1) }

-- ---- the promises

keeps_first : (k : Coefs) (rows : List CertRow) → FitsSection k rows → KeepsFirst k (unsigned_abs (row_at rows 0).g) (unsigned_abs (row_at rows 0).h)
keeps_first k rows fits =
    ⊎_elim
    (λ one. λ from_one s delta ns ms Xs may run near. row_kept k _ _ from_one s delta ns ms Xs (single_of k rows fits one) may run near)
    (λ more. several_keep_first k rows (several_of k rows fits more))
    (one_or_more (length rows) ((fits Shape 0).count refl).some)

pub fits_bounds : (k : Coefs) (rows : List CertRow) (input rounding : ℤ) → FitsSection k rows
    → input ≡ pos (unsigned_abs k.b0) +ℤ (row_at rows 0).g → rounding ≡ pos 1 +ℤ ceil_of (row_at rows 0).h (pos (2 ^ 32))
    → Bounds k input rounding
fits_bounds k rows input rounding fits ei er =
    let r = row_at rows 0 in
    let own : HasRanges r = (fits Shape 0).range in
    let g = natural_is r.g own.g.natural in
    let h = natural_is r.h own.h.natural in
    let i : input ≡ pos (unsigned_abs k.b0 + unsigned_abs r.g) = omega (arith, ints, ei, g) in
    let above : r.h ≤ℤ (ceil_of r.h (pos (2 ^ 32)) *ℤ pos (2 ^ 32)) = (IsCeil-at r.h (pos (2 ^ 32)) (ceil_of r.h (pos (2 ^ 32))) (omega (arith, ints)) refl).within in
    let n : rounding ≡ pos (unsigned_abs rounding) = natural_is rounding (omega (arith, ints, er, above, own.h.natural)) in
    let enough : unsigned_abs r.h + 2 ^ 32 ≤ 2 ^ 32 * unsigned_abs rounding = omega (arith, ints, er, above, h, n) in
    subst (λ (z : ℤ). Bounds k z rounding) (sym i) (subst (λ (z : ℤ). Bounds k (pos (unsigned_abs k.b0 + unsigned_abs r.g)) z) (sym n)
    (bounds_of k (unsigned_abs r.g) (unsigned_abs r.h) (unsigned_abs rounding) (keeps_first k rows fits) enough))

pub fits_bounds_first : (k : Coefs) (rows : List CertRow) → FitsSection k rows → BoundsFirst k (row_at rows 0).g (row_at rows 0).h
fits_bounds_first k rows fits =
    let r = row_at rows 0 in
    let own : HasRanges r = (fits Shape 0).range in
    subst (λ (z : ℤ). BoundsFirst k z r.h) (sym (natural_is r.g own.g.natural))
    (subst (λ (z : ℤ). BoundsFirst k (pos (unsigned_abs r.g)) z) (sym (natural_is r.h own.h.natural)) (bounds_first_of k _ _ (keeps_first k rows fits)))

pub fits_bounds_second : (k : Coefs) (rows : List CertRow) → FitsSection k rows → BoundsSecond k (row_at rows 1).g (row_at rows 1).h
fits_bounds_second k rows fits from_one s xs ys Xs some =
    let r = row_at rows 1 in
    let own : HasRanges r = (fits Shape 1).range in
    ⊎_elim
    (λ one.
    let past : r ≡ no_row = row_at-past rows 1 (omega (arith, one)) in
    let none : r.h ≡ pos 0 = ap (λ (z : CertRow). z.h) past in
    absurd (omega (arith, ints, some, none)))
    (λ more.
    let natural = bounds_second_of k _ _ (several_keep_both k rows (several_of k rows fits more)) in
    let positive : pos 0 <ℤ pos (unsigned_abs r.h) = omega (arith, ints, some) in
    let bound : BoundsSecond k r.g r.h =
    subst (λ (z : ℤ). BoundsSecond k z r.h) (sym (natural_is r.g own.g.natural))
    (subst (λ (z : ℤ). BoundsSecond k (pos (unsigned_abs r.g)) z) (sym (natural_is r.h own.h.natural)) natural) in
    bound from_one s xs ys Xs some)
    (one_or_more (length rows) ((fits Shape 0).count refl).some)

-- with several rows the second bound takes up the rounding of a whole product
several_round : (k : Coefs) (rows : List CertRow) → FitsSection k rows → 1 < length rows → (row_at rows 1).h ≡ pos 0 → ⊥
several_round k rows fits more none =
    let meet = meets_row k rows 1 fits more more in
    let one = (fits Shape 1).row_1 refl more in
    let y : unsigned_abs (row_at rows 1).y ≡ 2 ^ 32 = ap unsigned_abs one.second in
    let h : unsigned_abs (row_at rows 1).h ≡ 0 = ap unsigned_abs none in
    let rounded = meet.rounded in
    omega (arith, y, h, rounded)

pub fits_keeps_second : (k : Coefs) (rows : List CertRow) → FitsSection k rows → KeepsSecond k (row_at rows 1).h
fits_keeps_second k rows fits from_one s xs ys Xs none =
    ⊎_elim
    (λ one. let order = ((fits Shape 0).count refl).single one in keeps_second_of k (row_at rows 1).h order.0 order.1 from_one s xs ys Xs none)
    (λ more. absurd (several_round k rows fits more none))
    (one_or_more (length rows) ((fits Shape 0).count refl).some)

-- ---- what a gain keeps

pub gain_bounds : (gain : Gain) → Bounds (coefs_of gain) (input_of gain) (rounding_of gain)
gain_bounds gain = gain.bounds

-- its numbers are not below 0, and the share of rounding is at most 2^29 units
pub gain_input_natural : (gain : Gain) → pos 0 ≤ℤ input_of gain
gain_input_natural gain = gain.input_natural

pub gain_rounding_natural : (gain : Gain) → pos 0 ≤ℤ rounding_of gain
gain_rounding_natural gain = gain.rounding_natural

pub gain_rounding_small : (gain : Gain) → rounding_of gain ≤ℤ pos (2 ^ 29)
gain_rounding_small gain = gain.rounding_small

pub gain_bounds_first : (gain : Gain) → BoundsFirst (coefs_of gain) (first_input_of gain) (first_rounding_of gain)
gain_bounds_first gain = gain.bounds_first

pub gain_bounds_second : (gain : Gain) → BoundsSecond (coefs_of gain) (second_input_of gain) (second_rounding_of gain)
gain_bounds_second gain = gain.bounds_second

pub gain_keeps_second : (gain : Gain) → KeepsSecond (coefs_of gain) (second_rounding_of gain)
gain_keeps_second gain = gain.keeps_second

pub gain_first_limits : (gain : Gain) → IsBound (first_input_of gain) × IsBound (first_rounding_of gain)
gain_first_limits gain = (gain.first_input_limits, gain.first_rounding_limits)

pub gain_second_limits : (gain : Gain) → IsBound (second_input_of gain) × IsBound (second_rounding_of gain)
gain_second_limits gain = (gain.second_input_limits, gain.second_rounding_limits)

-- ---- the gains of one certificate have the same numbers

abbrev numbers_from : Coefs → ℤ → ℤ → ℤ → ℤ → ℤ → ℤ → GainNumbers
numbers_from k i r g h m n = record { coefs = k; input = i; rounding = r; first_input = g; first_rounding = h; second_input = m; second_rounding = n }

numbers_same : (k k' : Coefs) (i i' r r' g g' h h' m m' n n' : ℤ) → k ≡ k' → i ≡ i' → r ≡ r' → g ≡ g' → h ≡ h' → m ≡ m' → n ≡ n'
    → numbers_from k i r g h m n ≡ numbers_from k' i' r' g' h' m' n'
numbers_same k k' i i' r r' g g' h h' m m' n n' e1 e2 e3 e4 e5 e6 e7 = rw (e1, e2, e3, e4, e5, e6, e7) refl

pub gain_numbers_unique : (k : Coefs) (rows : List CertRow) (g h : Gain) → IsGainOf k rows g → IsGainOf k rows h → gain_numbers g ≡ gain_numbers h
gain_numbers_unique k rows g h i j =
    numbers_same g.coefs h.coefs g.input h.input g.rounding h.rounding g.first_input h.first_input g.first_rounding h.first_rounding g.second_input h.second_input
    g.second_rounding h.second_rounding (i.coefs ∙ sym j.coefs) (i.input ∙ sym j.input) (i.rounding ∙ sym j.rounding) (i.first_input ∙ sym j.first_input)
    (i.first_rounding ∙ sym j.first_rounding) (i.second_input ∙ sym j.second_input) (i.second_rounding ∙ sym j.second_rounding)
