-- There are numbers that cover the widths of a result.
use Rattle.std.proofs.Common.{◌≡◌, ℕ, ◌+◌, ◌*◌, ◌^◌, ◌<◌, ◌≤◌, List, map, drop, get_or, ℤ, pos, neg_ℤ, ◌*ℤ◌, ◌≤ℤ◌, ap, subst, ◌∙◌, arith}
use Rattle.std.specs.Prelude.{reverse}
use Rattle.std.specs.Int.RustNames.{unsigned_abs}
use Rattle.std.specs.List.{All}
use Rattle.std.proofs.Math.Nat.{mul-pos, le-mul_of_pos_right}
use Rattle.std.proofs.lemmas.Int.{ints, clamps}
use Rattle.std.proofs.lemmas.List.{get_or_default}
use Rattle.flk_exact.specs.Fraction.{Fraction, ◌≤ℚ◌, ◌+ℚ◌, ◌*ℚ◌, size, whole, units}
use Rattle.flk_exact.specs.Run.{IsAdmitted, IsAdmittedRun, relative_to}
use Rattle.flk_exact.specs.HalfPeriod.{half_period_width}
use Rattle.flk_exact.proofs.FractionLemmas.{≤ℚ-refl}
use Rattle.flk_exact.proofs.WholeLemmas.{scale_≤, cancel_≤, atom, nat, plus_is, times_is, minus_is, same, at_most, from_at_most}
use Rattle.flk_exact.proofs.ListLemmas.{AllZip-made, AllZip-weaker, All-beside}
use Rattle.flk_num.specs.Rate.{adaptor_exponent}
use Rattle.flk_scale.specs.Voltage.{IsOverRange, IsRelative}
use Rattle.flk_scale.specs.Range.{IsWithinRange}
use Rattle.flk_scale.proofs.VoltageLemmas.{doubt_covered}
use Rattle.flk_front.specs.Adaptor.{quarter, divisor, IsAdapted}
use Rattle.flk_front.specs.Width.{square_reach}
use Rattle.flk_design.specs.Nearest.{◌<ℚ◌}
use Rattle.flk_section.specs.Filter.{last_radius}
use Rattle.flk_section.specs.Radius.{units_above}
use Rattle.flk_result.specs.Conditions.{Conditions}
use Rattle.flk_result.specs.Widths.{IsOwnRun, CoversSignal, CoversHalfPeriods}

-- ---- the own run

relative : (nominal : ℕ) (positive : 0 < 1000 * nominal) (r : Fraction) → IsRelative nominal r (relative_to (1000 * nominal) positive r)
relative nominal positive r = record {
  cross = same (times_is (times_is (nat (1000 * nominal)) (atom r.num)) (nat r.den)) (times_is (atom r.num) (nat (1 * (r.den * (1000 * nominal))))) (omega arith);
}

pub own_run_exists : (c : Conditions) (recorded : List Fraction) → 0 < c.nominal → (own : List Fraction) × IsOwnRun c recorded own
own_run_exists c recorded some =
    let positive : 0 < 1000 * c.nominal = omega (arith, some) in
    (map (relative_to (1000 * c.nominal) positive) recorded, AllZip-made (IsRelative c.nominal) (relative_to (1000 * c.nominal) positive) (relative c.nominal positive) recorded)

own_admitted : (nominal uncertainty : ℕ) (r u : Fraction) → IsRelative nominal r u → IsAdmitted (1000 * nominal) uncertainty r u
own_admitted nominal uncertainty r u own =
    let x = 1000 * nominal in
    let e : (pos x *ℤ u.num) *ℤ pos r.den ≡ r.num *ℤ pos u.den = omega (arith, ints, own.cross) in
    let product = times_is (times_is (nat x) (atom u.num)) (nat r.den) in
    let recorded = times_is (atom r.num) (nat u.den) in
    let up = from_at_most product recorded (omega (arith, ints, e)) in
    let down = from_at_most recorded product (omega (arith, ints, e)) in
    record {
      not_above = record {
        cross =
            at_most (times_is (times_is (nat x) (atom u.num)) (nat (r.den * 1))) (times_is (plus_is (times_is (atom r.num) (nat 1)) (times_is (nat uncertainty) (nat r.den))) (nat (1 * u.den)))
            (omega (arith, up));
      };
      not_below = record {
        cross =
            at_most (times_is (atom r.num) (nat (1 * u.den * 1))) (times_is (plus_is (times_is (times_is (nat x) (atom u.num)) (nat 1)) (times_is (nat uncertainty) (nat (1 * u.den)))) (nat r.den))
            (omega (arith, down));
      };
    }

pub own_run_admitted : (c : Conditions) (recorded own : List Fraction) → IsOwnRun c recorded own → IsAdmittedRun (1000 * c.nominal) c.uncertainty recorded own
own_run_admitted c recorded own is =
    AllZip-weaker (IsRelative c.nominal) (IsAdmitted (1000 * c.nominal) c.uncertainty) (λ r u at. own_admitted c.nominal c.uncertainty r u at) recorded own is

-- ---- sizes

-- a number whose product with x/d is r over k is at most 4 where r is at most 4 x k
at_most_four : (x k d : ℕ) (n r : ℤ) → 0 < x * k → (pos x *ℤ n) *ℤ pos k ≡ r *ℤ pos d → r ≤ℤ pos (4 * x * k) → n ≤ℤ pos (4 * d)
at_most_four x k d n r some e h =
    let scaled = scale_≤ r (pos (4 * x * k)) d h in
    let left : n *ℤ pos (x * k) ≡ (pos x *ℤ n) *ℤ pos k = same (times_is (atom n) (nat (x * k))) (times_is (times_is (nat x) (atom n)) (nat k)) (omega arith) in
    let right : pos (4 * x * k) *ℤ pos d ≡ pos (4 * d) *ℤ pos (x * k) = same (times_is (nat (4 * x * k)) (nat d)) (times_is (nat (4 * d)) (nat (x * k))) (omega arith) in
    cancel_≤ n (pos (4 * d)) (x * k) some (omega (arith, ints, left, right, e, scaled))

own_small : (nominal : ℕ) (r u : Fraction) → 0 < nominal → ¬ IsOverRange nominal r → IsRelative nominal r u → size u ≤ℚ whole (pos 4)
own_small nominal r u some inside own =
    let x = 1000 * nominal in
    let positive : 0 < x * r.den = mul-pos (omega (arith, some)) r.positive in
    let e : (pos x *ℤ u.num) *ℤ pos r.den ≡ r.num *ℤ pos u.den = omega (arith, ints, own.cross) in
    let within : unsigned_abs r.num ≤ 4 * x * r.den = omega (arith, inside) in
    let high = at_most_four x r.den u.den u.num r.num positive e (omega (arith, ints, within)) in
    let back : (pos x *ℤ neg_ℤ u.num) *ℤ pos r.den ≡ neg_ℤ r.num *ℤ pos u.den =
    same (times_is (times_is (nat x) (minus_is (atom u.num))) (nat r.den)) (minus_is (times_is (times_is (nat x) (atom u.num)) (nat r.den))) (omega arith)
    ∙ ap neg_ℤ e
    ∙ same (minus_is (times_is (atom r.num) (nat u.den))) (times_is (minus_is (atom r.num)) (nat u.den)) (omega arith) in
    let low = at_most_four x r.den u.den (neg_ℤ u.num) (neg_ℤ r.num) positive back (omega (arith, ints, within)) in
    record { cross = omega (arith, ints, high, low) }

-- ---- the signal

quarter_least : (m : Fraction) → quarter ≤ℚ divisor m
quarter_least m = record { cross = omega (arith, ints, clamps) }

sixteen_times : (p : Fraction) → p ≤ℚ (whole (pos 16) *ℚ p *ℚ (quarter *ℚ quarter))
sixteen_times p = record {
  cross =
      at_most (times_is (atom p.num) (nat (1 * p.den * 16))) (times_is (times_is (times_is (nat 16) (atom p.num)) (times_is (nat 1) (nat 1))) (nat p.den)) (omega arith);
}

pub signal_covered : (c : Conditions) (recorded own means outputs : List Fraction) → 0 < c.nominal → c.uncertainty ≤ 10 * c.nominal → IsWithinRange c.nominal recorded → IsOwnRun c recorded own
    → IsAdapted (adaptor_exponent c.rate) (reverse own) means outputs
    → (delta : Fraction) × (a : Fraction) × (b : Fraction) × (output : Fraction) × (signal : Fraction) × CoversSignal c own means delta a b output signal
signal_covered c recorded own means outputs some few within is adapted =
    let doubt = doubt_covered c.nominal c.uncertainty some few in
    let delta = doubt.0 in
    let a = whole (pos 4) in
    let reach = whole (pos 2) *ℚ square_reach delta a *ℚ (quarter +ℚ a *ℚ a) +ℚ units (pos 256) *ℚ (quarter *ℚ quarter) in
    let output = whole (pos 16) *ℚ reach in
    let signal = units (last_radius c.filter (units_above output)) +ℚ units (pos (2 ^ 24)) in
    let Kept : Fraction → Type 0 = λ r. ¬ IsOverRange c.nominal r in
    let kept : All Kept recorded = λ k d low. subst Kept (get_or_default recorded k (whole (pos 0)) d low) (within k low) in
    let sizes = All-beside Kept (IsRelative c.nominal) (λ u. size u ≤ℚ a) (λ r u inside at. own_small c.nominal r u some inside at) recorded own kept is in (
      delta,
      a,
      quarter,
      output,
      signal,
      record {
        doubt = doubt.1;
        doubt_high = doubt.2;
        sizes = sizes;
        sizes_high = ≤ℚ-refl a;
        divisors_low = omega (arith, ints);
        divisors = λ k d low. quarter_least (get_or (drop 1 means) k d);
        outputs = record { covers = sixteen_times reach };
        signals = ≤ℚ-refl signal;
      },
    )

-- ---- half-periods

whole_above : (p : Fraction) → (width : ℕ) × (p <ℚ whole (pos (width + 1)))
whole_above p =
    let n = unsigned_abs p.num in
    (n, record { cross = omega (arith, ints, le-mul_of_pos_right (n + 1) p.positive) })

pub half_periods_covered : (c : Conditions) → 0 < c.nominal → c.uncertainty ≤ 10 * c.nominal → (width : ℕ) × CoversHalfPeriods c width
half_periods_covered c some few =
    let doubt = doubt_covered c.nominal c.uncertainty some few in
    let above = whole_above (half_period_width doubt.0) in
    (above.0, record { delta = doubt.0; doubt = doubt.1; covers = above.1 })
