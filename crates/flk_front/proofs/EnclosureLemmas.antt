-- A point holds the exact output of every run in the intervals.
use Rattle.std.proofs.Common.{◌≡◌, ℕ, ◌+◌, ◌-◌, ◌*◌, ◌/◌, ◌^◌, ◌<◌, ◌≤◌, max, List, [], ◌∷◌, ℤ, pos, ◌-ℤ◌, ◌*ℤ◌, ◌≤ℤ◌, refl, ap, subst, arith}
use Rattle.std.specs.Prelude.{negsuc}
use Rattle.std.specs.Int.RustNames.{unsigned_abs}
use Rattle.std.proofs.lemmas.Int.{ints}
use Rattle.std.proofs.Math.Nat.{div-mul-le_self, mul-le-mul_left, mul-le-mul_right, mul-pos, le_of_mul-le-mul_right}
use Rattle.flk_exact.specs.Fraction.{Fraction, ◌*ℚ◌, units}
use Rattle.flk_exact.proofs.NumeratorLemmas.{IsOver, over_grow, over_units, over_difference, over_product, over_size, over_same, at_most_over, above_own, below_own, as_natural, natural_number, numerators, number}
use Rattle.flk_num.specs.declared.interval.Interval.{Interval}
use Rattle.flk_num.specs.Interval.{Holds, HoldEach}
use Rattle.flk_front.specs.declared.ends.Ends.{Ends}
use Rattle.flk_front.specs.declared.point.Point.{Point}
use Rattle.flk_front.specs.Adaptor.{quarter, divisor, IsOutput, IsAdapted}
use Rattle.flk_front.specs.Rounded.{squares_of, mean_of, divisor_of, output_of, newest_output, IsPoint}
use Rattle.flk_front.specs.Front.{IsWithin}
use Rattle.flk_front.proofs.Numerators.{over_greater, natural_max}
use Rattle.flk_front.proofs.SquareSteps.{ceil_within, square_above, square_below}
use Rattle.flk_front.proofs.PointSteps.{cases_le, point_upper, point_lower}
use Rattle.flk_front.proofs.MeanLemmas.{square_over, mean_natural}
use Rattle.flk_front.proofs.HeldMeans.{IsHeld, fine, mean_held}

-- ---- the divisor

pub over_divisor : (delta K mu : ℕ) (m : Fraction) → delta ≡ 4 * K → IsOver delta m (pos mu) → IsOver delta (divisor m) (pos (max mu K))
over_divisor delta K mu m e h =
    let q : IsOver delta quarter (pos K) = record { is = omega (arith, ints) } in
    subst (λ (z : ℤ). IsOver delta (divisor m) z) (natural_max mu K) (over_greater delta m quarter (pos mu) (pos K) h q)

-- the greater ones of two pairs in order are in order
pub greater_below : (p a b D s t : ℕ) → a * D ≤ p * s → b * D ≤ p * t → max a b * D ≤ p * max s t
greater_below p a b D s t h k =
    let x : p * s ≤ p * max s t = mul-le-mul_left p (omega arith) in
    let y : p * t ≤ p * max s t = mul-le-mul_left p (omega arith) in
    cases_le a b
    (λ less. let e : max a b ≡ b = omega arith in rw e (omega arith))
    (λ most. let e : max a b ≡ a = omega arith in rw e (omega arith))

pub greater_above : (p a b D s t : ℕ) → p * s ≤ a * D → p * t ≤ b * D → p * max s t ≤ max a b * D
greater_above p a b D s t h k =
    let x : a * D ≤ max a b * D = mul-le-mul_right D (omega arith) in
    let y : b * D ≤ max a b * D = mul-le-mul_right D (omega arith) in
    cases_le s t
    (λ less. let e : max s t ≡ t = omega arith in rw e (omega arith))
    (λ most. let e : max s t ≡ s = omega arith in rw e (omega arith))

-- ---- the output, in numerators

natural_factor : (eta : ℤ) (d x : ℕ) → 0 < d → eta *ℤ pos d ≡ pos x → pos 0 ≤ℤ eta
natural_factor (pos n) d x h e = omega (arith, ints)
natural_factor (negsuc n) d x h e =
    let some : 0 < (n + 1) * d = mul-pos (omega arith) h in
    absurd (omega (arith, ints))

pub record Output (D d nu : ℕ) (y : Fraction) : Type 0 where
  pub eta : ℕ
  pub over : IsOver D y (pos eta)
  pub is : eta * d ≡ nu * D

pub output_numbers : (D d nu : ℕ) (m u y : Fraction) (z : ℤ) → 0 < D → 0 < d → IsOutput m u y → IsOver D (divisor m) (pos d) → IsOver D (u *ℚ u) (pos nu) → IsOver D y z
    → Output D d nu y
output_numbers D d nu m u y z hD hd h over_d over_u over_y =
    let e : z *ℤ pos d ≡ pos nu *ℤ pos D =
    over_same (D * D) _ _ _ _ (mul-pos hD hD) h.is (over_product D D y (divisor m) z (pos d) over_y over_d) (over_grow D D (u *ℚ u) (pos nu) over_u) in
    let n = as_natural D y z (natural_factor z d (nu * D) hd e) over_y in
    let f : pos n.0 *ℤ pos d ≡ pos nu *ℤ pos D = subst (λ (x : ℤ). x *ℤ pos d ≡ pos nu *ℤ pos D) n.1 e in
    record { eta = n.0; over = n.2; is = omega (arith, ints) }

-- ---- within the point

within_ends : (D eta w lo hi h : ℕ) → 0 < D → lo * D ≤ w * eta → w * eta ≤ hi * D → h ≡ (lo + hi) / 2
    → unsigned_abs (pos eta *ℤ pos w -ℤ pos D *ℤ pos h) ≤ D * (hi - h)
within_ends D eta w lo hi h hD low high e =
    let order : lo ≤ hi = le_of_mul-le-mul_right {k = D} (omega arith) hD in
    let twice : 2 * h ≤ lo + hi = omega arith in
    let below : h ≤ hi = omega arith in
    let x = mul-le-mul_left D twice in
    let y : D * hi ≡ D * (hi - h) + D * h = omega (arith, ap (λ (n : ℕ). D * n) (let s : hi ≡ hi - h + h = omega arith in s)) in
    omega (arith, ints)

is_within : (D eta : ℕ) (ends : Ends) (p : Point) (y : Fraction) → 0 < D → IsOver D y (pos eta) → ends.lo * D ≤ 2 ^ 48 * eta → 2 ^ 48 * eta ≤ ends.hi * D → IsPoint ends p → IsWithin p y
is_within D eta ends p y hD over_y low high point =
    let h = (ends.lo + ends.hi) / 2 in
    let order : ends.lo ≤ ends.hi = le_of_mul-le-mul_right {k = D} (omega arith) hD in
    let below : h ≤ ends.hi = omega arith in
    let radius : p.radius ≡ pos (ends.hi - h) = omega (arith, ints, point.mid, point.radius) in
    let near = within_ends D eta (2 ^ 48) ends.lo ends.hi h hD low high refl in
    let over_mid : IsOver (D * 2 ^ 48) (units p.mid) (pos D *ℤ pos h) = subst (λ (z : ℤ). IsOver (D * 2 ^ 48) (units p.mid) (pos D *ℤ z)) point.mid (over_units D p.mid) in
    let over_radius : IsOver (D * 2 ^ 48) (units p.radius) (pos D *ℤ pos (ends.hi - h)) =
    subst (λ (z : ℤ). IsOver (D * 2 ^ 48) (units p.radius) (pos D *ℤ z)) radius (over_units D p.radius) in
    let some : 0 < D * 2 ^ 48 = omega (arith, hD) in
    let over_gap = over_size (D * 2 ^ 48) _ _ (over_difference (D * 2 ^ 48) y (units p.mid) (pos eta *ℤ pos (2 ^ 48)) (pos D *ℤ pos h) (over_grow D (2 ^ 48) y (pos eta) over_y) over_mid) in
    record { within = at_most_over (D * 2 ^ 48) _ _ _ _ some (omega (arith, ints)) over_gap over_radius }

point_holds_over : (base : ℕ) (M : Ends) (v : Interval) (m u y : Fraction) (p : Point) (z x : ℤ) (mu : ℕ) → 0 < base → IsOver (base * 2 ^ 48) u z
    → IsOver (base * 2 ^ 48 * (base * 2 ^ 48)) m (pos mu) → IsOver (base * 2 ^ 48) y x → Holds v u → IsOutput m u y → IsHeld M m
    → IsPoint (output_of (squares_of v) (divisor_of M)) p → IsWithin p y
point_holds_over base M v m u y p z x mu some hu hm hy held out inside point =
    let delta = base * 2 ^ 48 in
    let hd : 0 < delta = omega arith in
    let D = delta * delta in
    let hD : 0 < D = mul-pos hd hd in
    let K = base * base * 2 ^ 94 in
    let eq : D ≡ 4 * K = omega arith in
    let nu = unsigned_abs z * unsigned_abs z in
    let d = max mu K in
    let some_d : 0 < d = omega (arith, hD) in
    let over_d = over_divisor D K mu m eq hm in
    let o = output_numbers D d nu m u y (x *ℤ pos delta) hD some_d out over_d (square_over delta u z hu) (over_grow delta delta y x hy) in
    let q = squares_of v in
    let by = divisor_of M in
    let low_M = above_own D (fine M.lo) m (pos mu) hm inside.low in
    let high_M = below_own D m (fine M.hi) (pos mu) hm inside.high in
    let low_by : by.lo * D ≤ 2 ^ 64 * d = greater_below (2 ^ 64) M.lo (2 ^ 62) D mu K (omega (arith, ints)) (omega arith) in
    let high_by : 2 ^ 64 * d ≤ by.hi * D = greater_above (2 ^ 64) M.hi (2 ^ 62) D mu K (omega (arith, ints)) (omega arith) in
    let some_lo : 0 < by.lo = omega arith in
    let out_ends = output_of q by in
    let top = point_upper (2 ^ 64) (2 ^ 48) D o.eta d nu q.hi by.lo out_ends.hi (omega arith) some_d o.is (square_above v u delta z hd hu held) low_by (ceil_within (q.hi * 2 ^ 64) by.lo some_lo) in
    let foot = point_lower (2 ^ 64) (2 ^ 48) D o.eta d nu q.lo by.hi out_ends.lo (omega arith) some_d o.is (square_below v u delta z hd hu held) high_by (div-mul-le_self (q.lo * 2 ^ 64) by.hi) in
    is_within D o.eta out_ends p y hD o.over foot top point

point_holds : (M : Ends) (v : Interval) (m u y : Fraction) (p : Point) → pos 0 ≤ℤ m.num → Holds v u → IsOutput m u y → IsHeld M m
    → IsPoint (output_of (squares_of v) (divisor_of M)) p → IsWithin p y
point_holds M v m u y p low held out inside point =
    let fs : List Fraction = u ∷ m ∷ y ∷ [] in
    let k = numerators fs in
    let delta = k.base * 2 ^ 48 in
    let mu = natural_number (delta * delta) m _ low (over_grow delta delta m _ (number fs k 1 (omega arith))) in
    point_holds_over k.base M v m u y p _ _ mu.number k.some (number fs k 0 (omega arith)) mu.over (number fs k 2 (omega arith)) held out inside point

-- for the newest sample of a run in the intervals
pub point_encloses : (e : ℕ) (vs : List Interval) (v : Interval) (us means ys : List Fraction) (y : Fraction) (p : Point) → 16 ≤ e → HoldEach (v ∷ vs) us
    → IsAdapted e us means (y ∷ ys) → IsPoint (newest_output e vs v) p → IsWithin p y
point_encloses e vs v [] means ys y p he held h point = absurd held
point_encloses e vs v (u ∷ us) [] ys y p he held h point = absurd h
point_encloses e vs v (u ∷ us) (m ∷ []) ys y p he held h point = absurd h
point_encloses e vs v (u ∷ us) (next ∷ m ∷ means) ys y p he held h point =
    point_holds (mean_of e vs) v m u y p (mean_natural e us means ys m h.2) held.0 h.1 (mean_held e vs us means ys m he held.1 h.2) point
