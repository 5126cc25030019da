-- How wide a point is where the ends of the intervals are near the voltages.
use Rattle.std.proofs.Common.{◌≡◌, ℕ, ◌+◌, ◌-◌, ◌*◌, ◌/◌, ◌^◌, ◌<◌, ◌≤◌, max, List, [], ◌∷◌, ℤ, pos, ◌+ℤ◌, ◌-ℤ◌, ◌*ℤ◌, ◌≤ℤ◌, ◌<ℤ◌, refl, sym, ap, subst, ◌∙◌, zero, arith}
use Rattle.std.specs.Prelude.{suc}
use Rattle.std.specs.Int.RustNames.{unsigned_abs}
use Rattle.std.proofs.lemmas.Int.{ints}
use Rattle.std.proofs.lemmas.Nat.{mul-le, pow-add, pow_pos}
use Rattle.std.proofs.Math.Nat.{mul-le-mul_left, mul-le-mul_right, mul-pos}
use Rattle.flk_exact.specs.Fraction.{Fraction, ◌≤ℚ◌, ◌+ℚ◌, ◌-ℚ◌, ◌*ℚ◌, size, whole, units}
use Rattle.flk_exact.proofs.WholeLemmas.{scale_≤, cancel_≤, ≤ℤ_trans, assoc-*ℤ}
use Rattle.flk_exact.proofs.NumeratorLemmas.{IsOver, over_grow, over_units, over_whole, over_sum, over_difference, over_times, over_product, over_size, over_at_most, below_own, own_above, positive_over, as_natural, natural_number, numerators, number}
use Rattle.flk_num.specs.declared.interval.Interval.{Interval}
use Rattle.flk_num.specs.Interval.{IsNear, hundredth}
use Rattle.flk_front.specs.declared.ends.Ends.{Ends}
use Rattle.flk_front.specs.declared.point.Point.{Point}
use Rattle.flk_front.specs.Adaptor.{divisor, IsAdapted}
use Rattle.flk_front.specs.Rounded.{squares_of, mean_of, divisor_of, output_of, newest_output, IsPoint}
use Rattle.flk_front.specs.Width.{AreClose, CoversOutput, square_reach}
use Rattle.flk_front.proofs.SquareSteps.{floor_greatest, ceil_least, square_top, square_foot}
use Rattle.flk_front.proofs.PointSteps.{cases_le, top_of_point, foot_of_point, radius_here, radius_of_run, radius_bound, radius_wider}
use Rattle.flk_front.proofs.MeanLemmas.{mean_natural}
use Rattle.flk_front.proofs.NearMeans.{IsNearMean, over_reach, square_parts, low_numbers, high_numbers, mean_near}
use Rattle.flk_front.proofs.EnclosureLemmas.{over_divisor, greater_below}

-- ---- natural numbers: delta is base * 2^48, D its square, kappa the reach of the squares, and zeta adds 2^-46 for what the mean loses

abbrev pub square_den : ℕ → ℕ
square_den base = base * 2 ^ 48 * (base * 2 ^ 48)

abbrev pub reach_number : ℕ → ℕ → ℕ
reach_number s rho = 2 * s * rho + rho * rho

abbrev pub zeta_number : ℕ → ℕ → ℕ → ℕ
zeta_number base s rho = reach_number s rho + base * base * 2 ^ 50

-- a fourth of D
abbrev pub quarter_number : ℕ → ℕ
quarter_number base = base * base * 2 ^ 94

pub zeta_small : (base s rho : ℕ) → s ≤ 4 * (base * 2 ^ 48) → 100 * rho ≤ base * 2 ^ 48 + 100 * base → 2 * zeta_number base s rho ≤ quarter_number base
zeta_small base s rho hs hr =
    let p = mul-le s (100 * rho) (4 * (base * 2 ^ 48)) (base * 2 ^ 48 + 100 * base) hs hr in
    let q = mul-le (100 * rho) (100 * rho) (base * 2 ^ 48 + 100 * base) (base * 2 ^ 48 + 100 * base) hr hr in
    omega arith

less_one : (h d x : ℕ) → h * d + 1 ≤ x + d → (h - 1) * d ≤ x
less_one zero d x k = omega arith
less_one (suc h) d x k =
    let e : suc h - 1 ≡ h = omega arith in
    rw e (omega arith)

greater_near : (p a b D s t x : ℕ) → p * s ≤ a * D + x → p * t ≤ b * D → p * max s t ≤ max a b * D + x
greater_near p a b D s t x h k =
    let y : a * D ≤ max a b * D = mul-le-mul_right D (omega arith) in
    let z : b * D ≤ max a b * D = mul-le-mul_right D (omega arith) in
    cases_le s t
    (λ less. let e : max s t ≡ t = omega arith in rw e (omega arith))
    (λ most. let e : max s t ≡ s = omega arith in rw e (omega arith))

-- what the mean loses is at most 2^18 units of 2^-64
loss_small : (e : ℕ) → e ≤ 17 → 2 * 2 ^ e ≤ 2 ^ 18
loss_small e h =
    let s : 17 ≡ e + (17 - e) = omega arith in
    let p : 2 ^ 17 ≡ 2 ^ e * 2 ^ (17 - e) = ap (λ (n : ℕ). 2 ^ n) s ∙ pow-add 2 e (17 - e) in
    omega (arith, mul-le-mul_left (2 ^ e) (pow_pos (17 - e)))

-- the numbers of a sample, and what is known of them
record Sample (base s rho mu nu : ℕ) (M q : Ends) : Type 0 where
  some : 0 < base
  s_small : s ≤ 4 * (base * 2 ^ 48)
  rho_low : base ≤ rho
  rho_high : 100 * rho ≤ base * 2 ^ 48 + 100 * base
  nu_small : nu ≤ s * s
  low : 2 ^ 64 * mu ≤ M.lo * square_den base + 2 ^ 64 * zeta_number base s rho
  high : M.hi * square_den base ≤ 2 ^ 64 * (mu + zeta_number base s rho)
  top : q.hi * square_den base ≤ 2 ^ 48 * nu + 2 ^ 48 * reach_number s rho + square_den base
  foot : 2 ^ 48 * nu ≤ q.lo * square_den base + 2 ^ 48 * reach_number s rho + square_den base

-- the radius at the divisor of the sample
radius_at : (base s rho mu nu radius : ℕ) (M q : Ends) → Sample base s rho mu nu M q
    → 2 * radius ≤ (output_of q (divisor_of M)).hi - (output_of q (divisor_of M)).lo + 1
    → (output_of q (divisor_of M)).lo ≤ (output_of q (divisor_of M)).hi
    → let d = max mu (quarter_number base) in
    2 * radius * (d * d) ≤ 3 * (2 ^ 48 * nu * zeta_number base s rho) + 3 * (2 ^ 48 * (reach_number s rho + base * base * 2 ^ 48) * d) + 3 * (d * d)
radius_at base s rho mu nu radius M q k small order =
    let D = square_den base in
    let zeta = zeta_number base s rho in
    let e = reach_number s rho + base * base * 2 ^ 48 in
    let d = max mu (quarter_number base) in
    let by = divisor_of M in
    let lo = (output_of q by).lo in
    let hi = (output_of q by).hi in
    let hz : 2 * zeta ≤ d = omega (arith, zeta_small base s rho k.s_small k.rho_high) in
    let some : 0 < d = omega (arith, mul-pos k.some k.some) in
    let by_lo : 2 ^ 64 * d ≤ by.lo * D + 2 ^ 64 * zeta = greater_near (2 ^ 64) M.lo (2 ^ 62) D mu (quarter_number base) (2 ^ 64 * zeta) k.low (omega arith) in
    let shift : max (mu + zeta) (quarter_number base + zeta) ≡ d + zeta = omega arith in
    let by_hi : by.hi * D ≤ 2 ^ 64 * (d + zeta) = rw shift at (greater_below (2 ^ 64) M.hi (2 ^ 62) D (mu + zeta) (quarter_number base + zeta) k.high (omega arith)) in
    let some_lo : 0 < by.lo = omega arith in
    let some_hi : 0 < by.hi = omega arith in
    let top =
    top_of_point (2 ^ 64) (2 ^ 48) D d zeta nu e q.hi by.lo (hi - 1) (omega arith) (omega (arith, k.top)) by_lo hz
    (less_one hi by.lo (q.hi * 2 ^ 64) (ceil_least (q.hi * 2 ^ 64) by.lo some_lo)) in
    let foot =
    foot_of_point (2 ^ 64) (2 ^ 48) D d zeta nu e q.lo by.hi (lo + 1) (omega arith) some (omega (arith, k.foot)) by_hi
    (omega (arith, floor_greatest (q.lo * 2 ^ 64) by.hi some_hi)) in
    radius_here (2 ^ 48) d zeta nu e (hi - 1) (lo + 1) radius top foot hz (omega arith)

-- and in terms of the greatest voltage and of each r that is not above the divisor
radius_in_run : (base s rho mu nu radius r : ℕ) (M q : Ends) → Sample base s rho mu nu M q
    → 2 * radius ≤ (output_of q (divisor_of M)).hi - (output_of q (divisor_of M)).lo + 1
    → (output_of q (divisor_of M)).lo ≤ (output_of q (divisor_of M)).hi
    → r ≤ max mu (quarter_number base)
    → radius * (r * r) ≤ 2 * 2 ^ 48 * reach_number s (rho + base) * (r + s * s) + 256 * (r * r)
radius_in_run base s rho mu nu radius r M q k small order hr =
    let D = square_den base in
    let kappa = reach_number s rho in
    let zeta = zeta_number base s rho in
    let e = kappa + base * base * 2 ^ 48 in
    let K = quarter_number base in
    let d = max mu K in
    let t = max r K in
    let E = reach_number s (rho + base) in
    let a = s * (base * 2 ^ 48) in
    let squares : 0 < base * base = mul-pos k.some k.some in
    let some : 0 < d = omega arith in
    let here = radius_at base s rho mu nu radius M q k small order in
    let run = radius_of_run (2 ^ 48) d t zeta nu (s * s) e radius some (omega arith) k.nu_small here in
    let grows = mul-le-mul_left s k.rho_low in
    let bound =
    radius_bound (2 ^ 46) D t zeta kappa E a (s * s) (2 ^ 48 * e) radius (omega arith) (omega arith) (omega arith) (omega arith) (omega arith) (omega arith) (omega arith)
    (omega arith) in
    radius_wider (2 * 2 ^ 48) E t r (s * s) radius (omega arith) (omega arith) (omega arith)

-- ---- fractions

size_natural : (u a : Fraction) → size u ≤ℚ a → pos 0 ≤ℤ a.num
size_natural u a h = cancel_≤ (pos 0) a.num u.den u.positive (omega (arith, ints, h.cross))

-- what the bound says of numbers over delta: b is base, E and sq are over the square of delta, and r is too
covered : (b delta E sq r : ℕ) (w : ℤ) → delta ≡ b * 2 ^ 48
    → (pos (2 * E * (r * delta + sq)) +ℤ pos (b * 256 * (r * r) * delta)) ≤ℤ ((w *ℤ pos (r * r)) *ℤ pos delta)
    → (radius : ℕ) → 0 < r * r * delta → radius * (r * delta * (r * delta)) ≤ 2 * 2 ^ 48 * E * (r * delta + sq) + 256 * (r * delta * (r * delta))
    → (pos radius *ℤ pos delta) ≤ℤ (w *ℤ pos (2 ^ 48))
covered b delta E sq r w e h radius some k =
    let part = r * r * delta in
    let comm : part * 2 ^ 48 ≡ 2 ^ 48 * part = omega arith in
    let same : ((w *ℤ pos (r * r)) *ℤ pos delta) *ℤ pos (2 ^ 48) ≡ (w *ℤ pos (2 ^ 48)) *ℤ pos part =
    ap (λ (z : ℤ). z *ℤ pos (2 ^ 48)) (assoc-*ℤ w (r * r) delta) ∙ assoc-*ℤ w part (2 ^ 48) ∙ ap (λ (n : ℕ). w *ℤ pos n) comm ∙ sym (assoc-*ℤ w (2 ^ 48) part) in
    let d : 256 * (r * r) * delta * delta ≡ 256 * (r * r) * delta * (b * 2 ^ 48) = ap (λ (n : ℕ). 256 * (r * r) * delta * n) e in
    let chain : radius * delta * part ≤ (2 * E * (r * delta + sq) + b * 256 * (r * r) * delta) * 2 ^ 48 = omega arith in
    let first : (pos radius *ℤ pos delta *ℤ pos part) ≤ℤ ((pos (2 * E * (r * delta + sq)) +ℤ pos (b * 256 * (r * r) * delta)) *ℤ pos (2 ^ 48)) = omega (arith, ints) in
    cancel_≤ (pos radius *ℤ pos delta) (w *ℤ pos (2 ^ 48)) part some (≤ℤ_trans first (rw same at (scale_≤ _ _ (2 ^ 48) h)))

-- the numbers of a sample and of its bounds over base * 2^48
record Numbers (base : ℕ) (m u delta a r w : Fraction) : Type 0 where
  some : 0 < base
  z : ℤ
  mu : ℕ
  rho : ℕ
  s : ℕ
  k : ℕ
  x : ℤ
  k_some : 0 < k
  voltage : IsOver (base * 2 ^ 48) u z
  mean : IsOver (square_den base) m (pos mu)
  over_delta : IsOver (base * 2 ^ 48) delta (pos (rho + base))
  near : IsOver (base * 2 ^ 48) (delta -ℚ units (pos 1)) (pos rho)
  rho_low : base ≤ rho
  over_a : IsOver (base * 2 ^ 48) a (pos s)
  over_r : IsOver (base * 2 ^ 48) r (pos k)
  over_w : IsOver (base * 2 ^ 48) w x

numbers_over : (base : ℕ) (m u delta a r w : Fraction) (z n d t k x : ℤ) → 0 < base → IsOver (base * 2 ^ 48) u z → IsOver (base * 2 ^ 48) m n → IsOver (base * 2 ^ 48) delta d
    → IsOver (base * 2 ^ 48) a t → IsOver (base * 2 ^ 48) r k → IsOver (base * 2 ^ 48) w x → pos 0 ≤ℤ m.num → units (pos 2) ≤ℚ delta → pos 0 ≤ℤ a.num → pos 0 <ℤ r.num
    → Numbers base m u delta a r w
numbers_over base m u delta a r w z n d t k x some hu hm hd ha hr hw m_low delta_low a_low r_low =
    let den = base * 2 ^ 48 in
    let den_some : 0 < den = omega arith in
    let over_m = natural_number (square_den base) m (n *ℤ pos den) m_low (over_grow den den m n hm) in
    let two : (pos base *ℤ pos 2) ≤ℤ d = over_at_most den (units (pos 2)) delta (pos base *ℤ pos 2) d den_some delta_low (over_units base (pos 2)) hd in
    let e = as_natural den delta d (omega (arith, ints)) hd in
    let rho = e.0 - base in
    let twice : 2 * base ≤ e.0 = omega (arith, ints, two, e.1) in
    let back : e.0 ≡ rho + base = omega arith in
    let reach_is : pos e.0 -ℤ (pos base *ℤ pos 1) ≡ pos rho = omega (arith, ints) in
    let over_near = over_difference den delta (units (pos 1)) (pos e.0) (pos base *ℤ pos 1) e.2 (over_units base (pos 1)) in
    let s = natural_number den a t a_low ha in
    let q = natural_number den r k (omega (arith, ints)) hr in
    record {
      some = some;
      z = z;
      mu = over_m.number;
      rho = rho;
      s = s.number;
      k = q.number;
      x = x;
      k_some = omega (arith, ints, positive_over den r (pos q.number) r_low den_some q.over);
      voltage = hu;
      mean = over_m.over;
      over_delta = subst (λ (y : ℕ). IsOver den delta (pos y)) back e.2;
      near = subst (λ (y : ℤ). IsOver den (delta -ℚ units (pos 1)) y) reach_is over_near;
      rho_low = omega arith;
      over_a = s.over;
      over_r = q.over;
      over_w = hw;
    }

point_narrow_over : (e base : ℕ) (M : Ends) (v : Interval) (m u delta a r w : Fraction) (p : Point) → Numbers base m u delta a r w → e ≤ 17
    → delta ≤ℚ (hundredth +ℚ units (pos 2)) → IsNear (delta -ℚ units (pos 1)) v u → size u ≤ℚ a → a ≤ℚ whole (pos 4) → r ≤ℚ divisor m
    → IsNearMean e (delta -ℚ units (pos 1)) a M m → CoversOutput delta a r w → IsPoint (output_of (squares_of v) (divisor_of M)) p
    → (output_of (squares_of v) (divisor_of M)).lo ≤ (output_of (squares_of v) (divisor_of M)).hi → units p.radius ≤ℚ w
point_narrow_over e base M v m u delta a r w p n he delta_high near most a_high above mean covers point order =
    let den = base * 2 ^ 48 in
    let D = square_den base in
    let hd : 0 < den = omega (arith, n.some) in
    let hD : 0 < D = mul-pos hd hd in
    let eq = square_parts base in
    let reach = delta -ℚ units (pos 1) in
    let nu = unsigned_abs n.z * unsigned_abs n.z in
    let kappa = reach_number n.s n.rho in
    let high = below_own den delta (hundredth +ℚ units (pos 2)) (pos (n.rho + base)) n.over_delta delta_high in
    let within : pos (unsigned_abs n.z) ≤ℤ pos n.s = over_at_most den (size u) a _ _ hd most (over_size den u n.z n.voltage) n.over_a in
    let z_small : unsigned_abs n.z ≤ n.s = omega (arith, ints) in
    let four : pos n.s ≤ℤ (pos den *ℤ pos 4) = over_at_most den a (whole (pos 4)) _ _ hd a_high n.over_a (over_whole den (pos 4)) in
    let over_k = over_reach den n.rho n.s reach a n.near n.over_a in
    let low_mean = low_numbers e D (base * base * 2 ^ 32) n.mu M.lo kappa reach a m hD eq n.mean over_k mean.low in
    let high_mean = high_numbers e D (base * base * 2 ^ 32) n.mu M.hi kappa reach a m hD eq n.mean over_k mean.high in
    let loss = mul-le-mul_right D (loss_small e he) in
    let sample : Sample base n.s n.rho n.mu nu M (squares_of v) = record {
      some = n.some;
      s_small = omega (arith, ints, four);
      rho_low = n.rho_low;
      rho_high = omega (arith, ints, high);
      nu_small = mul-le _ _ _ _ z_small z_small;
      low = omega arith;
      high = omega arith;
      top = square_top v reach u base n.rho n.s n.z n.some n.voltage n.near z_small near;
      foot = square_foot v reach u base n.rho n.s n.z n.some n.voltage n.near z_small near;
    } in
    let out = output_of (squares_of v) (divisor_of M) in
    let half = (out.lo + out.hi) / 2 in
    let radius = out.hi - half in
    let radius_is : p.radius ≡ pos radius = omega (arith, ints, point.mid, point.radius) in
    let over_div = over_divisor D (quarter_number base) n.mu m (omega arith) n.mean in
    let over_r = over_grow den den r (pos n.k) n.over_r in
    let r_below : pos (n.k * den) ≤ℤ pos (max n.mu (quarter_number base)) = over_at_most D r (divisor m) (pos n.k *ℤ pos den) _ hD above over_r over_div in
    let bound = radius_in_run base n.s n.rho n.mu nu radius (n.k * den) M (squares_of v) sample (omega arith) order (omega (arith, ints, r_below)) in
    let E = reach_number n.s (n.rho + base) in
    let over_E = over_reach den (n.rho + base) n.s delta a n.over_delta n.over_a in
    let sum = over_sum D r (a *ℚ a) (pos n.k *ℤ pos den) (pos n.s *ℤ pos n.s) over_r (over_product den den a a (pos n.s) (pos n.s) n.over_a n.over_a) in
    let left = over_product D D _ _ _ _ (over_times D (pos 2) (square_reach delta a) (pos E) over_E) sum in
    let rs = over_product den den r r (pos n.k) (pos n.k) n.over_r n.over_r in
    let tiny = over_grow (den * D) den _ _ (over_product den D _ _ _ _ (over_units base (pos 256)) rs) in
    let right = over_grow (den * D) den _ _ (over_product den D w (r *ℚ r) _ _ n.over_w rs) in
    let dens : D * D ≡ den * D * den = omega arith in
    let left_grown = subst (λ (d : ℕ). IsOver d (whole (pos 2) *ℚ square_reach delta a *ℚ (r +ℚ a *ℚ a)) (pos (2 * E * (n.k * den + n.s * n.s)))) dens left in
    let cross = over_at_most (den * D * den) _ _ _ _ (mul-pos (mul-pos hd hD) hd) covers.covers (over_sum (den * D * den) _ _ _ _ left_grown tiny) right in
    let step = covered base den E (n.s * n.s) n.k n.x refl cross radius (mul-pos (mul-pos n.k_some n.k_some) hd) bound in
    own_above den (units p.radius) w n.x hd n.over_w (rw radius_is step)

point_narrow : (e : ℕ) (M : Ends) (v : Interval) (m u delta a r w : Fraction) (p : Point) → e ≤ 17 → pos 0 ≤ℤ m.num → units (pos 2) ≤ℚ delta → delta ≤ℚ (hundredth +ℚ units (pos 2))
    → IsNear (delta -ℚ units (pos 1)) v u → size u ≤ℚ a → a ≤ℚ whole (pos 4) → pos 0 <ℤ r.num → r ≤ℚ divisor m
    → IsNearMean e (delta -ℚ units (pos 1)) a M m → CoversOutput delta a r w → IsPoint (output_of (squares_of v) (divisor_of M)) p
    → (output_of (squares_of v) (divisor_of M)).lo ≤ (output_of (squares_of v) (divisor_of M)).hi → units p.radius ≤ℚ w
point_narrow e M v m u delta a r w p he m_low delta_low delta_high near most a_high r_low above mean covers point order =
    let fs : List Fraction = u ∷ m ∷ delta ∷ a ∷ r ∷ w ∷ [] in
    let k = numerators fs in
    let n =
    numbers_over k.base m u delta a r w _ _ _ _ _ _ k.some (number fs k 0 (omega arith)) (number fs k 1 (omega arith)) (number fs k 2 (omega arith))
    (number fs k 3 (omega arith)) (number fs k 4 (omega arith)) (number fs k 5 (omega arith)) m_low delta_low (size_natural u a most) r_low in
    point_narrow_over e k.base M v m u delta a r w p n he delta_high near most a_high above mean covers point order

near_natural : (delta : Fraction) → units (pos 2) ≤ℚ delta → pos 0 ≤ℤ (delta -ℚ units (pos 1)).num
near_natural delta h = omega (arith, ints, h.cross)

-- for the newest sample of a run near the intervals
pub point_is_narrow : (e : ℕ) (vs : List Interval) (v : Interval) (us means ys : List Fraction) (delta a r w : Fraction) (p : Point) → 16 ≤ e → e ≤ 17
    → IsAdapted e us means ys → AreClose delta a r (v ∷ vs) us means → CoversOutput delta a r w → IsPoint (newest_output e vs v) p
    → (newest_output e vs v).lo ≤ (newest_output e vs v).hi → units p.radius ≤ℚ w
point_is_narrow e vs v [] means ys delta a r w p low high h close covers point order = absurd close.near
point_is_narrow e vs v (u ∷ us) [] ys delta a r w p low high h close covers point order = absurd h
point_is_narrow e vs v (u ∷ us) (m ∷ []) ys delta a r w p low high h close covers point order = absurd h
point_is_narrow e vs v (u ∷ us) (next ∷ m ∷ means) [] delta a r w p low high h close covers point order = absurd h
point_is_narrow e vs v (u ∷ us) (next ∷ m ∷ means) (y ∷ ys) delta a r w p low high h close covers point order =
    let most : size u ≤ℚ a = close.sizes 0 u (omega arith) in
    let above : r ≤ℚ divisor m = close.divisors 0 m (omega arith) in
    let mean =
    mean_near e (delta -ℚ units (pos 1)) a vs us means ys m low (near_natural delta close.delta_low) (size_natural u a most) close.near.1
    (λ i d k. close.sizes (suc i) d (omega arith)) h.2 in
    point_narrow e (mean_of e vs) v m u delta a r w p high (mean_natural e us means ys m h.2) close.delta_low close.delta_high close.near.0 most close.a_high
    close.r_low above mean covers point order
