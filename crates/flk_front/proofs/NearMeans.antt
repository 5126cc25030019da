-- Where the ends of the intervals are near the voltages, the rounded means are not far from the exact ones.
use Rattle.std.proofs.Common.{◌≡◌, ℕ, ◌+◌, ◌-◌, ◌*◌, ◌/◌, ◌^◌, ◌<◌, ◌≤◌, List, [], ◌∷◌, All, ℤ, pos, ◌*ℤ◌, ◌≤ℤ◌, sym, ap, subst, ◌∙◌, arith}
use Rattle.std.specs.Prelude.{suc}
use Rattle.std.specs.Int.{div_ceil}
use Rattle.std.specs.Int.RustNames.{unsigned_abs}
use Rattle.std.specs.List.{AllZip}
use Rattle.std.proofs.lemmas.Int.{ints}
use Rattle.std.proofs.lemmas.Nat.{pow_pos}
use Rattle.std.proofs.Math.Nat.{div-le_self, mul-le-mul_left, mul-pos, le_of_mul-le-mul_left}
use Rattle.std.proofs.Math.IntN.{*ℤ_comm}
use Rattle.flk_exact.specs.Fraction.{Fraction, ◌≤ℚ◌, ◌≈ℚ◌, ◌+ℚ◌, size, whole}
use Rattle.flk_exact.proofs.NumeratorLemmas.{IsOver, over_sum, over_times, over_product, over_size, over_at_most, at_most_over, natural_number, numerators, number}
use Rattle.flk_num.specs.declared.interval.Interval.{Interval}
use Rattle.flk_num.specs.Interval.{IsNear}
use Rattle.flk_front.specs.declared.ends.Ends.{Ends}
use Rattle.flk_front.specs.Adaptor.{IsNextMean, IsAdapted}
use Rattle.flk_front.specs.Rounded.{squares_of, next_mean, mean_of}
use Rattle.flk_front.specs.Width.{square_reach}
use Rattle.flk_front.proofs.MeanSteps.{upper_near, lower_near}
use Rattle.flk_front.proofs.SquareSteps.{floor_greatest, ceil_least, square_top, square_foot}
use Rattle.flk_front.proofs.MeanLemmas.{powers, ceil_below, less, step, mean_natural}
use Rattle.flk_front.proofs.HeldMeans.{fine}

-- a sum for the rounding of so many samples, and the reach of the squares
abbrev pub slack : ℕ → Fraction → Fraction → Fraction
slack e reach a = square_reach reach a +ℚ fine (2 * 2 ^ e)

-- neither end is farther from m than the reach of the squares and what is lost to rounding
pub record IsNearMean (e : ℕ) (reach a : Fraction) (M : Ends) (m : Fraction) : Type 0 where
  pub low : m ≤ℚ (fine M.lo +ℚ slack e reach a)
  pub high : fine M.hi ≤ℚ (m +ℚ slack e reach a)

-- ---- numerators: D is k * 2^64

over_fine : (k n : ℕ) → IsOver (k * 2 ^ 64) (fine n) (pos (k * n))
over_fine k n = record { is = omega (arith, ints) }

pub over_reach : (delta rho s : ℕ) (reach a : Fraction) → IsOver delta reach (pos rho) → IsOver delta a (pos s)
    → IsOver (delta * delta) (square_reach reach a) (pos (2 * s * rho + rho * rho))
over_reach delta rho s reach a hr ha =
    over_sum (delta * delta) _ _ _ _ (over_product delta delta _ reach _ _ (over_times delta (pos 2) a (pos s) ha) hr) (over_product delta delta reach reach _ _ hr hr)

over_slack : (e D k kappa : ℕ) (reach a : Fraction) → D ≡ k * 2 ^ 64 → IsOver D (square_reach reach a) (pos kappa) → IsOver D (slack e reach a) (pos (kappa + k * (2 * 2 ^ e)))
over_slack e D k kappa reach a eq h =
    over_sum D (square_reach reach a) (fine (2 * 2 ^ e)) (pos kappa) (pos (k * (2 * 2 ^ e))) h
    (subst (λ (n : ℕ). IsOver n (fine (2 * 2 ^ e)) (pos (k * (2 * 2 ^ e)))) (sym eq) (over_fine k (2 * 2 ^ e)))

low_out : (p k D mu M kappa b : ℕ) → D ≡ k * p → mu ≤ k * M + (kappa + k * (2 * b)) → p * mu ≤ M * D + p * kappa + 2 * b * D
low_out p k D mu M kappa b e h =
    let x = mul-le-mul_left p h in
    let y : M * D ≡ M * (k * p) = ap (λ (n : ℕ). M * n) e in
    let z : 2 * b * D ≡ 2 * b * (k * p) = ap (λ (n : ℕ). 2 * b * n) e in
    omega arith

low_in : (p k D mu M kappa b : ℕ) → 0 < p → D ≡ k * p → p * mu ≤ M * D + p * kappa + 2 * b * D → mu ≤ k * M + (kappa + k * (2 * b))
low_in p k D mu M kappa b some e h =
    let y : M * D ≡ M * (k * p) = ap (λ (n : ℕ). M * n) e in
    let z : 2 * b * D ≡ 2 * b * (k * p) = ap (λ (n : ℕ). 2 * b * n) e in
    le_of_mul-le-mul_left {k = p} (omega arith) some

high_out : (p k D mu M kappa b : ℕ) → D ≡ k * p → k * M ≤ mu + (kappa + k * (2 * b)) → M * D ≤ p * mu + p * kappa + 2 * b * D
high_out p k D mu M kappa b e h =
    let x = mul-le-mul_left p h in
    let y : M * D ≡ M * (k * p) = ap (λ (n : ℕ). M * n) e in
    let z : 2 * b * D ≡ 2 * b * (k * p) = ap (λ (n : ℕ). 2 * b * n) e in
    omega arith

high_in : (p k D mu M kappa b : ℕ) → 0 < p → D ≡ k * p → M * D ≤ p * mu + p * kappa + 2 * b * D → k * M ≤ mu + (kappa + k * (2 * b))
high_in p k D mu M kappa b some e h =
    let y : M * D ≡ M * (k * p) = ap (λ (n : ℕ). M * n) e in
    let z : 2 * b * D ≡ 2 * b * (k * p) = ap (λ (n : ℕ). 2 * b * n) e in
    le_of_mul-le-mul_left {k = p} (omega arith) some

pub square_parts : (base : ℕ) → base * 2 ^ 48 * (base * 2 ^ 48) ≡ base * base * 2 ^ 32 * 2 ^ 64
square_parts base = omega arith

-- the low end in natural numbers, and back
pub low_numbers : (e D k mu M kappa : ℕ) (reach a m : Fraction) → 0 < D → D ≡ k * 2 ^ 64 → IsOver D m (pos mu) → IsOver D (square_reach reach a) (pos kappa)
    → m ≤ℚ (fine M +ℚ slack e reach a) → 2 ^ 64 * mu ≤ M * D + 2 ^ 64 * kappa + 2 * 2 ^ e * D
low_numbers e D k mu M kappa reach a m hD eq hm hk h =
    let over_M : IsOver D (fine M) (pos (k * M)) = subst (λ (n : ℕ). IsOver n (fine M) (pos (k * M))) (sym eq) (over_fine k M) in
    let x = over_at_most D _ _ _ _ hD h hm (over_sum D (fine M) (slack e reach a) (pos (k * M)) _ over_M (over_slack e D k kappa reach a eq hk)) in
    low_out (2 ^ 64) k D mu M kappa (2 ^ e) eq (omega (arith, ints))

low_fractions : (e D k mu M kappa : ℕ) (reach a m : Fraction) → 0 < D → D ≡ k * 2 ^ 64 → IsOver D m (pos mu) → IsOver D (square_reach reach a) (pos kappa)
    → 2 ^ 64 * mu ≤ M * D + 2 ^ 64 * kappa + 2 * 2 ^ e * D → m ≤ℚ (fine M +ℚ slack e reach a)
low_fractions e D k mu M kappa reach a m hD eq hm hk h =
    let over_M : IsOver D (fine M) (pos (k * M)) = subst (λ (n : ℕ). IsOver n (fine M) (pos (k * M))) (sym eq) (over_fine k M) in
    let x = low_in (2 ^ 64) k D mu M kappa (2 ^ e) (omega arith) eq h in
    at_most_over D _ _ (pos mu) _ hD (omega (arith, ints)) hm (over_sum D (fine M) (slack e reach a) (pos (k * M)) _ over_M (over_slack e D k kappa reach a eq hk))

pub high_numbers : (e D k mu M kappa : ℕ) (reach a m : Fraction) → 0 < D → D ≡ k * 2 ^ 64 → IsOver D m (pos mu) → IsOver D (square_reach reach a) (pos kappa)
    → fine M ≤ℚ (m +ℚ slack e reach a) → M * D ≤ 2 ^ 64 * mu + 2 ^ 64 * kappa + 2 * 2 ^ e * D
high_numbers e D k mu M kappa reach a m hD eq hm hk h =
    let over_M : IsOver D (fine M) (pos (k * M)) = subst (λ (n : ℕ). IsOver n (fine M) (pos (k * M))) (sym eq) (over_fine k M) in
    let x = over_at_most D _ _ _ _ hD h over_M (over_sum D m (slack e reach a) (pos mu) _ hm (over_slack e D k kappa reach a eq hk)) in
    high_out (2 ^ 64) k D mu M kappa (2 ^ e) eq (omega (arith, ints))

high_fractions : (e D k mu M kappa : ℕ) (reach a m : Fraction) → 0 < D → D ≡ k * 2 ^ 64 → IsOver D m (pos mu) → IsOver D (square_reach reach a) (pos kappa)
    → M * D ≤ 2 ^ 64 * mu + 2 ^ 64 * kappa + 2 * 2 ^ e * D → fine M ≤ℚ (m +ℚ slack e reach a)
high_fractions e D k mu M kappa reach a m hD eq hm hk h =
    let over_M : IsOver D (fine M) (pos (k * M)) = subst (λ (n : ℕ). IsOver n (fine M) (pos (k * M))) (sym eq) (over_fine k M) in
    let x = high_in (2 ^ 64) k D mu M kappa (2 ^ e) (omega arith) eq h in
    at_most_over D _ _ (pos (k * M)) _ hD (omega (arith, ints)) over_M (over_sum D m (slack e reach a) (pos mu) _ hm (over_slack e D k kappa reach a eq hk))

-- ---- one sample

near_below : (e M Q D mu mu' nu kappa : ℕ) → 16 ≤ e → (less e + 1) * mu' ≡ less e * mu + nu
    → 2 ^ 64 * mu ≤ M * D + 2 ^ 64 * kappa + 2 * 2 ^ e * D → 2 ^ 48 * nu ≤ Q * D + 2 ^ 48 * kappa + D
    → 2 ^ 64 * mu' ≤ (M - div_ceil M (2 ^ e) + Q / 2 ^ (e - 16)) * D + 2 ^ 64 * kappa + 2 * 2 ^ e * D
near_below e M Q D mu mu' nu kappa he moves hM hQ =
    let some : 0 < 2 ^ e = pow_pos e in
    let gain = 2 ^ (e - 16) in
    let f = div_ceil M (2 ^ e) in
    let part = Q / gain in
    let size : less e + 1 ≡ 2 ^ e = omega arith in
    let by : (less e + 1) * f ≡ 2 ^ e * f = ap (λ (n : ℕ). n * f) size in
    let wide : 2 * (less e + 1) * D ≡ 2 * 2 ^ e * D = ap (λ (n : ℕ). 2 * n * D) size in
    let kept =
    lower_near (2 ^ 16) gain (less e) (2 ^ 48) D mu mu' nu kappa M (M - f + part) Q part f (size ∙ powers e he) moves (omega arith) hQ
    (omega (arith, ceil_least M (2 ^ e) some)) (omega (arith, floor_greatest Q gain (pow_pos (e - 16)))) (omega (arith, ceil_below M (2 ^ e) some)) in
    omega arith

near_above : (e M Q D mu mu' nu kappa : ℕ) → 16 ≤ e → (less e + 1) * mu' ≡ less e * mu + nu
    → M * D ≤ 2 ^ 64 * mu + 2 ^ 64 * kappa + 2 * 2 ^ e * D → Q * D ≤ 2 ^ 48 * nu + 2 ^ 48 * kappa + D
    → (M - M / 2 ^ e + div_ceil Q (2 ^ (e - 16))) * D ≤ 2 ^ 64 * mu' + 2 ^ 64 * kappa + 2 * 2 ^ e * D
near_above e M Q D mu mu' nu kappa he moves hM hQ =
    let some : 0 < 2 ^ e = pow_pos e in
    let gain = 2 ^ (e - 16) in
    let f = M / 2 ^ e in
    let part = div_ceil Q gain in
    let size : less e + 1 ≡ 2 ^ e = omega arith in
    let by : (less e + 1) * f ≡ 2 ^ e * f = ap (λ (n : ℕ). n * f) size in
    let wide : 2 * (less e + 1) * D ≡ 2 * 2 ^ e * D = ap (λ (n : ℕ). 2 * n * D) size in
    let kept =
    upper_near (2 ^ 16) gain (less e) (2 ^ 48) D mu mu' nu kappa M (M - f + part) Q part f (size ∙ powers e he) moves (omega arith) hQ
    (omega (arith, floor_greatest M (2 ^ e) some)) (omega (arith, ceil_least Q gain (pow_pos (e - 16)))) (omega (arith, div-le_self M (2 ^ e))) in
    omega arith

near_next_over : (e base : ℕ) (reach a : Fraction) (M : Ends) (v : Interval) (m u next : Fraction) (z x y : ℤ) (rho size_a : ℕ) → 0 < base → IsOver (base * 2 ^ 48) u z
    → IsOver (base * 2 ^ 48) m x → IsOver (base * 2 ^ 48) next y → IsOver (base * 2 ^ 48) reach (pos rho) → IsOver (base * 2 ^ 48) a (pos size_a) → 16 ≤ e → pos 0 ≤ℤ m.num
    → IsNear reach v u → size u ≤ℚ a → IsNextMean e m u next → IsNearMean e reach a M m → IsNearMean e reach a (next_mean e M (squares_of v)) next
near_next_over e base reach a M v m u next z x y rho size_a some hu hm hn hr ha he low near most h inside =
    let delta = base * 2 ^ 48 in
    let D = delta * delta in
    let hd : 0 < delta = omega arith in
    let hD : 0 < D = mul-pos hd hd in
    let eq = square_parts base in
    let k = base * base * 2 ^ 32 in
    let s = step e delta m u next z x y hd hu hm hn low h in
    let within : pos (unsigned_abs z) ≤ℤ pos size_a = over_at_most delta (size u) a _ _ hd most (over_size delta u z hu) ha in
    let z_small : unsigned_abs z ≤ size_a = omega (arith, ints) in
    let kappa = 2 * size_a * rho + rho * rho in
    let over_k = over_reach delta rho size_a reach a hr ha in
    let q = squares_of v in
    let low_before = low_numbers e D k s.mu M.lo kappa reach a m hD eq s.before over_k inside.low in
    let high_before = high_numbers e D k s.mu M.hi kappa reach a m hD eq s.before over_k inside.high in
    let foot = square_foot v reach u base rho size_a z some hu hr z_small near in
    let top = square_top v reach u base rho size_a z some hu hr z_small near in
    record {
      low = low_fractions e D k s.nu _ kappa reach a next hD eq s.after over_k (near_below e M.lo q.lo D s.mu s.nu _ kappa he s.moves low_before foot);
      high = high_fractions e D k s.nu _ kappa reach a next hD eq s.after over_k (near_above e M.hi q.hi D s.mu s.nu _ kappa he s.moves high_before top);
    }

near_next : (e : ℕ) (reach a : Fraction) (M : Ends) (v : Interval) (m u next : Fraction) → 16 ≤ e → pos 0 ≤ℤ reach.num → pos 0 ≤ℤ a.num → pos 0 ≤ℤ m.num
    → IsNear reach v u → size u ≤ℚ a → IsNextMean e m u next → IsNearMean e reach a M m → IsNearMean e reach a (next_mean e M (squares_of v)) next
near_next e reach a M v m u next he reach_low a_low low near most h inside =
    let fs : List Fraction = u ∷ m ∷ next ∷ reach ∷ a ∷ [] in
    let n = numerators fs in
    let r = natural_number (n.base * 2 ^ 48) reach _ reach_low (number fs n 3 (omega arith)) in
    let t = natural_number (n.base * 2 ^ 48) a _ a_low (number fs n 4 (omega arith)) in
    near_next_over e n.base reach a M v m u next _ _ _ r.number t.number n.some (number fs n 0 (omega arith)) (number fs n 1 (omega arith)) (number fs n 2 (omega arith))
    r.over t.over he low near most h inside

-- ---- and all of them

one_over : (delta : ℕ) (m : Fraction) → m ≈ℚ whole (pos 1) → IsOver delta m (pos delta)
one_over delta m h =
    let e : m.num ≡ pos m.den = omega (arith, ints, h.cross) in
    record { is = ap (λ (x : ℤ). x *ℤ pos delta) e ∙ *ℤ_comm (pos m.den) (pos delta) }

-- before the first sample the mean and both ends are 1
near_start_over : (e base : ℕ) (reach a m : Fraction) (rho size_a : ℕ) → 0 < base → IsOver (base * 2 ^ 48) reach (pos rho) → IsOver (base * 2 ^ 48) a (pos size_a)
    → m ≈ℚ whole (pos 1) → IsNearMean e reach a (record { lo = 2 ^ 64; hi = 2 ^ 64 }) m
near_start_over e base reach a m rho size_a some hr ha h =
    let delta = base * 2 ^ 48 in
    let D = delta * delta in
    let hd : 0 < delta = omega arith in
    let hD : 0 < D = mul-pos hd hd in
    let eq = square_parts base in
    let k = base * base * 2 ^ 32 in
    let kappa = 2 * size_a * rho + rho * rho in
    let over_m = one_over D m h in
    let over_k = over_reach delta rho size_a reach a hr ha in
    record {
      low = low_fractions e D k D (2 ^ 64) kappa reach a m hD eq over_m over_k (omega arith);
      high = high_fractions e D k D (2 ^ 64) kappa reach a m hD eq over_m over_k (omega arith);
    }

near_start : (e : ℕ) (reach a m : Fraction) → pos 0 ≤ℤ reach.num → pos 0 ≤ℤ a.num → m ≈ℚ whole (pos 1) → IsNearMean e reach a (record { lo = 2 ^ 64; hi = 2 ^ 64 }) m
near_start e reach a m reach_low a_low h =
    let fs : List Fraction = reach ∷ a ∷ [] in
    let n = numerators fs in
    let r = natural_number (n.base * 2 ^ 48) reach _ reach_low (number fs n 0 (omega arith)) in
    let t = natural_number (n.base * 2 ^ 48) a _ a_low (number fs n 1 (omega arith)) in
    near_start_over e n.base reach a m r.number t.number n.some r.over t.over h

pub mean_near : (e : ℕ) (reach a : Fraction) (vs : List Interval) (us means ys : List Fraction) (m : Fraction) → 16 ≤ e → pos 0 ≤ℤ reach.num → pos 0 ≤ℤ a.num
    → AllZip (IsNear reach) vs us → All (λ u. size u ≤ℚ a) us → IsAdapted e us (m ∷ means) ys → IsNearMean e reach a (mean_of e vs) m
mean_near e reach a [] [] [] [] m he reach_low a_low near most h = near_start e reach a m reach_low a_low h
mean_near e reach a [] [] [] (y ∷ ys) m he reach_low a_low near most h = absurd h
mean_near e reach a [] [] (n ∷ means) ys m he reach_low a_low near most h = absurd h
mean_near e reach a [] (u ∷ us) means ys m he reach_low a_low near most h = absurd near
mean_near e reach a (v ∷ vs) [] means ys m he reach_low a_low near most h = absurd near
mean_near e reach a (v ∷ vs) (u ∷ us) [] ys m he reach_low a_low near most h = absurd h
mean_near e reach a (v ∷ vs) (u ∷ us) (n ∷ means) [] m he reach_low a_low near most h = absurd h
mean_near e reach a (v ∷ vs) (u ∷ us) (n ∷ means) (y ∷ ys) m he reach_low a_low near most h =
    near_next e reach a (mean_of e vs) v n u m he reach_low a_low (mean_natural e us means ys n h.2) near.0 (most 0 u (omega arith)) h.0
    (mean_near e reach a vs us means ys n he reach_low a_low near.1 (λ i d low. most (suc i) d (omega arith)) h.2)
