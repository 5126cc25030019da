-- The rounded means hold the exact ones.
use Rattle.std.proofs.Common.{◌≡◌, ℕ, ◌+◌, ◌-◌, ◌*◌, ◌/◌, ◌^◌, ◌<◌, ◌≤◌, List, [], ◌∷◌, ℤ, pos, ◌≤ℤ◌, ap, ◌∙◌, lit<, arith}
use Rattle.std.specs.Int.{div_ceil}
use Rattle.std.specs.Int.RustNames.{unsigned_abs}
use Rattle.std.proofs.lemmas.Int.{ints}
use Rattle.std.proofs.lemmas.Nat.{pow_pos}
use Rattle.std.proofs.Math.Nat.{div-le_self, div-mul-le_self, mul-pos}
use Rattle.flk_exact.specs.Fraction.{Fraction, ◌≤ℚ◌}
use Rattle.flk_exact.proofs.NumeratorLemmas.{IsOver, above_own, below_own, own_above, own_below, numerators, number}
use Rattle.flk_num.specs.declared.interval.Interval.{Interval}
use Rattle.flk_num.specs.Interval.{Holds, HoldEach}
use Rattle.flk_front.specs.declared.ends.Ends.{Ends}
use Rattle.flk_front.specs.Adaptor.{IsNextMean, IsAdapted}
use Rattle.flk_front.specs.Rounded.{squares_of, next_mean, mean_of}
use Rattle.flk_front.proofs.MeanSteps.{upper_kept, lower_kept}
use Rattle.flk_front.proofs.SquareSteps.{ceil_within, square_above, square_below}
use Rattle.flk_front.proofs.MeanLemmas.{powers, ceil_below, less, Step, step, mean_natural}

-- units of 2^-64
abbrev pub fine : ℕ → Fraction
fine n = record { num = pos n; den = 2 ^ 64; positive = lit< tt }

-- m lies between the two ends
pub record IsHeld (M : Ends) (m : Fraction) : Type 0 where
  pub low : fine M.lo ≤ℚ m
  pub high : m ≤ℚ fine M.hi

step_below : (e M Q delta : ℕ) (m next : Fraction) (z : ℤ) → 16 ≤ e → 0 < delta → Step e m next delta z → fine M ≤ℚ m
    → Q * (delta * delta) ≤ 2 ^ 48 * (unsigned_abs z * unsigned_abs z) → fine (M - div_ceil M (2 ^ e) + Q / 2 ^ (e - 16)) ≤ℚ next
step_below e M Q delta m next z he hd s h hQ =
    let square = delta * delta in
    let some : 0 < 2 ^ e = pow_pos e in
    let gain = 2 ^ (e - 16) in
    let f = div_ceil M (2 ^ e) in
    let part = Q / gain in
    let size : less e + 1 ≡ 2 ^ e = omega arith in
    let by : (less e + 1) * f ≡ 2 ^ e * f = ap (λ (n : ℕ). n * f) size in
    let hM = above_own square (fine M) m (pos s.mu) s.before h in
    let kept =
    lower_kept (2 ^ 16) gain (less e) (2 ^ 48) square s.mu s.nu (unsigned_abs z * unsigned_abs z) M (M - f + part) Q part f (size ∙ powers e he) s.moves (omega (arith, ints)) hQ
    (omega (arith, ceil_within M (2 ^ e) some)) (omega (arith, div-mul-le_self Q gain)) (omega (arith, ceil_below M (2 ^ e) some)) in
    own_above square (fine (M - f + part)) next (pos s.nu) (mul-pos hd hd) s.after (omega (arith, ints))

step_above : (e M Q delta : ℕ) (m next : Fraction) (z : ℤ) → 16 ≤ e → 0 < delta → Step e m next delta z → m ≤ℚ fine M
    → 2 ^ 48 * (unsigned_abs z * unsigned_abs z) ≤ Q * (delta * delta) → next ≤ℚ fine (M - M / 2 ^ e + div_ceil Q (2 ^ (e - 16)))
step_above e M Q delta m next z he hd s h hQ =
    let square = delta * delta in
    let some : 0 < 2 ^ e = pow_pos e in
    let gain = 2 ^ (e - 16) in
    let f = M / 2 ^ e in
    let part = div_ceil Q gain in
    let size : less e + 1 ≡ 2 ^ e = omega arith in
    let by : (less e + 1) * f ≡ 2 ^ e * f = ap (λ (n : ℕ). n * f) size in
    let hM = below_own square m (fine M) (pos s.mu) s.before h in
    let kept =
    upper_kept (2 ^ 16) gain (less e) (2 ^ 48) square s.mu s.nu (unsigned_abs z * unsigned_abs z) M (M - f + part) Q part f (size ∙ powers e he) s.moves (omega (arith, ints)) hQ
    (omega (arith, div-mul-le_self M (2 ^ e))) (omega (arith, ceil_within Q gain (pow_pos (e - 16)))) (omega (arith, div-le_self M (2 ^ e))) in
    own_below square next (fine (M - f + part)) (pos s.nu) (mul-pos hd hd) s.after (omega (arith, ints))

held_next_over : (e delta : ℕ) (M : Ends) (v : Interval) (m u next : Fraction) (z x y : ℤ) → 0 < delta → IsOver delta u z → IsOver delta m x → IsOver delta next y
    → 16 ≤ e → pos 0 ≤ℤ m.num → Holds v u → IsNextMean e m u next → IsHeld M m → IsHeld (next_mean e M (squares_of v)) next
held_next_over e delta M v m u next z x y hd hu hm hn he low held h inside =
    let s = step e delta m u next z x y hd hu hm hn low h in
    record {
      low = step_below e M.lo (squares_of v).lo delta m next z he hd s inside.low (square_below v u delta z hd hu held);
      high = step_above e M.hi (squares_of v).hi delta m next z he hd s inside.high (square_above v u delta z hd hu held);
    }

held_next : (e : ℕ) (M : Ends) (v : Interval) (m u next : Fraction) → 16 ≤ e → pos 0 ≤ℤ m.num → Holds v u → IsNextMean e m u next → IsHeld M m
    → IsHeld (next_mean e M (squares_of v)) next
held_next e M v m u next he low held h inside =
    let fs : List Fraction = u ∷ m ∷ next ∷ [] in
    let k = numerators fs in
    held_next_over e (k.base * 2 ^ 48) M v m u next _ _ _ (omega (arith, k.some)) (number fs k 0 (omega arith)) (number fs k 1 (omega arith))
    (number fs k 2 (omega arith)) he low held h inside

-- the mean of every run in the intervals
pub mean_held : (e : ℕ) (vs : List Interval) (us means ys : List Fraction) (m : Fraction) → 16 ≤ e → HoldEach vs us → IsAdapted e us (m ∷ means) ys
    → IsHeld (mean_of e vs) m
mean_held e [] [] [] [] m he held h = record { low = record { cross = omega (arith, ints, h.cross) }; high = record { cross = omega (arith, ints, h.cross) } }
mean_held e [] [] [] (y ∷ ys) m he held h = absurd h
mean_held e [] [] (n ∷ means) ys m he held h = absurd h
mean_held e [] (u ∷ us) means ys m he held h = absurd held
mean_held e (v ∷ vs) [] means ys m he held h = absurd held
mean_held e (v ∷ vs) (u ∷ us) [] ys m he held h = absurd h
mean_held e (v ∷ vs) (u ∷ us) (n ∷ means) [] m he held h = absurd h
mean_held e (v ∷ vs) (u ∷ us) (n ∷ means) (y ∷ ys) m he held h =
    held_next e (mean_of e vs) v n u m he (mean_natural e us means ys n h.2) held.0 h.0 (mean_held e vs us means ys n he held.1 h.2)
