-- The rounded level holds the exact level of every signal in the points.
use Rattle.std.proofs.Common.{◌≡◌, ℕ, ◌+◌, ◌-◌, ◌*◌, ◌^◌, ◌<◌, ◌≤◌, List, [], ◌∷◌, ℤ, pos, ◌+ℤ◌, ◌-ℤ◌, ◌*ℤ◌, ◌≤ℤ◌, refl, sym, subst, arith}
use Rattle.std.specs.Int.RustNames.{unsigned_abs}
use Rattle.std.specs.List.{AllZip}
use Rattle.std.proofs.lemmas.Int.{ints}
use Rattle.std.proofs.lemmas.Nat.{mul-le}
use Rattle.std.proofs.Math.Nat.{div-mul-le_self, mul-pos}
use Rattle.flk_exact.specs.Fraction.{Fraction, ◌≤ℚ◌, ◌-ℚ◌, ◌*ℚ◌, units}
use Rattle.flk_exact.proofs.WholeLemmas.{cancel_≤}
use Rattle.flk_exact.proofs.ProductLemmas.{lin, distrib, sub_scaled}
use Rattle.flk_exact.proofs.NumeratorLemmas.{IsOver, over_grow, over_units, over_difference, over_times, over_size, over_same, over_at_most, at_most_over, above_own, below_own, own_above, own_below, as_natural, numerators, number}
use Rattle.flk_num.specs.declared.interval.Interval.{Interval}
use Rattle.flk_num.specs.Interval.{Holds, HoldEach}
use Rattle.flk_num.specs.Square.{least_size, greatest_size}
use Rattle.flk_num.proofs.SizeLemmas.{least_held, greatest_held}
use Rattle.flk_front.specs.declared.point.Point.{Point}
use Rattle.flk_front.specs.Front.{IsWithin}
use Rattle.flk_front.proofs.SquareSteps.{ceil_within}
use Rattle.flk_front.proofs.MeanLemmas.{square_over}
use Rattle.flk_stat.specs.declared.ends.Ends.{Ends}
use Rattle.flk_stat.specs.Smoothing.{scale, IsNextLevel, newest_level, AreLevels}
use Rattle.flk_stat.specs.Rounded.{squares_of, scaled_of, next_level, level_after, IsLevel, AreLevelIntervals}
use Rattle.flk_stat.proofs.SmoothingSteps.{scaled_below, scaled_above, low_kept, high_kept, natural_mean}

-- ---- what a point says of a signal, over a denominator that 2^48 divides

near_numbers : (base : ℕ) (w : Point) (x : Fraction) (n : ℤ) → 0 < base → IsOver (base * 2 ^ 48) x n → IsWithin w x
    → pos (unsigned_abs (n -ℤ pos base *ℤ w.mid)) ≤ℤ (pos base *ℤ w.radius)
near_numbers base w x n some over h =
    let delta = base * 2 ^ 48 in
    over_at_most delta _ (units w.radius) _ (pos base *ℤ w.radius) (omega arith) h.within
    (over_size delta _ _ (over_difference delta x (units w.mid) n (pos base *ℤ w.mid) over (over_units base w.mid))) (over_units base w.radius)

-- the point as an interval
record Reach (w : Point) (x : Fraction) : Type 0 where
  interval : Interval
  lo : interval.lo ≡ w.mid -ℤ w.radius
  hi : interval.hi ≡ w.mid +ℤ w.radius
  holds : Holds interval x

reach : (base : ℕ) (w : Point) (x : Fraction) (n : ℤ) → 0 < base → IsOver (base * 2 ^ 48) x n → IsWithin w x → Reach w x
reach base w x n some over h =
    let delta = base * 2 ^ 48 in
    let near = near_numbers base w x n some over h in
    let natural : pos 0 ≤ℤ w.radius = cancel_≤ (pos 0) w.radius base some (omega (arith, ints, near)) in
    let low = sub_scaled (pos base) w.mid w.radius in
    let high = distrib (pos base) w.mid w.radius in
    record {
      interval = record { lo = w.mid -ℤ w.radius; hi = w.mid +ℤ w.radius; ordered = omega (arith, ints, natural) };
      lo = refl;
      hi = refl;
      holds = record {
        above = at_most_over delta (units (w.mid -ℤ w.radius)) x _ n (omega arith) (omega (arith, lin, near, low)) (over_units base (w.mid -ℤ w.radius)) over;
        below = at_most_over delta x (units (w.mid +ℤ w.radius)) n _ (omega arith) (omega (arith, lin, near, high)) over (over_units base (w.mid +ℤ w.radius));
      };
    }

square_scaled : (l s delta : ℕ) → l * delta ≤ s * 2 ^ 48 → l * l * (delta * delta) ≤ 2 ^ 96 * (s * s)
square_scaled l s delta h = omega (arith, mul-le (l * delta) (l * delta) (s * 2 ^ 48) (s * 2 ^ 48) h h)

square_scaled_back : (g s delta : ℕ) → s * 2 ^ 48 ≤ g * delta → 2 ^ 96 * (s * s) ≤ g * g * (delta * delta)
square_scaled_back g s delta h = omega (arith, mul-le (s * 2 ^ 48) (s * 2 ^ 48) (g * delta) (g * delta) h h)

record Squares (w : Point) (delta s : ℕ) : Type 0 where
  low : (squares_of w).lo * (delta * delta) ≤ 2 ^ 96 * (s * s)
  high : 2 ^ 96 * (s * s) ≤ (squares_of w).hi * (delta * delta)

squares_hold : (base : ℕ) (w : Point) (x : Fraction) (n : ℤ) → 0 < base → IsOver (base * 2 ^ 48) x n → IsWithin w x → Squares w (base * 2 ^ 48) (unsigned_abs n)
squares_hold base w x n some over h =
    let delta = base * 2 ^ 48 in
    let r = reach base w x n some over h in
    let hd : 0 < delta = omega arith in
    record {
      low = square_scaled (least_size (w.mid -ℤ w.radius) (w.mid +ℤ w.radius)) (unsigned_abs n) delta (rw (r.lo, r.hi) at (least_held r.interval x delta n hd over r.holds));
      high = square_scaled_back (greatest_size (w.mid -ℤ w.radius) (w.mid +ℤ w.radius)) (unsigned_abs n) delta (rw (r.lo, r.hi) at (greatest_held r.interval x delta n hd over r.holds));
    }

-- two ends around an exact level
record AreAround (ends : Ends) (p : Fraction) : Type 0 where
  above : units (pos ends.lo) ≤ℚ p
  below : p ≤ℚ units (pos ends.hi)

-- ---- the step

step_over : (c : ℕ) (base : ℕ) (E : Ends) (w : Point) (p x q : Fraction) (a n b : ℤ) → c ≤ 2 ^ 32 → 0 < base → IsOver (base * 2 ^ 48) p a → IsOver (base * 2 ^ 48) x n
    → IsOver (base * 2 ^ 48) q b → AreAround E p → IsWithin w x → IsNextLevel c p x q → AreAround (next_level c E (scaled_of (squares_of w))) q
step_over c base E w p x q a n b most some over_p over_x over_q around within next =
    let delta = base * 2 ^ 48 in
    let hd : 0 < delta = omega arith in
    let D = delta * delta in
    let hD : 0 < D = mul-pos hd hd in
    let nu = unsigned_abs n * unsigned_abs n in
    let sq = squares_hold base w x n some over_x within in
    let A : IsOver D p (a *ℤ pos delta) = over_grow delta delta p a over_p in
    let B : IsOver D q (b *ℤ pos delta) = over_grow delta delta q b over_q in
    let low = above_own D (units (pos E.lo)) p (a *ℤ pos delta) A around.above in
    let alpha = as_natural D p (a *ℤ pos delta) (omega (arith, ints, low)) A in
    let N = over_times D (pos scale) (x *ℚ x) (pos nu) (square_over delta x n over_x) in
    let left = over_times D (pos (2 ^ 32)) (q -ℚ p) (b *ℤ pos delta -ℤ pos alpha.0) (over_difference D q p (b *ℤ pos delta) (pos alpha.0) B alpha.2) in
    let right = over_times D (pos c) _ (pos (scale * nu) -ℤ pos alpha.0) (over_difference D _ p (pos (scale * nu)) (pos alpha.0) N alpha.2) in
    let eq : pos (2 ^ 32) *ℤ (b *ℤ pos delta -ℤ pos alpha.0) ≡ pos c *ℤ (pos (scale * nu) -ℤ pos alpha.0) = over_same D _ _ _ _ hD next.is left right in
    let rest = 2 ^ 32 - c in
    let mean = natural_mean c rest alpha.0 (scale * nu) (b *ℤ pos delta) (omega arith) eq in
    let over_beta : IsOver D q (pos mean.beta) = subst (λ (z : ℤ). IsOver D q z) mean.same B in
    let Z = scaled_of (squares_of w) in
    let above_alpha = above_own D (units (pos E.lo)) p (pos alpha.0) alpha.2 around.above in
    let below_alpha = below_own D p (units (pos E.hi)) (pos alpha.0) alpha.2 around.below in
    let foot = low_kept (2 ^ 32) (2 ^ 48) c rest D alpha.0 mean.beta (scale * nu) E.lo Z.lo (next_level c E Z).lo (omega arith) mean.is (omega (arith, ints, above_alpha))
    (scaled_below (squares_of w).lo scale nu D sq.low) (div-mul-le_self (rest * E.lo + c * Z.lo) (2 ^ 32)) in
    let top = high_kept (2 ^ 32) (2 ^ 48) c rest D alpha.0 mean.beta (scale * nu) E.hi Z.hi (next_level c E Z).hi (omega arith) mean.is (omega (arith, ints, below_alpha))
    (scaled_above (squares_of w).hi scale nu D sq.high) (ceil_within (rest * E.hi + c * Z.hi) (2 ^ 32) (omega arith)) in
    record {
      above = own_above D (units (pos (next_level c E Z).lo)) q (pos mean.beta) hD over_beta (omega (arith, ints, foot));
      below = own_below D q (units (pos (next_level c E Z).hi)) (pos mean.beta) hD over_beta (omega (arith, ints, top));
    }

step_around : (c : ℕ) (E : Ends) (w : Point) (p x q : Fraction) → c ≤ 2 ^ 32 → AreAround E p → IsWithin w x → IsNextLevel c p x q
    → AreAround (next_level c E (scaled_of (squares_of w))) q
step_around c E w p x q most around within next =
    let fs : List Fraction = p ∷ x ∷ q ∷ [] in
    let k = numerators fs in
    step_over c k.base E w p x q _ _ _ most k.some (number fs k 0 (omega arith)) (number fs k 1 (omega arith)) (number fs k 2 (omega arith)) around within next

-- ---- all samples

levels_around : (c : ℕ) (ws : List Point) (xs ps : List Fraction) → c ≤ 2 ^ 32 → AllZip IsWithin ws xs → AreLevels c xs ps → AreAround (level_after c ws) (newest_level ps)
levels_around c [] [] [] most h levels = record { above = record { cross = omega (arith, ints) }; below = record { cross = omega (arith, ints) } }
levels_around c [] [] (p ∷ ps) most h levels = absurd levels
levels_around c [] (x ∷ xs) ps most h levels = absurd h
levels_around c (w ∷ ws) [] ps most h levels = absurd h
levels_around c (w ∷ ws) (x ∷ xs) [] most h levels = absurd levels
levels_around c (w ∷ ws) (x ∷ xs) (p ∷ ps) most h levels =
    step_around c (level_after c ws) w (newest_level ps) x p most (levels_around c ws xs ps most h.1 levels.1) h.0 levels.0

-- the interval of the newest level
pub level_held : (c : ℕ) (ws : List Point) (xs ps : List Fraction) (p : Fraction) (v : Interval) → c ≤ 2 ^ 32 → AllZip IsWithin ws xs → AreLevels c xs (p ∷ ps)
    → IsLevel (level_after c ws) v → Holds v p
level_held c ws xs ps p v most h levels ends =
    let a = levels_around c ws xs (p ∷ ps) most h levels in
    record {
      above = subst (λ (z : ℤ). units z ≤ℚ p) (sym ends.lo) a.above;
      below = subst (λ (z : ℤ). p ≤ℚ units z) (sym ends.hi) a.below;
    }

pub levels_held : (c : ℕ) (ws : List Point) (vs : List Interval) (xs ps : List Fraction) → c ≤ 2 ^ 32 → AreLevelIntervals c ws vs → AllZip IsWithin ws xs → AreLevels c xs ps
    → HoldEach vs ps
levels_held c [] [] [] [] most v h levels = tt
levels_held c [] [] [] (p ∷ ps) most v h levels = absurd levels
levels_held c [] [] (x ∷ xs) ps most v h levels = absurd h
levels_held c [] (v ∷ vs) xs ps most e h levels = absurd e
levels_held c (w ∷ ws) [] xs ps most e h levels = absurd e
levels_held c (w ∷ ws) (v ∷ vs) [] ps most e h levels = absurd h
levels_held c (w ∷ ws) (v ∷ vs) (x ∷ xs) [] most e h levels = absurd levels
levels_held c (w ∷ ws) (v ∷ vs) (x ∷ xs) (p ∷ ps) most e h levels =
    (level_held c (w ∷ ws) (x ∷ xs) ps p v most h levels e.0, levels_held c ws vs xs ps most e.1 h.1 levels.1)
