-- Every weighted signal has levels, and no signal has two; and so it is with the level intervals of points.
use Rattle.std.proofs.Common.{◌≡◌, ℕ, ◌*◌, ◌^◌, ◌<◌, ◌≤◌, List, [], ◌∷◌, ℤ, pos, ◌+ℤ◌, ◌-ℤ◌, ◌*ℤ◌, ◌≤ℤ◌, refl, sym, ap, subst, ◌∙◌, arith}
use Rattle.std.specs.List.{AllZip}
use Rattle.std.proofs.Math.Nat.{mul-pos}
use Rattle.std.proofs.lemmas.Int.{ints}
use Rattle.flk_exact.specs.Fraction.{Fraction, ◌≈ℚ◌, ◌-ℚ◌, ◌*ℚ◌, whole}
use Rattle.flk_exact.proofs.ProductLemmas.{lin, left_comm, sub_scaled}
use Rattle.flk_exact.proofs.NumeratorLemmas.{IsOver, over_own, over_grow, over_times, over_difference, over_same, same_over, numerators, number}
use Rattle.flk_num.specs.declared.interval.Interval.{Interval}
use Rattle.flk_num.specs.declared.rate.Rate.{Rate}
use Rattle.flk_num.specs.declared.rate.Rate.TheVariants.{R2400, R4800}
use Rattle.flk_num.specs.Rate.{smoothing_number}
use Rattle.flk_num.proofs.IntervalLemmas.{same_ends}
use Rattle.flk_num.proofs.SizeLemmas.{sizes_ordered}
use Rattle.flk_front.specs.declared.point.Point.{Point}
use Rattle.flk_stat.specs.Smoothing.{scale, IsNextLevel, newest_level, AreLevels}
use Rattle.flk_stat.specs.Rounded.{level_after, AreLevelIntervals}
use Rattle.flk_stat.proofs.SmoothingSteps.{ends_ordered}

-- the number of each rate is at most one and at least a part in 2046, over 2^32
pub number_in : (rate : Rate) → (smoothing_number rate ≤ 2 ^ 32) × (2 ^ 32 ≤ 2046 * smoothing_number rate)
number_in R2400 = (omega arith, omega arith)
number_in R4800 = (omega arith, omega arith)

-- ---- there is a next level

-- P times g is c times the scaled square and the level before, each times P
scaled_gap : (c : ℤ) (P q n : ℤ) → P *ℤ (c *ℤ (pos scale *ℤ q -ℤ n)) ≡ c *ℤ (pos scale *ℤ (P *ℤ q) -ℤ P *ℤ n)
scaled_gap c P q n =
    left_comm P c (pos scale *ℤ q -ℤ n) ∙ ap (λ (z : ℤ). c *ℤ z) (sub_scaled P (pos scale *ℤ q) n ∙ ap (λ (z : ℤ). z -ℤ P *ℤ n) (left_comm P (pos scale) q))

IsNextLevel-made : (c : ℕ) (p w : Fraction) → (next : Fraction) × IsNextLevel c p w next
IsNextLevel-made c p w =
    let D = p.den * (w.den * w.den) in
    let delta = D * 2 ^ 32 in
    let positive : 0 < delta = mul-pos (mul-pos p.positive (mul-pos w.positive w.positive)) (omega arith) in
    let n = p.num *ℤ pos (w.den * w.den) in
    let q = (w.num *ℤ w.num) *ℤ pos p.den in
    let gap = pos c *ℤ (pos scale *ℤ q -ℤ n) in
    let next : Fraction = record { num = n *ℤ pos (2 ^ 32) +ℤ gap; den = delta; positive = positive } in
    let same : w.den * w.den * p.den ≡ D = omega arith in
    let over_p : IsOver delta p (n *ℤ pos (2 ^ 32)) = over_grow D (2 ^ 32) p n (over_grow p.den (w.den * w.den) p p.num (over_own p)) in
    let over_w : IsOver delta (w *ℚ w) (q *ℤ pos (2 ^ 32)) =
    over_grow D (2 ^ 32) (w *ℚ w) q (subst (λ (d : ℕ). IsOver d (w *ℚ w) q) same (over_grow (w.den * w.den) p.den (w *ℚ w) (w.num *ℤ w.num) (over_own (w *ℚ w)))) in
    let left = over_times delta (pos (2 ^ 32)) (next -ℚ p) _ (over_difference delta next p _ _ (over_own next) over_p) in
    let right = over_times delta (pos c) _ _ (over_difference delta _ p _ _ (over_times delta (pos scale) (w *ℚ w) (q *ℤ pos (2 ^ 32)) over_w) over_p) in
    let moved : n *ℤ pos (2 ^ 32) +ℤ gap -ℤ n *ℤ pos (2 ^ 32) ≡ gap = omega (arith, lin) in
    let turned_q : q *ℤ pos (2 ^ 32) ≡ pos (2 ^ 32) *ℤ q = omega (arith, ints) in
    let turned_n : n *ℤ pos (2 ^ 32) ≡ pos (2 ^ 32) *ℤ n = omega (arith, ints) in
    let equal : pos (2 ^ 32) *ℤ (n *ℤ pos (2 ^ 32) +ℤ gap -ℤ n *ℤ pos (2 ^ 32)) ≡ pos c *ℤ (pos scale *ℤ (q *ℤ pos (2 ^ 32)) -ℤ n *ℤ pos (2 ^ 32)) =
    ap (λ (z : ℤ). pos (2 ^ 32) *ℤ z) moved ∙ scaled_gap (pos c) (pos (2 ^ 32)) q n
    ∙ ap (λ (z : ℤ). pos c *ℤ (pos scale *ℤ z -ℤ pos (2 ^ 32) *ℤ n)) (sym turned_q) ∙ ap (λ (z : ℤ). pos c *ℤ (pos scale *ℤ (q *ℤ pos (2 ^ 32)) -ℤ z)) (sym turned_n) in
    (next, record { is = same_over delta _ _ _ positive (subst (λ (z : ℤ). IsOver delta (whole (pos (2 ^ 32)) *ℚ (next -ℚ p)) z) equal left) right })

pub AreLevels-exists : (c : ℕ) (ws : List Fraction) → (ps : List Fraction) × AreLevels c ws ps
AreLevels-exists c [] = ([], tt)
AreLevels-exists c (w ∷ ws) =
    let rest = AreLevels-exists c ws in
    let next = IsNextLevel-made c (newest_level rest.0) w in
    (next.0 ∷ rest.0, (next.1, rest.1))

-- ---- and there are no two

next_same_over : (c delta : ℕ) (m n u x y : Fraction) (a b k p q : ℤ) → 0 < delta → IsOver delta m a → IsOver delta n b → IsOver delta (u *ℚ u) k → IsOver delta x p
    → IsOver delta y q → m ≈ℚ n → IsNextLevel c m u x → IsNextLevel c n u y → x ≈ℚ y
next_same_over c delta m n u x y a b k p q hd over_m over_n over_u over_x over_y same h g =
    let levels : b ≡ a = sym (over_same delta m n a b hd same over_m over_n) in
    let first : pos (2 ^ 32) *ℤ (p -ℤ a) ≡ pos c *ℤ (pos scale *ℤ k -ℤ a) =
    over_same delta _ _ _ _ hd h.is (over_times delta (pos (2 ^ 32)) (x -ℚ m) (p -ℤ a) (over_difference delta x m p a over_x over_m))
    (over_times delta (pos c) _ _ (over_difference delta _ m _ a (over_times delta (pos scale) (u *ℚ u) k over_u) over_m)) in
    let second : pos (2 ^ 32) *ℤ (q -ℤ b) ≡ pos c *ℤ (pos scale *ℤ k -ℤ b) =
    over_same delta _ _ _ _ hd g.is (over_times delta (pos (2 ^ 32)) (y -ℚ n) (q -ℤ b) (over_difference delta y n q b over_y over_n))
    (over_times delta (pos c) _ _ (over_difference delta _ n _ b (over_times delta (pos scale) (u *ℚ u) k over_u) over_n)) in
    let moved : pos (2 ^ 32) *ℤ (q -ℤ a) ≡ pos c *ℤ (pos scale *ℤ k -ℤ a) = subst (λ (z : ℤ). pos (2 ^ 32) *ℤ (q -ℤ z) ≡ pos c *ℤ (pos scale *ℤ k -ℤ z)) levels second in
    let both : pos (2 ^ 32) *ℤ (q -ℤ a) ≡ pos (2 ^ 32) *ℤ (p -ℤ a) = moved ∙ sym first in
    let equal : q ≡ p = omega (arith, ints, both) in
    same_over delta x y p hd over_x (subst (λ (z : ℤ). IsOver delta y z) equal over_y)

next_same : (c : ℕ) (m n u x y : Fraction) → m ≈ℚ n → IsNextLevel c m u x → IsNextLevel c n u y → x ≈ℚ y
next_same c m n u x y same h g =
    let fs : List Fraction = m ∷ n ∷ u *ℚ u ∷ x ∷ y ∷ [] in
    let p = numerators fs in
    next_same_over c (p.base * 2 ^ 48) m n u x y _ _ _ _ _ (omega (arith, p.some)) (number fs p 0 (omega arith)) (number fs p 1 (omega arith))
    (number fs p 2 (omega arith)) (number fs p 3 (omega arith)) (number fs p 4 (omega arith)) same h g

newest_same : (ps qs : List Fraction) → AllZip ◌≈ℚ◌ ps qs → newest_level ps ≈ℚ newest_level qs
newest_same [] [] h = record { cross = refl }
newest_same [] (q ∷ qs) h = absurd h
newest_same (p ∷ ps) [] h = absurd h
newest_same (p ∷ ps) (q ∷ qs) h = h.0

pub AreLevels-unique : (c : ℕ) (ws ps qs : List Fraction) → AreLevels c ws ps → AreLevels c ws qs → AllZip ◌≈ℚ◌ ps qs
AreLevels-unique c [] [] [] h k = tt
AreLevels-unique c [] [] (q ∷ qs) h k = absurd k
AreLevels-unique c [] (p ∷ ps) qs h k = absurd h
AreLevels-unique c (w ∷ ws) [] qs h k = absurd h
AreLevels-unique c (w ∷ ws) (p ∷ ps) [] h k = absurd k
AreLevels-unique c (w ∷ ws) (p ∷ ps) (q ∷ qs) h k =
    let rest = AreLevels-unique c ws ps qs h.1 k.1 in
    (next_same c (newest_level ps) (newest_level qs) w p q (newest_same ps qs rest) h.0 k.0, rest)

-- ---- the intervals of points

level_ordered : (c : ℕ) (ws : List Point) → (level_after c ws).lo ≤ (level_after c ws).hi
level_ordered c [] = omega arith
level_ordered c (w ∷ ws) = ends_ordered c (level_after c ws).lo (level_after c ws).hi _ _ (level_ordered c ws) (sizes_ordered (w.mid -ℤ w.radius) (w.mid +ℤ w.radius))

pub AreLevelIntervals-exists : (c : ℕ) (ws : List Point) → (vs : List Interval) × AreLevelIntervals c ws vs
AreLevelIntervals-exists c [] = ([], tt)
AreLevelIntervals-exists c (w ∷ ws) =
    let rest = AreLevelIntervals-exists c ws in
    let ends = level_after c (w ∷ ws) in
    let v : Interval = record { lo = pos ends.lo; hi = pos ends.hi; ordered = omega (arith, ints, level_ordered c (w ∷ ws)) } in
    (v ∷ rest.0, (record { lo = refl; hi = refl }, rest.1))

pub AreLevelIntervals-unique : (c : ℕ) (ws : List Point) (us vs : List Interval) → AreLevelIntervals c ws us → AreLevelIntervals c ws vs → us ≡ vs
AreLevelIntervals-unique c [] [] [] h k = refl
AreLevelIntervals-unique c [] [] (v ∷ vs) h k = absurd k
AreLevelIntervals-unique c [] (u ∷ us) vs h k = absurd h
AreLevelIntervals-unique c (w ∷ ws) [] vs h k = absurd h
AreLevelIntervals-unique c (w ∷ ws) (u ∷ us) [] h k = absurd k
AreLevelIntervals-unique c (w ∷ ws) (u ∷ us) (v ∷ vs) h k =
    let rest = AreLevelIntervals-unique c ws us vs h.1 k.1 in
    let newest = same_ends u v (h.0.lo ∙ sym k.0.lo) (h.0.hi ∙ sym k.0.hi) in
    cc
