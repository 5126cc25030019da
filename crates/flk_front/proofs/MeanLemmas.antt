-- The exact means, in natural numbers over a common denominator, and rounded parts of a mean.
use Rattle.std.proofs.Common.{◌≡◌, ℕ, ◌+◌, ◌-◌, ◌*◌, ◌^◌, ◌<◌, ◌≤◌, List, [], ◌∷◌, ℤ, pos, ◌+ℤ◌, ◌-ℤ◌, ◌*ℤ◌, ◌≤ℤ◌, ap, subst, ◌∙◌, arith}
use Rattle.std.specs.Int.{div_ceil}
use Rattle.std.specs.Int.RustNames.{unsigned_abs}
use Rattle.std.proofs.lemmas.Int.{ints}
use Rattle.std.proofs.lemmas.Nat.{pow-add, pow_pos}
use Rattle.std.proofs.Math.Nat.{mul-le-mul_left, mul-le-mul_right, mul-pos, lt_of_mul-lt-mul_right}
use Rattle.flk_exact.specs.Fraction.{Fraction, ◌-ℚ◌, ◌*ℚ◌}
use Rattle.flk_exact.proofs.WholeLemmas.{square_is, cancel_≤}
use Rattle.flk_exact.proofs.ProductLemmas.{lin, sub_scaled}
use Rattle.flk_exact.proofs.NumeratorLemmas.{IsOver, over_grow, over_difference, over_times, over_product, over_same, natural_over, over_natural, as_natural, numerators, number}
use Rattle.flk_front.specs.Adaptor.{IsNextMean, IsAdapted}
use Rattle.flk_front.proofs.SquareSteps.{ceil_least}

-- ---- numerators

-- a square is over the square of the denominator
pub square_over : (delta : ℕ) (u : Fraction) (z : ℤ) → IsOver delta u z → IsOver (delta * delta) (u *ℚ u) (pos (unsigned_abs z * unsigned_abs z))
square_over delta u z h = subst (λ (n : ℤ). IsOver (delta * delta) (u *ℚ u) n) (square_is z) (over_product delta delta u u z z h h)

-- ---- parts of the mean

pub powers : (e : ℕ) → 16 ≤ e → 2 ^ e ≡ 2 ^ 16 * 2 ^ (e - 16)
powers e h =
    let s : e ≡ 16 + (e - 16) = omega arith in
    ap (λ (n : ℕ). 2 ^ n) s ∙ pow-add 2 16 (e - 16)

part_below : (b f M : ℕ) → 0 < b → f * b + 1 ≤ M + b → f ≤ M
part_below b f M some h =
    let k : f * b < (M + 1) * b = omega (arith, mul-le-mul_left M some) in
    let l : f < M + 1 = lt_of_mul-lt-mul_right b k in
    omega arith

pub ceil_below : (M b : ℕ) → 0 < b → div_ceil M b ≤ M
ceil_below M b some = part_below b (div_ceil M b) M some (ceil_least M b some)

-- ---- the exact mean

-- the equation of the mean, in numerators
moves : (e delta mu nu : ℕ) (m u next : Fraction) (z : ℤ) → 0 < delta → IsNextMean e m u next → IsOver delta m (pos mu) → IsOver delta next z → IsOver delta (u *ℚ u) (pos nu)
    → pos (2 ^ e) *ℤ z +ℤ pos mu ≡ pos (2 ^ e) *ℤ pos mu +ℤ pos nu
moves e delta mu nu m u next z hd h hm hn hu =
    let l = over_times delta (pos (2 ^ e)) (next -ℚ m) (z -ℤ pos mu) (over_difference delta next m z (pos mu) hn hm) in
    let r = over_difference delta (u *ℚ u) m (pos nu) (pos mu) hu hm in
    let eq : pos (2 ^ e) *ℤ (z -ℤ pos mu) ≡ pos nu -ℤ pos mu = over_same delta _ _ _ _ hd h.is l r in
    let s = sub_scaled (pos (2 ^ e)) z (pos mu) in
    omega (arith, lin)

-- 2^e less one
abbrev pub less : ℕ → ℕ
less e = 2 ^ e - 1

-- a step of the mean in natural numbers: z is the voltage's number over delta
pub record Step (e : ℕ) (m next : Fraction) (delta : ℕ) (z : ℤ) : Type 0 where
  pub mu : ℕ
  pub nu : ℕ
  pub before : IsOver (delta * delta) m (pos mu)
  pub after : IsOver (delta * delta) next (pos nu)
  pub moves : (less e + 1) * nu ≡ less e * mu + unsigned_abs z * unsigned_abs z

whole_step : (k b mu nu q : ℕ) → k + 1 ≡ b → b * nu + mu ≡ b * mu + q → (k + 1) * nu ≡ k * mu + q
whole_step k b mu nu q e h =
    let x : (k + 1) * nu ≡ b * nu = ap (λ (n : ℕ). n * nu) e in
    let y : (k + 1) * mu ≡ b * mu = ap (λ (n : ℕ). n * mu) e in
    omega arith

in_naturals : (b mu nu q : ℕ) (z : ℤ) → z ≡ pos nu → pos b *ℤ z +ℤ pos mu ≡ pos b *ℤ pos mu +ℤ pos q → b * nu + mu ≡ b * mu + q
in_naturals b mu nu q z h e =
    let f : pos b *ℤ z ≡ pos b *ℤ pos nu = ap (λ (x : ℤ). pos b *ℤ x) h in
    omega (arith, ints)

pub step : (e delta : ℕ) (m u next : Fraction) (z x y : ℤ) → 0 < delta → IsOver delta u z → IsOver delta m x → IsOver delta next y → pos 0 ≤ℤ m.num
    → IsNextMean e m u next → Step e m next delta z
step e delta m u next z x y hd hu hm hn low h =
    let square = delta * delta in
    let some : 0 < 2 ^ e = pow_pos e in
    let over_m = over_grow delta delta m x hm in
    let over_next = over_grow delta delta next y hn in
    let mu = as_natural square m _ (natural_over square m _ low over_m) over_m in
    let eq = moves e square mu.0 _ m u next (y *ℤ pos delta) (mul-pos hd hd) h mu.2 over_next (square_over delta u z hu) in
    let grows : mu.0 ≤ 2 ^ e * mu.0 = omega (arith, mul-le-mul_right mu.0 some) in
    let natural : pos 0 ≤ℤ (y *ℤ pos delta) = cancel_≤ (pos 0) (y *ℤ pos delta) (2 ^ e) some (omega (arith, ints)) in
    let nu = as_natural square next (y *ℤ pos delta) natural over_next in
    let q = unsigned_abs z * unsigned_abs z in
    let eq3 : 2 ^ e * nu.0 + mu.0 ≡ 2 ^ e * mu.0 + q = in_naturals (2 ^ e) mu.0 nu.0 q (y *ℤ pos delta) nu.1 eq in
    record { mu = mu.0; nu = nu.0; before = mu.2; after = nu.2; moves = whole_step (less e) (2 ^ e) mu.0 nu.0 q (omega arith) eq3 }

-- a mean is not below 0
next_natural_over : (e delta : ℕ) (m u next : Fraction) (z x y : ℤ) → 0 < delta → IsOver delta u z → IsOver delta m x → IsOver delta next y → IsNextMean e m u next
    → pos 0 ≤ℤ m.num → pos 0 ≤ℤ next.num
next_natural_over e delta m u next z x y hd hu hm hn h low =
    let s = step e delta m u next z x y hd hu hm hn low h in
    over_natural (delta * delta) next (pos s.nu) (mul-pos hd hd) (omega (arith, ints)) s.after

next_natural : (e : ℕ) (m u next : Fraction) → IsNextMean e m u next → pos 0 ≤ℤ m.num → pos 0 ≤ℤ next.num
next_natural e m u next h low =
    let fs : List Fraction = u ∷ m ∷ next ∷ [] in
    let k = numerators fs in
    next_natural_over e (k.base * 2 ^ 48) m u next _ _ _ (omega (arith, k.some)) (number fs k 0 (omega arith)) (number fs k 1 (omega arith)) (number fs k 2 (omega arith)) h low

pub mean_natural : (e : ℕ) (us means ys : List Fraction) (m : Fraction) → IsAdapted e us (m ∷ means) ys → pos 0 ≤ℤ m.num
mean_natural e [] [] [] m h = omega (arith, ints, h.cross)
mean_natural e [] [] (y ∷ ys) m h = absurd h
mean_natural e [] (n ∷ means) ys m h = absurd h
mean_natural e (u ∷ us) [] ys m h = absurd h
mean_natural e (u ∷ us) (n ∷ means) [] m h = absurd h
mean_natural e (u ∷ us) (n ∷ means) (y ∷ ys) m h = next_natural e n u m h.0 (mean_natural e us means ys n h.2)
