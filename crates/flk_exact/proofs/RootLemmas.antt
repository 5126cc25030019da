-- Each whole number that is not below 0 has one root, rounded down; and each whole number has one root and one cube root, rounded up.
use Rattle.std.proofs.Common.{◌≡◌, ℕ, zero, suc, ◌+◌, ◌*◌, ◌<◌, ◌≤◌, ℤ, pos, ◌*ℤ◌, ◌≤ℤ◌, ap, ⊎_elim, arith}
use Rattle.std.specs.Prelude.{negsuc}
use Rattle.std.proofs.lemmas.Bool.{cases_lt}
use Rattle.std.proofs.lemmas.Int.{ints}
use Rattle.std.proofs.lemmas.Nat.{mul-le}
use Rattle.flk_exact.specs.Rounding.{IsRootFloor, IsRootCeil, IsCubeRootCeil}

-- the greatest number whose square times a is at most b, where none of them is above k
pub greatest_square : (a b k : ℕ) → ((z : ℕ) → z * z * a ≤ b → z ≤ k) → (w : ℕ) × (w * w * a ≤ b) × ((z : ℕ) → z * z * a ≤ b → z ≤ w)
greatest_square a b zero h = (0, omega arith, h)
greatest_square a b (suc k) h =
    ⊎_elim
    (λ more. greatest_square a b k (λ z fits.
    ⊎_elim
    (λ above. let same : z ≡ suc k = omega (arith, h z fits) in absurd (omega (arith, rw same at fits)))
    (λ within. within)
    (cases_lt k z)))
    (λ fits. (suc k, fits, h))
    (cases_lt b (suc k * suc k * a))

-- a number is at most its square, and at most its square's products
pub square_bounds : (z a b : ℕ) → 0 < a → z * z * a ≤ b → z ≤ b
square_bounds zero a b some h = omega arith
square_bounds (suc z) a b some h = omega (arith, mul-le 1 1 (suc z) a (omega arith) some, mul-le (suc z) 1 (suc z * suc z) a (omega arith) some)

root_≤ : (v : ℤ) (a b : ℕ) → IsRootFloor v (pos a) → IsRootFloor v (pos b) → a ≤ b
root_≤ v a b x y =
    ⊎_elim
    (λ more. let next : b + 1 ≤ a = omega arith in absurd (omega (arith, ints, mul-le (b + 1) (b + 1) a a next next, x.within, y.greatest)))
    (λ within. within)
    (cases_lt b a)

pub root_unique : (v p q : ℤ) → IsRootFloor v p → IsRootFloor v q → p ≡ q
root_unique v (pos a) (pos b) x y = ap pos (omega (arith, root_≤ v a b x y, root_≤ v b a y x))
root_unique v (negsuc a) q x y = absurd (omega (arith, ints, x.natural))
root_unique v (pos a) (negsuc b) x y = absurd (omega (arith, ints, y.natural))

pub root_exists : (v : ℤ) → pos 0 ≤ℤ v → (w : ℤ) × IsRootFloor v w
root_exists (negsuc n) h = absurd (omega (arith, ints))
root_exists (pos n) h =
    let g = greatest_square 1 n n (λ z fits. square_bounds z 1 n (omega arith) fits) in (
      pos g.0,
      record {
        natural = omega (arith, ints);
        within = omega (arith, ints, g.1);
        greatest =
            ⊎_elim
            (λ above. omega (arith, ints))
            (λ fits. absurd (omega (arith, g.2 (g.0 + 1) (omega (arith, fits)))))
            (cases_lt n ((g.0 + 1) * (g.0 + 1)));
      },
    )

-- ---- rounded up

-- the least number at which f is n or more, where none below s is one and s + more is one
pub least_reaching : (f : ℕ → ℕ) (n s more : ℕ) → ((z : ℕ) → n ≤ f z → s ≤ z) → n ≤ f (s + more) → (w : ℕ) × (n ≤ f w) × ((z : ℕ) → n ≤ f z → w ≤ z)
least_reaching f n s zero from end = let here : s + 0 ≡ s = omega arith in (s, rw here at end, from)
least_reaching f n s (suc more) from end =
    ⊎_elim
    (λ less.
    let next : (z : ℕ) → n ≤ f z → s + 1 ≤ z =
    λ z reached. ⊎_elim (λ above. omega arith) (λ most. let same : z ≡ s = omega (arith, from z reached, most) in absurd (omega (arith, rw same at reached, less))) (cases_lt s z) in
    let step : s + suc more ≡ s + 1 + more = omega arith in
    least_reaching f n (s + 1) more next (rw step at end))
    (λ reached. (s, reached, from))
    (cases_lt (f s) n)

-- a natural number is at most its square and its cube
square_within : (n : ℕ) → n ≤ (0 + n) * (0 + n)
square_within zero = omega arith
square_within (suc n) = omega (arith, mul-le 1 (suc n) (suc n) (suc n) (omega arith) (omega arith))

cube_within : (n : ℕ) → n ≤ (0 + n) * (0 + n) * (0 + n)
cube_within zero = omega arith
cube_within (suc n) = omega (arith, mul-le 1 (suc n) (suc n * suc n) (suc n) (mul-le 1 1 (suc n) (suc n) (omega arith) (omega arith)) (omega arith))

pub root_up_least : (n r : ℕ) (z : ℤ) → ((k : ℕ) → n ≤ k * k → r ≤ k) → pos 0 ≤ℤ z → pos n ≤ℤ (z *ℤ z) → pos r ≤ℤ z
root_up_least n r (pos k) least low reached = let order : n ≤ k * k = omega (arith, ints, reached) in omega (arith, ints, least k order)
root_up_least n r (negsuc k) least low reached = absurd (omega (arith, ints, low))

pub cube_root_up_least : (n r : ℕ) (z : ℤ) → ((k : ℕ) → n ≤ k * k * k → r ≤ k) → pos 0 ≤ℤ z → pos n ≤ℤ (z *ℤ z *ℤ z) → pos r ≤ℤ z
cube_root_up_least n r (pos k) least low reached = let order : n ≤ k * k * k = omega (arith, ints, reached) in omega (arith, ints, least k order)
cube_root_up_least n r (negsuc k) least low reached = absurd (omega (arith, ints, low))

pub root_up_exists : (v : ℤ) → (w : ℤ) × IsRootCeil v w
root_up_exists (negsuc n) = (pos 0, record { natural = omega (arith, ints); within = omega (arith, ints); least = λ z low reached. low })
root_up_exists (pos n) =
    let l = least_reaching (λ z. z * z) n 0 n (λ z h. omega arith) (square_within n) in
    (pos l.0, record { natural = omega (arith, ints); within = omega (arith, ints, l.1); least = λ z low reached. root_up_least n l.0 z l.2 low reached })

pub root_up_unique : (v p q : ℤ) → IsRootCeil v p → IsRootCeil v q → p ≡ q
root_up_unique v p q x y = omega (arith, ints, x.least q y.natural y.within, y.least p x.natural x.within)

pub cube_root_up_exists : (v : ℤ) → (w : ℤ) × IsCubeRootCeil v w
cube_root_up_exists (negsuc n) = (pos 0, record { natural = omega (arith, ints); within = omega (arith, ints); least = λ z low reached. low })
cube_root_up_exists (pos n) =
    let l = least_reaching (λ z. z * z * z) n 0 n (λ z h. omega arith) (cube_within n) in
    (pos l.0, record { natural = omega (arith, ints); within = omega (arith, ints, l.1); least = λ z low reached. cube_root_up_least n l.0 z l.2 low reached })

pub cube_root_up_unique : (v p q : ℤ) → IsCubeRootCeil v p → IsCubeRootCeil v q → p ≡ q
cube_root_up_unique v p q x y = omega (arith, ints, x.least q y.natural y.within, y.least p x.natural x.within)
