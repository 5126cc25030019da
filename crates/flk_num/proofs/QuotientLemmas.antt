-- The order of rounded quotients: a lesser one rounded down is at most a greater one rounded up.
use Rattle.std.proofs.Common.{ℕ, ◌+◌, ◌*◌, ◌<◌, ◌≤◌, ℤ, pos, ◌≤ℤ◌, ◌<ℤ◌, arith}
use Rattle.std.specs.Prelude.{negsuc}
use Rattle.std.proofs.Math.Nat.{mul-le-mul_left, mul-pos}
use Rattle.std.proofs.lemmas.Int.{ints}
use Rattle.flk_exact.specs.Rounding.{IsFloor, IsCeil}
use Rattle.flk_exact.proofs.WholeLemmas.{cancel_≤}

-- a lesser quotient rounded down is at most a greater one rounded up, which is not below 0
quotients_in_order : (a b p q : ℤ) (m n : ℕ) → pos 0 ≤ℤ b → a ≤ℤ b → 0 < m → m ≤ n → IsFloor a (pos n) p → IsCeil b (pos m) q → p ≤ℤ q
quotients_in_order a b p (pos q) m n low order some wider floor ceil =
    cancel_≤ p (pos q) n (omega arith) (omega (arith, ints, floor.within, ceil.within, mul-le-mul_left q wider))
quotients_in_order a b p (negsuc q) m n low order some wider floor ceil =
    let more : 0 < (q + 1) * m = mul-pos (omega arith) some in
    absurd (omega (arith, ints, ceil.within))

pub quotients_ordered : (a b p q c d : ℤ) → pos 0 ≤ℤ b → a ≤ℤ b → pos 0 <ℤ c → c ≤ℤ d → IsFloor a d p → IsCeil b c q → p ≤ℤ q
quotients_ordered a b p q (pos m) (pos n) low order some wider floor ceil =
    quotients_in_order a b p q m n low order (omega (arith, ints)) (omega (arith, ints)) floor ceil
quotients_ordered a b p q (pos m) (negsuc n) low order some wider floor ceil = absurd (omega (arith, ints))
quotients_ordered a b p q (negsuc m) d low order some wider floor ceil = absurd (omega (arith, ints))
