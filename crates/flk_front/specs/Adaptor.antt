-- The input voltage adaptor and the squaring multiplier of the flickermeter of IEC 61000-4-15 (its blocks 1 and 2),
-- over exact fractions. Voltages are relative to nominal. Lists have the newest value first. The equations are the
-- project's own.
use Rattle.std.specs.Prelude.{ℕ, ◌*◌, ◌^◌, List, [], ◌∷◌, pos, ◌*ℤ◌}
use Rattle.std.specs.Int.{int_max}
use Rattle.std.proofs.Common.{lit<}
use Rattle.std.proofs.Math.Nat.{mul-pos}
use Rattle.flk_exact.specs.Fraction.{Fraction, ◌≈ℚ◌, ◌-ℚ◌, ◌*ℚ◌, whole}

-- the greater of p and q
abbrev pub greater : Fraction → Fraction → Fraction
greater p q = record {
  num = int_max (p.num *ℤ pos q.den)
      (q.num *ℤ pos p.den);
  den = p.den * q.den;
  positive = mul-pos p.positive q.positive;
}

abbrev pub quarter : Fraction
quarter = record { num = pos 1; den = 4; positive = lit< tt }

-- From the mean m of the squares before the voltage u to the next one: `2^e * (next - m) = u^2 - m`, so that a sample
-- counts for one part in 2^e. (Which exponent e goes with a sampling rate, `adaptor_exponent` of flk_num says.)
pub record IsNextMean (e : ℕ) (m u next : Fraction) : Type 0 where
  pub is : (whole (pos (2 ^ e)) *ℚ (next -ℚ m)) ≈ℚ (u *ℚ u -ℚ m)

-- by which the square of a voltage is divided, where m is the mean before it
abbrev pub divisor : Fraction → Fraction
divisor m = greater m quarter

-- the output y at the voltage u: `y * max(m, 1/4) = u^2`
pub record IsOutput (m u y : Fraction) : Type 0 where
  pub is : (y *ℚ divisor m) ≈ℚ (u *ℚ u)

-- The run has these means, one more than voltages, the first of them 1, and these outputs.
abbrev pub IsAdapted : ℕ → List Fraction → List Fraction → List Fraction → Type 0
IsAdapted e [] (m ∷ []) [] = m ≈ℚ whole (pos 1)
IsAdapted e (u ∷ us) (next ∷ m ∷ means) (y ∷ ys) = IsNextMean e m u next × IsOutput m u y
    × IsAdapted e us (m ∷ means) ys
IsAdapted e _ _ _ = ⊥
