-- Fractions: a whole number over a positive one, compared, added and multiplied by cross multiplication.
use Rattle.std.specs.Prelude.{◌≡◌, ℕ, ◌*◌, ◌^◌, ◌<◌, ℤ, pos, neg_ℤ, ◌+ℤ◌, ◌*ℤ◌, ◌≤ℤ◌}
use Rattle.std.specs.Int.RustNames.{unsigned_abs}
use Rattle.std.proofs.Common.{lit<}
use Rattle.std.proofs.Math.Nat.{mul-pos}

pub record Fraction : Type 0 where
  pub num : ℤ
  pub den : ℕ
  pub positive : 0 < den

infix 50 ◌≤ℚ◌
infix 50 ◌≈ℚ◌
infixl 60 ◌+ℚ◌
infixl 60 ◌-ℚ◌
infixl 70 ◌*ℚ◌
-- p is at most q
pub record ◌≤ℚ◌ (p q : Fraction) : Type 0 where
  pub cross : (p.num *ℤ pos q.den) ≤ℤ (q.num *ℤ pos p.den)

-- p and q are the same number
pub record ◌≈ℚ◌ (p q : Fraction) : Type 0 where
  pub cross : p.num *ℤ pos q.den ≡ q.num *ℤ pos p.den

abbrev pub ◌+ℚ◌ : Fraction → Fraction → Fraction
p +ℚ q = record {
  num = p.num *ℤ pos q.den +ℤ q.num *ℤ pos p.den;
  den = p.den * q.den;
  positive = mul-pos p.positive q.positive;
}

abbrev pub negative : Fraction → Fraction
negative p = record { num = neg_ℤ p.num; den = p.den; positive = p.positive }

abbrev pub ◌-ℚ◌ : Fraction → Fraction → Fraction
p -ℚ q = p +ℚ negative q

-- how far it lies from 0
abbrev pub size : Fraction → Fraction
size p = record { num = pos (unsigned_abs p.num); den = p.den; positive = p.positive }

abbrev pub ◌*ℚ◌ : Fraction → Fraction → Fraction
p *ℚ q = record { num = p.num *ℤ q.num; den = p.den * q.den; positive = mul-pos p.positive q.positive }

-- a whole number
abbrev pub whole : ℤ → Fraction
whole z = record { num = z; den = 1; positive = lit< tt }

-- so many units, which are 2^-48 each
abbrev pub units : ℤ → Fraction
units z = record { num = z; den = 2 ^ 48; positive = lit< tt }
