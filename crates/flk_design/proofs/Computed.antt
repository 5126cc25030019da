-- A nearest whole number of a quotient of numerals: the checker computes both sides.
use Rattle.std.specs.Prelude.{ℤ, pos, ◌*ℤ◌, ◌^◌, T}
use Rattle.std.specs.Int.Signed.{le_z, lt_z}
use Rattle.flk_exact.specs.Fraction.{Fraction, ◌+ℚ◌, ◌-ℚ◌, ◌*ℚ◌, whole}
use Rattle.flk_design.specs.Nearest.{half, IsNearestQuotient}

abbrev pub is_at_most : Fraction → Fraction → Type 0
is_at_most p q = T (le_z (p.num *ℤ pos q.den) (q.num *ℤ pos p.den))

abbrev pub is_less : Fraction → Fraction → Type 0
is_less p q = T (lt_z (p.num *ℤ pos q.den) (q.num *ℤ pos p.den))

pub nearest : {p q : Fraction} {k : ℤ}
    → is_less (whole (pos 0)) q
    → is_at_most ((whole k -ℚ half) *ℚ q) (whole (pos (2 ^ 32)) *ℚ p)
    → is_less (whole (pos (2 ^ 32)) *ℚ p) ((whole k +ℚ half) *ℚ q)
    → IsNearestQuotient p q k
nearest a b c = record {
  positive = record { cross = record { lt = a } };
  not_above = record { cross = record { le = b } };
  not_below = record { cross = record { lt = c } };
}
