-- The order of fractions: of two one is at most the other, and two that are each at most the other are the same number.
use Rattle.std.proofs.Common.{◌⊎◌, inl, inr, pos, ◌*ℤ◌, arith}
use Rattle.std.specs.Prelude.{◌↔◌}
use Rattle.std.proofs.lemmas.Int.{ints, by_lt_z}
use Rattle.flk_exact.specs.Fraction.{Fraction, ◌≤ℚ◌, ◌≈ℚ◌}
use Rattle.flk_exact.proofs.WholeLemmas.{assoc-*ℤ, scale_≤, cancel_≤}

pub ≤ℚ-refl : (p : Fraction) → p ≤ℚ p
≤ℚ-refl p = record { cross = omega (arith, ints) }

pub ≤ℚ-trans : (p q r : Fraction) → p ≤ℚ q → q ≤ℚ r → p ≤ℚ r
≤ℚ-trans p q r h k = record {
  cross =
      cancel_≤ _ _ q.den q.positive
      (omega (
        arith,
        ints,
        scale_≤ _ _ r.den h.cross,
        scale_≤ _ _ p.den k.cross,
        assoc-*ℤ p.num q.den r.den,
        assoc-*ℤ q.num p.den r.den,
        assoc-*ℤ q.num r.den p.den,
        assoc-*ℤ r.num q.den p.den,
        assoc-*ℤ p.num r.den q.den,
        assoc-*ℤ r.num p.den q.den,
      ));
}

pub ≤ℚ-total : (p q : Fraction) → (p ≤ℚ q) ⊎ (q ≤ℚ p)
≤ℚ-total p q =
    by_lt_z (q.num *ℤ pos p.den) (p.num *ℤ pos q.den)
    (λ more. inr record { cross = omega (arith, ints) })
    (λ within. inl record { cross = within })

-- two fractions are each at most the other exactly where they are the same number
pub ≤ℚ-both : (p q : Fraction) → ((p ≤ℚ q) × (q ≤ℚ p)) ↔ (p ≈ℚ q)
≤ℚ-both p q = (λ h. record { cross = omega (arith, ints, h.0.cross, h.1.cross) }, λ e. (record { cross = omega (arith, ints, e.cross) }, record { cross = omega (arith, ints, e.cross) }))
