-- The greater of two fractions, in numerators over a denominator.
use Rattle.std.proofs.Common.{◌≡◌, refl, ℕ, ◌*◌, max, ℤ, pos, ◌*ℤ◌, ◌≤ℤ◌, sym, ap, ◌∙◌, arith}
use Rattle.std.specs.Int.{int_max}
use Rattle.std.proofs.lemmas.Int.{ints, clamps, by_lt_z}
use Rattle.flk_exact.specs.Fraction.{Fraction}
use Rattle.flk_exact.proofs.WholeLemmas.{scale_≤}
use Rattle.flk_exact.proofs.ProductLemmas.{mul_assoc, swap}
use Rattle.flk_exact.proofs.NumeratorLemmas.{IsOver}
use Rattle.flk_front.specs.Adaptor.{greater}

max_first : (a b : ℤ) → b ≤ℤ a → int_max a b ≡ a
max_first a b h = omega (arith, ints, clamps)

max_second : (a b : ℤ) → a ≤ℤ b → int_max a b ≡ b
max_second a b h = omega (arith, ints, clamps)

max_scaled : (a b : ℤ) (k : ℕ) → int_max a b *ℤ pos k ≡ int_max (a *ℤ pos k) (b *ℤ pos k)
max_scaled a b k =
    by_lt_z b a
    (λ less. let h : b ≤ℤ a = omega (arith, ints) in
    rw (max_first a b h, max_first _ _ (scale_≤ b a k h)) refl)
    (λ most. rw (max_second a b most, max_second _ _ (scale_≤ a b k most)) refl)

pub over_greater : (delta : ℕ) (f g : Fraction) (n m : ℤ) → IsOver delta f n → IsOver delta g m → IsOver delta (greater f g) (int_max n m)
over_greater delta f g n m hf hg =
    let a : (f.num *ℤ pos g.den) *ℤ pos delta ≡ n *ℤ pos (f.den * g.den) =
    swap f.num (pos g.den) (pos delta) ∙ ap (λ (z : ℤ). z *ℤ pos g.den) hf.is ∙ mul_assoc n (pos f.den) (pos g.den) in
    let b : (g.num *ℤ pos f.den) *ℤ pos delta ≡ m *ℤ pos (f.den * g.den) =
    swap g.num (pos f.den) (pos delta) ∙ ap (λ (z : ℤ). z *ℤ pos f.den) hg.is ∙ swap m (pos g.den) (pos f.den) ∙ mul_assoc m (pos f.den) (pos g.den) in
    record {
      is =
          max_scaled (f.num *ℤ pos g.den) (g.num *ℤ pos f.den) delta ∙ ap (λ (z : ℤ). int_max z ((g.num *ℤ pos f.den) *ℤ pos delta)) a
          ∙ ap (λ (z : ℤ). int_max (n *ℤ pos (f.den * g.den)) z) b ∙ sym (max_scaled n m (f.den * g.den));
    }

pub natural_max : (a b : ℕ) → int_max (pos a) (pos b) ≡ pos (max a b)
natural_max a b = omega (arith, ints, clamps)
