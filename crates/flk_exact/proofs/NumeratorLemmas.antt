-- Numerators of fractions over one common denominator: each equation and each order of fractions is one of whole numbers, also where
-- one of the two stands over its own denominator. A fraction that is not below 0 has a natural numerator. Each list of fractions has a
-- common denominator, and one that 2^48 divides.
use Rattle.std.proofs.Common.{◌≡◌, ℕ, ◌*◌, ◌<◌, List, [], ◌∷◌, length, map, get_or, refl, sym, ap, subst, ◌∙◌, arith}
use Rattle.std.proofs.Math.IntN.{ℤ, pos, neg_ℤ, ◌+ℤ◌, ◌-ℤ◌, ◌*ℤ◌, *ℤ_comm}
use Rattle.std.specs.Prelude.{zero, suc, negsuc, ◌^◌, ◌≤ℤ◌, ◌<ℤ◌}
use Rattle.std.specs.Int.RustNames.{unsigned_abs}
use Rattle.std.specs.List.{AllZip}
use Rattle.std.proofs.Math.Nat.{mul-pos, mul_comm}
use Rattle.std.proofs.lemmas.Int.{unsigned_abs-mul, ints}
use Rattle.flk_exact.specs.Fraction.{Fraction, ◌≤ℚ◌, ◌≈ℚ◌, ◌+ℚ◌, ◌-ℚ◌, ◌*ℚ◌, negative, size, whole, units}
use Rattle.flk_exact.proofs.WholeLemmas.{scale_≤, cancel_≤}
use Rattle.flk_exact.proofs.ProductLemmas.{lin, mul_assoc, distrib_right, neg_right, swap}
use Rattle.flk_exact.proofs.ListLemmas.{AllZip-get_or}

-- f is n / delta
pub record IsOver (delta : ℕ) (f : Fraction) (n : ℤ) : Type 0 where
  pub is : f.num *ℤ pos delta ≡ n *ℤ pos f.den

abbrev pub AllOver : ℕ → List Fraction → List ℤ → Type 0
AllOver delta fs ns = AllZip (IsOver delta) fs ns

-- a positive factor is taken away
pub cancel_≡ : (a b : ℤ) (k : ℕ) → 0 < k → a *ℤ pos k ≡ b *ℤ pos k → a ≡ b
cancel_≡ a b k h e =
    let p : a ≤ℤ b = cancel_≤ a b k h (omega (arith, ints, e)) in
    let q : b ≤ℤ a = cancel_≤ b a k h (omega (arith, ints, e)) in
    omega (arith, ints)

pub over_own : (f : Fraction) → IsOver f.den f f.num
over_own f = record { is = refl }

-- a common denominator may grow
pub over_grow : (delta k : ℕ) (f : Fraction) (n : ℤ) → IsOver delta f n → IsOver (delta * k) f (n *ℤ pos k)
over_grow delta k f n h = record { is = sym (mul_assoc f.num (pos delta) (pos k)) ∙ ap (λ (z : ℤ). z *ℤ pos k) h.is ∙ swap n (pos f.den) (pos k) }

pub over_whole : (delta : ℕ) (z : ℤ) → IsOver delta (whole z) (pos delta *ℤ z)
over_whole delta z = record { is = omega (arith, ints) }

-- units over a denominator that 2^48 divides
pub over_units : (delta : ℕ) (z : ℤ) → IsOver (delta * 2 ^ 48) (units z) (pos delta *ℤ z)
over_units delta z = record { is = ap (λ (y : ℤ). z *ℤ y) (*ℤ_comm (pos delta) (pos (2 ^ 48))) ∙ sym (mul_assoc z (pos (2 ^ 48)) (pos delta)) ∙ swap z (pos (2 ^ 48)) (pos delta) ∙ ap (λ (y : ℤ). y *ℤ pos (2 ^ 48)) (*ℤ_comm z (pos delta)) }

pub over_sum : (delta : ℕ) (f g : Fraction) (n m : ℤ) → IsOver delta f n → IsOver delta g m → IsOver delta (f +ℚ g) (n +ℤ m)
over_sum delta f g n m hf hg =
    let a : (f.num *ℤ pos g.den) *ℤ pos delta ≡ (n *ℤ pos f.den) *ℤ pos g.den = swap f.num (pos g.den) (pos delta) ∙ ap (λ (z : ℤ). z *ℤ pos g.den) hf.is in
    let b : (g.num *ℤ pos f.den) *ℤ pos delta ≡ (m *ℤ pos g.den) *ℤ pos f.den = swap g.num (pos f.den) (pos delta) ∙ ap (λ (z : ℤ). z *ℤ pos f.den) hg.is in
    let c = distrib_right (f.num *ℤ pos g.den) (g.num *ℤ pos f.den) (pos delta) in
    let d = distrib_right n m (pos (f.den * g.den)) in
    let e : n *ℤ pos (f.den * g.den) ≡ (n *ℤ pos f.den) *ℤ pos g.den = sym (mul_assoc n (pos f.den) (pos g.den)) in
    let e2 : m *ℤ pos (f.den * g.den) ≡ (m *ℤ pos g.den) *ℤ pos f.den = sym (mul_assoc m (pos f.den) (pos g.den)) ∙ swap m (pos f.den) (pos g.den) in
    record { is = omega (arith, lin) }

pub over_negative : (delta : ℕ) (f : Fraction) (n : ℤ) → IsOver delta f n → IsOver delta (negative f) (neg_ℤ n)
over_negative delta f n h = record { is = neg_right f.num (pos delta) ∙ ap neg_ℤ h.is ∙ sym (neg_right n (pos f.den)) }

pub over_difference : (delta : ℕ) (f g : Fraction) (n m : ℤ) → IsOver delta f n → IsOver delta g m → IsOver delta (f -ℚ g) (n -ℤ m)
over_difference delta f g n m hf hg = over_sum delta f (negative g) n (neg_ℤ m) hf (over_negative delta g m hg)

-- a product is over the product of the denominators
pub over_product : (delta gamma : ℕ) (f g : Fraction) (n m : ℤ) → IsOver delta f n → IsOver gamma g m → IsOver (delta * gamma) (f *ℚ g) (n *ℤ m)
over_product delta gamma f g n m hf hg =
    let middle : (a b c d : ℤ) → (a *ℤ b) *ℤ (c *ℤ d) ≡ (a *ℤ c) *ℤ (b *ℤ d) =
    λ a b c d. sym (mul_assoc (a *ℤ b) c d) ∙ ap (λ (z : ℤ). z *ℤ d) (swap a b c) ∙ mul_assoc (a *ℤ c) b d in
    record {
      is =
          middle f.num g.num (pos delta) (pos gamma) ∙ ap (λ (z : ℤ). z *ℤ (g.num *ℤ pos gamma)) hf.is ∙ ap (λ (z : ℤ). (n *ℤ pos f.den) *ℤ z) hg.is
          ∙ middle n (pos f.den) m (pos g.den);
    }

-- a product with a whole number is over the same denominator
pub over_times : (delta : ℕ) (k : ℤ) (f : Fraction) (n : ℤ) → IsOver delta f n → IsOver delta (whole k *ℚ f) (k *ℤ n)
over_times delta k f n h =
    let e : 1 * f.den ≡ f.den = omega arith in
    record { is = mul_assoc k f.num (pos delta) ∙ ap (λ (z : ℤ). k *ℤ z) h.is ∙ sym (mul_assoc k n (pos f.den)) ∙ ap (λ (d : ℕ). (k *ℤ n) *ℤ pos d) (sym e) }

pub over_size : (delta : ℕ) (f : Fraction) (n : ℤ) → IsOver delta f n → IsOver delta (size f) (pos (unsigned_abs n))
over_size delta f n h = record { is = ap pos (omega (arith, ap unsigned_abs h.is, unsigned_abs-mul f.num (pos delta), unsigned_abs-mul n (pos f.den))) }

-- equal fractions have equal numerators, and back
pub over_same : (delta : ℕ) (f g : Fraction) (n m : ℤ) → 0 < delta → f ≈ℚ g → IsOver delta f n → IsOver delta g m → n ≡ m
over_same delta f g n m hd e hf hg =
    let a : (n *ℤ pos f.den) *ℤ pos g.den ≡ (m *ℤ pos f.den) *ℤ pos g.den =
    ap (λ (z : ℤ). z *ℤ pos g.den) (sym hf.is) ∙ swap f.num (pos delta) (pos g.den) ∙ ap (λ (z : ℤ). z *ℤ pos delta) e.cross ∙ swap g.num (pos f.den) (pos delta)
    ∙ ap (λ (z : ℤ). z *ℤ pos f.den) hg.is ∙ swap m (pos g.den) (pos f.den) in
    cancel_≡ n m f.den f.positive (cancel_≡ (n *ℤ pos f.den) (m *ℤ pos f.den) g.den g.positive a)

pub same_over : (delta : ℕ) (f g : Fraction) (n : ℤ) → 0 < delta → IsOver delta f n → IsOver delta g n → f ≈ℚ g
same_over delta f g n hd hf hg =
    let a : (f.num *ℤ pos g.den) *ℤ pos delta ≡ (n *ℤ pos f.den) *ℤ pos g.den = swap f.num (pos g.den) (pos delta) ∙ ap (λ (z : ℤ). z *ℤ pos g.den) hf.is in
    let b : (g.num *ℤ pos f.den) *ℤ pos delta ≡ (n *ℤ pos f.den) *ℤ pos g.den =
    swap g.num (pos f.den) (pos delta) ∙ ap (λ (z : ℤ). z *ℤ pos f.den) hg.is ∙ swap n (pos g.den) (pos f.den) in
    record { cross = cancel_≡ _ _ delta hd (a ∙ sym b) }

-- the order of fractions is that of their numerators
pub over_at_most : (delta : ℕ) (f g : Fraction) (n m : ℤ) → 0 < delta → f ≤ℚ g → IsOver delta f n → IsOver delta g m → n ≤ℤ m
over_at_most delta f g n m hd e hf hg =
    let a : (f.num *ℤ pos g.den) *ℤ pos delta ≡ (n *ℤ pos f.den) *ℤ pos g.den = swap f.num (pos g.den) (pos delta) ∙ ap (λ (z : ℤ). z *ℤ pos g.den) hf.is in
    let b : (g.num *ℤ pos f.den) *ℤ pos delta ≡ (m *ℤ pos f.den) *ℤ pos g.den =
    swap g.num (pos f.den) (pos delta) ∙ ap (λ (z : ℤ). z *ℤ pos f.den) hg.is ∙ swap m (pos g.den) (pos f.den) in
    let c = scale_≤ _ _ delta e.cross in
    let d : ((n *ℤ pos f.den) *ℤ pos g.den) ≤ℤ ((m *ℤ pos f.den) *ℤ pos g.den) = omega (arith, lin) in
    cancel_≤ n m f.den f.positive (cancel_≤ (n *ℤ pos f.den) (m *ℤ pos f.den) g.den g.positive d)

pub at_most_over : (delta : ℕ) (f g : Fraction) (n m : ℤ) → 0 < delta → n ≤ℤ m → IsOver delta f n → IsOver delta g m → f ≤ℚ g
at_most_over delta f g n m hd e hf hg =
    let a : (f.num *ℤ pos g.den) *ℤ pos delta ≡ (n *ℤ pos f.den) *ℤ pos g.den = swap f.num (pos g.den) (pos delta) ∙ ap (λ (z : ℤ). z *ℤ pos g.den) hf.is in
    let b : (g.num *ℤ pos f.den) *ℤ pos delta ≡ (m *ℤ pos f.den) *ℤ pos g.den =
    swap g.num (pos f.den) (pos delta) ∙ ap (λ (z : ℤ). z *ℤ pos f.den) hg.is ∙ swap m (pos g.den) (pos f.den) in
    let c = scale_≤ _ _ g.den (scale_≤ n m f.den e) in
    record { cross = cancel_≤ _ _ delta hd (omega (arith, lin)) }

-- ---- f and g are in order exactly where their numbers are, of which one is over delta and the other over its own denominator

pub above_own : (delta : ℕ) (f g : Fraction) (n : ℤ) → IsOver delta g n → f ≤ℚ g → (f.num *ℤ pos delta) ≤ℤ (n *ℤ pos f.den)
above_own delta f g n h k =
    let a : (f.num *ℤ pos g.den) *ℤ pos delta ≡ (f.num *ℤ pos delta) *ℤ pos g.den = swap f.num (pos g.den) (pos delta) in
    let b : (g.num *ℤ pos f.den) *ℤ pos delta ≡ (n *ℤ pos f.den) *ℤ pos g.den =
    swap g.num (pos f.den) (pos delta) ∙ ap (λ (z : ℤ). z *ℤ pos f.den) h.is ∙ swap n (pos g.den) (pos f.den) in
    let c = scale_≤ _ _ delta k.cross in
    cancel_≤ _ _ g.den g.positive (omega (arith, lin))

pub below_own : (delta : ℕ) (f g : Fraction) (n : ℤ) → IsOver delta f n → f ≤ℚ g → (n *ℤ pos g.den) ≤ℤ (g.num *ℤ pos delta)
below_own delta f g n h k =
    let a : (f.num *ℤ pos g.den) *ℤ pos delta ≡ (n *ℤ pos g.den) *ℤ pos f.den =
    swap f.num (pos g.den) (pos delta) ∙ ap (λ (z : ℤ). z *ℤ pos g.den) h.is ∙ swap n (pos f.den) (pos g.den) in
    let b : (g.num *ℤ pos f.den) *ℤ pos delta ≡ (g.num *ℤ pos delta) *ℤ pos f.den = swap g.num (pos f.den) (pos delta) in
    let c = scale_≤ _ _ delta k.cross in
    cancel_≤ _ _ f.den f.positive (omega (arith, lin))

pub own_above : (delta : ℕ) (f g : Fraction) (n : ℤ) → 0 < delta → IsOver delta g n → (f.num *ℤ pos delta) ≤ℤ (n *ℤ pos f.den) → f ≤ℚ g
own_above delta f g n hd h k =
    let a : (f.num *ℤ pos g.den) *ℤ pos delta ≡ (f.num *ℤ pos delta) *ℤ pos g.den = swap f.num (pos g.den) (pos delta) in
    let b : (g.num *ℤ pos f.den) *ℤ pos delta ≡ (n *ℤ pos f.den) *ℤ pos g.den =
    swap g.num (pos f.den) (pos delta) ∙ ap (λ (z : ℤ). z *ℤ pos f.den) h.is ∙ swap n (pos g.den) (pos f.den) in
    let c = scale_≤ _ _ g.den k in
    record { cross = cancel_≤ _ _ delta hd (omega (arith, lin)) }

pub own_below : (delta : ℕ) (f g : Fraction) (n : ℤ) → 0 < delta → IsOver delta f n → (n *ℤ pos g.den) ≤ℤ (g.num *ℤ pos delta) → f ≤ℚ g
own_below delta f g n hd h k =
    let a : (f.num *ℤ pos g.den) *ℤ pos delta ≡ (n *ℤ pos g.den) *ℤ pos f.den =
    swap f.num (pos g.den) (pos delta) ∙ ap (λ (z : ℤ). z *ℤ pos g.den) h.is ∙ swap n (pos f.den) (pos g.den) in
    let b : (g.num *ℤ pos f.den) *ℤ pos delta ≡ (g.num *ℤ pos delta) *ℤ pos f.den = swap g.num (pos f.den) (pos delta) in
    let c = scale_≤ _ _ f.den k in
    record { cross = cancel_≤ _ _ delta hd (omega (arith, lin)) }

-- ---- numerators that are natural numbers

natural_part : (delta d : ℕ) (m n : ℤ) → 0 < d → pos 0 ≤ℤ m → m *ℤ pos delta ≡ n *ℤ pos d → pos 0 ≤ℤ n
natural_part delta d m n some low e = cancel_≤ (pos 0) n d some (omega (arith, ints, scale_≤ (pos 0) m delta low, e))

-- a fraction that is not below 0 has a natural numerator
pub natural_over : (delta : ℕ) (f : Fraction) (n : ℤ) → pos 0 ≤ℤ f.num → IsOver delta f n → pos 0 ≤ℤ n
natural_over delta f n low h = natural_part delta f.den f.num n f.positive low h.is

-- and back
pub over_natural : (delta : ℕ) (f : Fraction) (n : ℤ) → 0 < delta → pos 0 ≤ℤ n → IsOver delta f n → pos 0 ≤ℤ f.num
over_natural delta f n hd low h = natural_part f.den delta n f.num hd low (sym h.is)

pub as_natural : (delta : ℕ) (f : Fraction) (n : ℤ) → pos 0 ≤ℤ n → IsOver delta f n → (k : ℕ) × (n ≡ pos k) × IsOver delta f (pos k)
as_natural delta f (pos k) low h = (k, refl, h)
as_natural delta f (negsuc k) low h = absurd (omega (arith, ints))

pub record Natural (delta : ℕ) (f : Fraction) : Type 0 where
  pub number : ℕ
  pub over : IsOver delta f (pos number)

pub natural_number : (delta : ℕ) (f : Fraction) (n : ℤ) → pos 0 ≤ℤ f.num → IsOver delta f n → Natural delta f
natural_number delta f n low h =
    let k = as_natural delta f n (natural_over delta f n low h) h in
    record { number = k.0; over = k.2 }

-- a fraction above 0 has a positive numerator
pub positive_over : (delta : ℕ) (f : Fraction) (n : ℤ) → pos 0 <ℤ f.num → 0 < delta → IsOver delta f n → pos 0 <ℤ n
positive_over delta f (pos zero) low hd h = absurd (omega (arith, ints, h.is, scale_≤ (pos 1) f.num delta (omega (arith, ints))))
positive_over delta f (pos (suc n)) low hd h = omega (arith, ints)
positive_over delta f (negsuc n) low hd h = absurd (omega (arith, ints, h.is, scale_≤ (pos 1) f.num delta (omega (arith, ints))))

-- ---- common denominators of lists

pub all_over_grow : (delta k : ℕ) (fs : List Fraction) (ns : List ℤ) → AllOver delta fs ns → AllOver (delta * k) fs (map (λ z. z *ℤ pos k) ns)
all_over_grow delta k [] [] h = tt
all_over_grow delta k [] (n ∷ ns) h = absurd h
all_over_grow delta k (f ∷ fs) [] h = absurd h
all_over_grow delta k (f ∷ fs) (n ∷ ns) h = (over_grow delta k f n h.0, all_over_grow delta k fs ns h.1)

-- a common denominator of a list of fractions, and their numerators
pub record Common (fs : List Fraction) : Type 0 where
  pub delta : ℕ
  pub positive : 0 < delta
  pub numerators : List ℤ
  pub over : AllOver delta fs numerators

-- every list of fractions has one
pub common : (fs : List Fraction) → Common fs
common [] = record { delta = 1; positive = omega arith; numerators = []; over = tt }
common (f ∷ fs) =
    let rest = common fs in
    let own : IsOver (f.den * rest.delta) f (f.num *ℤ pos rest.delta) = over_grow f.den rest.delta f f.num (over_own f) in
    let numbers : List ℤ = map (λ z. z *ℤ pos f.den) rest.numerators in
    let tail : AllOver (rest.delta * f.den) fs numbers = all_over_grow rest.delta f.den fs rest.numerators rest.over in
    record {
      delta = f.den * rest.delta;
      positive = mul-pos f.positive rest.positive;
      numerators = (f.num *ℤ pos rest.delta) ∷ numbers;
      over = (own, subst (λ (d : ℕ). AllOver d fs numbers) (mul_comm rest.delta f.den) tail);
    }

-- a common denominator that 2^48 divides, over which units have numerators too
pub record Numerators (fs : List Fraction) : Type 0 where
  pub base : ℕ
  pub some : 0 < base
  pub numbers : List ℤ
  pub over : AllOver (base * 2 ^ 48) fs numbers

pub numerators : (fs : List Fraction) → Numerators fs
numerators fs =
    let k = common fs in
    record { base = k.delta; some = k.positive; numbers = map (λ z. z *ℤ pos (2 ^ 48)) k.numerators; over = all_over_grow k.delta (2 ^ 48) fs k.numerators k.over }

pub number : (fs : List Fraction) (n : Numerators fs) (i : ℕ) → i < length fs → IsOver (n.base * 2 ^ 48) (get_or fs i (whole (pos 0))) (get_or n.numbers i (pos 0))
number fs n i h = AllZip-get_or (IsOver (n.base * 2 ^ 48)) fs n.numbers i (whole (pos 0)) (pos 0) n.over h
